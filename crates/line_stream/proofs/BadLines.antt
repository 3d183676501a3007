-- Invalid lines: the errors they have, and that they are not valid.
use Rattle.std.proofs.Common.{ℕ, List, arith}
use Rattle.std.specs.Prelude.{Result, Err, ◌<◌, length}
use Rattle.mj_model.specs.declared.limits.TheConstants.{SENTENCE_MAX}
use Rattle.line_stream.specs.GoodLines.{IsBad, IsGood}
use Rattle.line_stream.specs.declared.line_fault.LineFault.{LineFault}
use Rattle.line_stream.specs.declared.line_fault.LineFault.TheVariants.{TooLong, NotUtf8}

pub not_good : (line : List ℕ) (fault : LineFault) → IsBad line fault → IsGood line → ⊥
not_good line TooLong bad good = let short = good.0 in absurd (omega (arith, short, bad))
not_good line NotUtf8 bad good = bad.1 good.1

-- if the two errors of a line are reported, the error of any invalid line is
pub bad_reported : (Reports : List ℕ → Result (List ℕ) LineFault → Type 0)
    → ((line : List ℕ) → SENTENCE_MAX < length line → Reports line (Err TooLong))
    → ((line : List ℕ) → IsBad line NotUtf8 → Reports line (Err NotUtf8))
    → (line : List ℕ) (fault : LineFault) → IsBad line fault → Reports line (Err fault)
bad_reported Reports long no_text line TooLong bad = long line bad
bad_reported Reports long no_text line NotUtf8 bad = no_text line bad
