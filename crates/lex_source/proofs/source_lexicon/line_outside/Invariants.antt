use Rattle.std.proofs.Common.{◌≡◌, ℕ, drop}
use Rattle.mj_model.specs.Dictionary.{first_outside}
use Rattle.mj_model.specs.Lexicon.{rows_of}
use Rattle.lex_source.proofs.source_lexicon.line_outside.Given as goal

abbrev pub invariant-loop-record : goal.invariant-loop-record
invariant-loop-record l =
    (file : ℕ) → first_outside file l.sizes (rows_of l.records)
    ≡ first_outside file l.sizes (rows_of (drop l.record-index l.records))
