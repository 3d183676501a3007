-- The progress of a run: the lines printed so far, and their output.
use Rattle.std.specs.Prelude.{◌≡◌, ℕ, ◌+◌, ◌<◌, ◌≤◌, List, ◌∷◌, ◌++◌, length, All, false, None, Result, Ok, Err, ◌⊎◌}
use Rattle.mj_model.specs.declared.limits.TheConstants.{SENTENCE_MAX}
use Rattle.mj_model.specs.Bytes.{is_line_feed}
use Rattle.mj_model.specs.Output.{Output, text_lines}
use Rattle.mj_model.specs.TextLines.{complete_lines, unfinished_line}
use Rattle.line_stream.specs.declared.line_fault.LineFault.{LineFault}
use Rattle.line_stream.specs.declared.line_fault.LineFault.TheVariants.{TooLong}
use Rattle.line_stream.specs.declared.line_fault.LineError.{LineError}
use Rattle.line_stream.specs.declared.line_fault.LineError.TheVariants.{Bad, Memory}

-- these lines, numbered from `number`, are all valid and print `text`
abbrev pub AllPrint : (List ℕ → Result (List ℕ) LineFault → Type 0) → ℕ → List (List ℕ) → List ℕ → Type 0
AllPrint Reports number lines text = Output Reports number lines text None

-- the line is valid, and `out` grew by its output
abbrev pub IsPrinted : (List ℕ → Result (List ℕ) LineFault → Type 0) → List ℕ → List ℕ → List ℕ → Type 0
IsPrinted Reports line out_before out_after = (text : List ℕ) × Reports line (Ok text) × (out_after ≡ out_before ++ text)

-- no byte is an LF
abbrev pub HasNoFeed : List ℕ → Type 0
HasNoFeed bytes = All (λ c. is_line_feed c ≡ false) bytes

-- after `before` printed lines these lines printed too, and `out` grew by their output
pub record Processed (Reports : List ℕ → Result (List ℕ) LineFault → Type 0)
    (before : ℕ) (out_before : List ℕ) (lines : List (List ℕ)) (after : ℕ) (out_after : List ℕ) : Type 0 where
  pub text : List ℕ
  pub print : AllPrint Reports (before + 1) lines text
  pub counted : after ≡ before + length lines
  pub appended : out_after ≡ out_before ++ text

-- the text has another line after `lines`, and it is not too long
abbrev pub HasNext : List ℕ → List (List ℕ) → Type 0
HasNext bytes lines = (next : List ℕ) × (rest : List (List ℕ)) × (text_lines bytes ≡ lines ++ next ∷ rest) × (length next ≤ SENTENCE_MAX)

-- why the step stopped after the lines `done`: memory ran out at the next line, that line is
-- invalid, or the unfinished line is already too long
abbrev pub IsCause : (List ℕ → Result (List ℕ) LineFault → Type 0) → List ℕ → List (List ℕ) → LineError → Type 0
IsCause Reports bytes done Memory = (more : List (List ℕ)) × (complete_lines bytes ≡ done ++ more) × HasNext bytes done
IsCause Reports bytes done (Bad fault) =
    ((bad : List ℕ) × (more : List (List ℕ)) × (complete_lines bytes ≡ done ++ bad ∷ more) × Reports bad (Err fault))
    ⊎ ((complete_lines bytes ≡ done) × (fault ≡ TooLong) × Reports (unfinished_line bytes) (Err TooLong) × (SENTENCE_MAX < length (unfinished_line bytes)))
