-- The output of a text. Its lines end at LF, which the last line may lack. The output of the lines
-- follows one another, up to the first invalid line.
use Rattle.std.specs.Prelude.{◌≡◌, ℕ, ◌+◌, List, [], ◌∷◌, ◌++◌, Option, Some, None, Result, Ok, Err, ◌⊎◌}
use Rattle.mj_model.specs.Lines.{pieces}

-- the lines of a text; a carriage return is an ordinary character
abbrev pub text_lines : List ℕ → List (List ℕ)
text_lines bytes = pieces bytes

-- an invalid line: its number and its error
pub record BadLine (Fault : Type 0) : Type 0 where
  pub number : ℕ
  pub fault : Fault

-- the output of the lines from number `number` on, up to the first invalid line, if there is one.
-- For a line, `Reports` holds of `Ok text` if the line is printed as `text`, and of `Err fault` if
-- the line has this error
abbrev pub Output : {Fault : Type 0} → (List ℕ → Result (List ℕ) Fault → Type 0) → ℕ → List (List ℕ) → List ℕ → Option (BadLine Fault) → Type 0
Output Reports number [] out bad = (out ≡ []) × (bad ≡ None)
Output {Fault} Reports number (line ∷ lines) out bad =
    ((fault : Fault) × Reports line (Err fault) × (out ≡ []) × (bad ≡ Some (record { number = number; fault = fault })))
    ⊎ ((text : List ℕ) × (more : List ℕ) × Reports line (Ok text) × Output Reports (number + 1) lines more bad × (out ≡ text ++ more))
