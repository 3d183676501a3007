-- The table that explains the segmentation of a line.
use Rattle.std.specs.Prelude.{◌≡◌, ℕ, ℤ, List, [], ◌∷◌, ◌++◌, Option, None, codes, reverse}
use Rattle.mj_model.specs.declared.word.Word.{Word}
use Rattle.mj_model.specs.Tables.{Overlay}
use Rattle.mj_model.specs.BestOver.{cost_over}
use Rattle.mj_model.specs.ReversedChains.{last_right}
use Rattle.mj_model.specs.Words.{words}
use Rattle.viterbi.specs.Rivals.PathSteps.{steps_of}
use Rattle.viterbi.specs.Rivals.RivalPaths.{IsRivalOrNone}
use Rattle.viterbi.specs.declared.rivals.step.PathStep.{PathStep}
use Rattle.viterbi.specs.declared.rivals.rival_path.RivalPath.{RivalPath}
use Rattle.lattice_view.specs.WhyPrinter.Rows.{eos_row, rows_if_some, step_row, why_heading}

-- a word of the best path with its costs: its row, and below it the rows of its rival, if it has
-- one
abbrev pub PrintsStep : Overlay → List ℕ → List Word → PathStep → List ℕ → Type 0
PrintsStep o line best s text =
    (rival : Option RivalPath) × IsRivalOrNone (words o line) o.system.connection best s.word rival
    × (text ≡ step_row o line None s ++ rows_if_some o line (cost_over o best) rival)

-- the text of consecutive words
abbrev pub PrintsSteps : (PathStep → List ℕ → Type 0) → List PathStep → List ℕ → Type 0
PrintsSteps Shows [] text = text ≡ []
PrintsSteps Shows (s ∷ ss) text = (first : List ℕ) × (more : List ℕ) × Shows s first × PrintsSteps Shows ss more × (text ≡ first ++ more)

-- the cost of connecting the last word of a path, or BOS, with EOS
abbrev pub eos_connection : Overlay → List Word → ℤ
eos_connection o path = o.system.connection (last_right (reverse path)) 0

-- the text after the words of a line: the row of EOS and an empty line
abbrev pub end_of : Overlay → List ℕ → List Word → List ℕ
end_of o line best = eos_row line (eos_connection o best) (cost_over o best) ++ codes "\n"

-- the table of a line with this best path: the heading, the words with their rivals, and the end
pub record IsLineExplanation (o : Overlay) (line : List ℕ) (best : List Word) (text : List ℕ) : Type 0 where
  pub words : List ℕ
  pub of_words : PrintsSteps (PrintsStep o line best) (steps_of o.system.connection best) words
  pub is : text ≡ why_heading ++ (words ++ end_of o line best)
