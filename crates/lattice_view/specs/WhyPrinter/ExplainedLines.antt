-- A line with its best path, as the code stores it.
use Rattle.std.specs.Prelude.{◌≡◌, ℕ, List, slice_get, Some}
use Rattle.mj_model.specs.declared.word.Word.{Word}
use Rattle.mj_model.specs.Tables.{Overlay}
use Rattle.mj_model.specs.BestOver.{IsBestPathOver, cost_over}
use Rattle.viterbi.specs.Search.SearchedText.{SearchedText}
use Rattle.line_stream.specs.GoodLines.{IsGood}
use Rattle.lattice.specs.TextOver.{SurfaceLiesIn, text_over}
use Rattle.viterbi.specs.Rivals.PathSteps.{steps_of}
use Rattle.viterbi.specs.declared.rivals.rival_path.RivalPath.{RivalPath}
use Rattle.viterbi.specs.declared.rivals.step.PathStep.{PathStep}
use Rattle.lattice_view.specs.LatticePrinter.NodesInLine.{IsLow}
use Rattle.word_lookup.specs.Overlays.{overlay_of}
use Rattle.lattice_view.specs.declared.why_printer.explained_line.ExplainedLine.{ExplainedLine}

-- the dictionaries that segmented the line
abbrev pub overlay_of_line : ExplainedLine → Overlay
overlay_of_line l = overlay_of l.dictionaries.now

-- the line as a text to search
abbrev pub text_of_line : ExplainedLine → SearchedText
text_of_line l = text_over (overlay_of_line l) l.text.now

-- the words of the line's path
abbrev pub best_of_line : ExplainedLine → List Word
best_of_line l = l.path.now.words.items

-- the words of the path with their costs
abbrev pub steps_of_line : ExplainedLine → List PathStep
steps_of_line l = steps_of (overlay_of_line l).system.connection (best_of_line l)

-- the line is valid, its path is the best one, and the total is the cost of the path
pub record IsExplained (l : ExplainedLine) : Type 0 where
  pub good : IsGood l.text.now
  pub best : IsBestPathOver (overlay_of_line l) l.text.now (best_of_line l)
  pub total : l.path.now.total ≡ cost_over (overlay_of_line l) (best_of_line l)

-- the words of the steps lie in the line
abbrev pub AreInLine : ExplainedLine → List PathStep → Type 0
AreInLine l steps = (i : ℕ) (s : PathStep) → slice_get steps i ≡ Some s → SurfaceLiesIn l.text.now s.word

-- a rival can be printed: its words lie in the line, and its cost is far from overflow
pub record IsPrintable (l : ExplainedLine) (r : RivalPath) : Type 0 where
  pub steps : AreInLine l r.steps.items
  pub cost_low : IsLow r.cost
