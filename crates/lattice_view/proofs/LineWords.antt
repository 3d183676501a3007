-- The words of a line's best path and of its rivals lie in the line, and no cost is close to
-- overflow.
use Rattle.std.proofs.Common.{◌≡◌, ℕ, zero, suc, ◌+◌, ◌<◌, List, [], ◌∷◌, ◌++◌, Option, None, Some, length, get_or, sym, ap, ◌∙◌, subst, slice_get}
use Rattle.std.specs.Prelude.{ℤ, pos, ◌+ℤ◌, IfSome}
use Rattle.std.specs.Option.{option_map}
use Rattle.std.proofs.lemmas.Option.{same_Some, slice_get-get_or, slice_get-map}
use Rattle.mj_model.specs.declared.word.Word.{Word}
use Rattle.mj_model.specs.Words.{words}
use Rattle.word_lookup.proofs.DictionaryLaws.{searchable}
use Rattle.lattice.proofs.NodeWords.{path_appears}
use Rattle.viterbi.proofs.Lists.{get_first, get_second}
use Rattle.lattice_view.specs.LatticePrinter.NodesInLine.{IsLow}
use Rattle.lattice_view.proofs.PrintableNodes.{best_is_low, low_path}
use Rattle.viterbi.specs.Rivals.PathSteps.{steps_after, steps_of, words_of}
use Rattle.viterbi.specs.Rivals.RivalPaths.{IsRivalOrNone}
use Rattle.viterbi.specs.declared.rivals.rival_path.RivalPath.{RivalPath}
use Rattle.viterbi.specs.declared.rivals.step.PathStep.{PathStep}
use Rattle.lattice_view.specs.WhyPrinter.ExplainedLines.{AreInLine, IsExplained, IsPrintable, best_of_line, overlay_of_line, steps_of_line}
use Rattle.lattice_view.specs.declared.why_printer.explained_line.ExplainedLine.{ExplainedLine}

-- ---- the words of steps

word_after : (conn : ℕ → ℕ → ℤ) (right : ℕ) (total : ℤ) (ws : List Word) (i : ℕ) (s : PathStep) → slice_get (steps_after conn right total ws) i ≡ Some s → slice_get ws i ≡ Some s.word
word_after conn right total [] i s at = absurd (cc)
word_after conn right total (w ∷ ws) zero s at =
    ap (λ (x : PathStep). Some x.word) (same_Some (record { word = w; connection = conn right w.left; total = (total +ℤ conn right w.left) +ℤ w.cost }) s at)
word_after conn right total (w ∷ ws) (suc i) s at = word_after conn w.right ((total +ℤ conn right w.left) +ℤ w.cost) ws i s at

-- the word of a step of a path
pub word_of_step : (conn : ℕ → ℕ → ℤ) (path : List Word) (i : ℕ) (s : PathStep) → slice_get (steps_of conn path) i ≡ Some s → slice_get path i ≡ Some s.word
word_of_step conn path i s at = word_after conn 0 (pos 0) path i s at

-- ---- the words lie in the line

pub step_there : (l : ExplainedLine) (steps : List PathStep) (i : ℕ) (none : PathStep) → steps ≡ steps_of_line l → i < length steps → slice_get (steps_of_line l) i ≡ Some (get_or steps i none)
step_there l steps i none are within = ap (λ (ss : List PathStep). slice_get ss i) (sym are) ∙ slice_get-get_or steps i none within

pub step_in_line : (l : ExplainedLine) → IsExplained l → AreInLine l (steps_of_line l)
step_in_line l cut i s at =
    path_appears l.dictionaries.now l.text.now (best_of_line l) cut.best.to i s.word cut.good.1 cut.good.0 cut.best.path
    (word_of_step (overlay_of_line l).system.connection (best_of_line l) i s at)

-- ---- rivals

pub rival_printable : (l : ExplainedLine) (w : Word) (rival : Option RivalPath) → IsExplained l → IsRivalOrNone (words (overlay_of_line l) l.text.now) (overlay_of_line l).system.connection (best_of_line l) w rival
    → IfSome rival (IsPrintable l)
rival_printable l w None cut is = tt
rival_printable l w (Some r) cut is =
    let d = l.dictionaries.now in
    let o = overlay_of_line l in
    let s = searchable d l.text.now cut.good.1 cut.good.0 in
    let shown = words_of r.steps.items in
    let path = is.front ++ (shown ++ is.back) in
    record {
      steps = λ i t at.
          let among : slice_get shown i ≡ Some t.word = slice_get-map (λ (x : PathStep). x.word) r.steps.items i ∙ ap (option_map (λ (x : PathStep). x.word)) at in
          path_appears d l.text.now path is.to (length is.front + i) t.word cut.good.1 cut.good.0 is.is_path (get_second is.front (shown ++ is.back) i t.word (get_first shown is.back i t.word among));
      cost_low = subst IsLow (sym is.cost_is) (low_path (words o l.text.now) o.system.connection (length l.text.now) s.source path is.to s.short is.is_path.chain);
    }

pub total_low : (l : ExplainedLine) → IsExplained l → IsLow l.path.now.total
total_low l cut = best_is_low l.dictionaries.now l.text.now (best_of_line l) l.path.now.total cut.good.1 cut.good.0 cut.best cut.total
