-- The text appended for a rival, for a word with its rival, and for a line.
use Rattle.std.proofs.Common.{◌≡◌, ℕ, ◌+◌, ◌<◌, List, [], ◌∷◌, ◌++◌, length, take, get_or, append-nil, Option, None, Some, Result, Ok, Err, sym, ap, ◌∙◌, refl, append_assoc}
use Rattle.std.specs.Prelude.{ℤ, ◌-ℤ◌, OnOk, flat_map}
use Rattle.std.proofs.lemmas.List.{take_more}
use Rattle.std.proofs.lemmas.List.Concat.{flat_map-append}
use Rattle.mj_model.specs.declared.word.Word.{Word}
use Rattle.mj_model.specs.Lists.{GrowsBy}
use Rattle.mj_model.specs.Tables.{Overlay}
use Rattle.mj_model.specs.BestOver.{IsBestPathOver, cost_over}
use Rattle.mj_model.specs.Words.{words}
use Rattle.lattice_view.proofs.PrintedWords.{three}
use Rattle.viterbi.specs.Rivals.PathSteps.{steps_of}
use Rattle.viterbi.specs.Rivals.RivalPaths.{IsRivalOrNone}
use Rattle.viterbi.specs.declared.rivals.rival_path.RivalPath.{RivalPath}
use Rattle.viterbi.specs.declared.rivals.step.PathStep.{PathStep}
use Rattle.lattice_view.specs.WhyPrinter.PrintedWhy.{PrintsWhy}
use Rattle.lattice_view.specs.WhyPrinter.Rows.{gap_unless, rival_rows, rows_if_some, step_row, why_heading}
use Rattle.lattice_view.specs.WhyPrinter.LineExplanations.{IsLineExplanation, PrintsStep, PrintsSteps, end_of}

-- the rows of a rival, with what it lost
pub rival_shown : {E : Type 0} (r : Result (Unit {0}) E) (o : Overlay) (line : List ℕ) (best by : ℤ) (steps : List PathStep) (rival : RivalPath) (old first second new : List ℕ)
    → by ≡ rival.cost -ℤ best → steps ≡ rival.steps.items → first ≡ old ++ gap_unless rival.begins by → second ≡ first ++ flat_map (step_row o line (Some by)) steps
    → OnOk r (new ≡ second ++ gap_unless rival.ends by) → OnOk r (new ≡ old ++ rival_rows o line best rival)
rival_shown (Err e) o line best by steps rival old first second new by_is steps_are a b c = tt
rival_shown (Ok x) o line best by steps rival old first second new by_is steps_are a b c =
    three old first second new (gap_unless rival.begins by) (flat_map (step_row o line (Some by)) steps) (gap_unless rival.ends by) a b c
    ∙ ap (λ (ss : List PathStep). old ++ (gap_unless rival.begins by ++ (flat_map (step_row o line (Some by)) ss ++ gap_unless rival.ends by))) steps_are
    ∙ ap (λ (z : ℤ). old ++ (gap_unless rival.begins z ++ (flat_map (step_row o line (Some z)) rival.steps.items ++ gap_unless rival.ends z))) by_is

-- the rows of words up to one, and its row
pub row_more : (row : PathStep → List ℕ) (steps : List PathStep) (i : ℕ) (none : PathStep) (old mid new : List ℕ) → i < length steps → mid ≡ old ++ flat_map row (take i steps) → new ≡ mid ++ row (get_or steps i none)
    → new ≡ old ++ flat_map row (take (i + 1) steps)
row_more row steps i none old mid new within before more =
    let s = get_or steps i none in
    let split : flat_map row (take (i + 1) steps) ≡ flat_map row (take i steps) ++ row s =
    ap (flat_map row) (take_more steps i none within) ∙ flat_map-append row (take i steps) (s ∷ []) ∙ ap (λ (text : List ℕ). flat_map row (take i steps) ++ text) (append-nil (row s)) in
    more ∙ ap (λ (text : List ℕ). text ++ row s) before ∙ append_assoc old (flat_map row (take i steps)) (row s) ∙ ap (λ (text : List ℕ). old ++ text) (sym split)

-- the row of a word, and the rows of its rival
pub word_shown : {E : Type 0} (r : Result (Unit {0}) E) (o : Overlay) (line : List ℕ) (best : List Word) (s : PathStep) (rival : Option RivalPath) (old mid new : List ℕ)
    → IsRivalOrNone (words o line) o.system.connection best s.word rival → mid ≡ old ++ step_row o line None s → OnOk r (new ≡ mid ++ rows_if_some o line (cost_over o best) rival)
    → OnOk r (GrowsBy (PrintsStep o line best s) old new)
word_shown (Err e) o line best s rival old mid new is a b = tt
word_shown (Ok x) o line best s rival old mid new is a b =
    let rows = rows_if_some o line (cost_over o best) rival in
    (step_row o line None s ++ rows, (rival, is, refl), b ∙ ap (λ (text : List ℕ). text ++ rows) a ∙ append_assoc old (step_row o line None s) rows)

-- the heading, the words, and the end
pub sheet_shown : {E : Type 0} (r : Result (Unit {0}) E) (o : Overlay) (line : List ℕ) (best : List Word) (old first second new : List ℕ) → first ≡ old ++ why_heading
    → GrowsBy (PrintsSteps (PrintsStep o line best) (steps_of o.system.connection best)) first second → OnOk r (new ≡ second ++ end_of o line best) → OnOk r (GrowsBy (IsLineExplanation o line best) old new)
sheet_shown (Err e) o line best old first second new a b c = tt
sheet_shown (Ok x) o line best old first second new a (shown, are, b) c =
    (why_heading ++ (shown ++ end_of o line best), record { words = shown; of_words = are; is = refl }, three old first second new why_heading shown (end_of o line best) a b c)

-- the best path of a line is printed
pub why_printed : {E : Type 0} (r : Result (Unit {0}) E) (o : Overlay) (line : List ℕ) (best : List Word) (old new : List ℕ) → IsBestPathOver o line best → OnOk r (GrowsBy (IsLineExplanation o line best) old new) → OnOk r (GrowsBy (PrintsWhy o line) old new)
why_printed (Err e) o line best old new is h = tt
why_printed (Ok x) o line best old new is (text, sheet, grown) = (text, (best, is, sheet), grown)
