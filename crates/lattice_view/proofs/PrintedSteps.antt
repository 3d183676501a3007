-- The text of consecutive words.
use Rattle.std.proofs.Common.{◌≡◌, ℕ, ◌+◌, ◌≤◌, List, [], ◌∷◌, ◌++◌, Some, length, drop, sym, ap, ◌∙◌, subst, append_assoc, append-nil, refl, slice_get}
use Rattle.std.proofs.lemmas.List.{drop_all, drop_more}
use Rattle.std.proofs.lemmas.Option.{get_or_from_slice_get, slice_get_within}
use Rattle.viterbi.specs.declared.rivals.step.PathStep.{PathStep}
use Rattle.lattice_view.specs.WhyPrinter.LineExplanations.{PrintsSteps}

-- the element at an index is the first of the remaining ones
rest_from : (ss : List PathStep) (i : ℕ) (s : PathStep) → slice_get ss i ≡ Some s → drop i ss ≡ s ∷ drop (i + 1) ss
rest_from ss i s at = drop_more ss i s (slice_get_within ss i s at) ∙ ap (λ z. z ∷ drop (i + 1) ss) (get_or_from_slice_get ss i s s at)

-- the text of the words before an index was appended: together with the text of the remaining words
-- it is the text of all
pub record StepsSoFar (Shows : PathStep → List ℕ → Type 0) (steps : List PathStep) (i : ℕ) (old mid : List ℕ) : Type 0 where
  pub so_far : List ℕ
  pub appended : mid ≡ old ++ so_far
  pub with_rest : (more : List ℕ) → PrintsSteps Shows (drop i steps) more → PrintsSteps Shows steps (so_far ++ more)

pub none_so_far : (Shows : PathStep → List ℕ → Type 0) (steps : List PathStep) (old : List ℕ) → StepsSoFar Shows steps 0 old old
none_so_far Shows steps old = record { so_far = []; appended = sym (append-nil old); with_rest = λ more h. h }

pub step_more : (Shows : PathStep → List ℕ → Type 0) (steps : List PathStep) (i : ℕ) (s : PathStep) (old mid new : List ℕ) → slice_get steps i ≡ Some s → StepsSoFar Shows steps i old mid
    → (shown : List ℕ) → Shows s shown → new ≡ mid ++ shown → StepsSoFar Shows steps (i + 1) old new
step_more Shows steps i s old mid new at before front is e = record {
  so_far = before.so_far ++ front;
  appended = e ∙ ap (λ (text : List ℕ). text ++ front) before.appended ∙ append_assoc old before.so_far front;
  with_rest = λ more h.
      let all : PrintsSteps Shows (drop i steps) (front ++ more) = subst (λ (ss : List PathStep). PrintsSteps Shows ss (front ++ more)) (sym (rest_from steps i s at)) (front, more, is, h, refl) in
      subst (PrintsSteps Shows steps) (sym (append_assoc before.so_far front more)) (before.with_rest (front ++ more) all);
}

pub all_steps : (Shows : PathStep → List ℕ → Type 0) (steps : List PathStep) (i : ℕ) (old new : List ℕ) → length steps ≤ i → StepsSoFar Shows steps i old new
    → (shown : List ℕ) × PrintsSteps Shows steps shown × (new ≡ old ++ shown)
all_steps Shows steps i old new past before =
    let none : PrintsSteps Shows (drop i steps) [] = subst (λ (ss : List PathStep). PrintsSteps Shows ss []) (sym (drop_all i steps past)) refl in
    (before.so_far, subst (PrintsSteps Shows steps) (append-nil before.so_far) (before.with_rest [] none), before.appended)
