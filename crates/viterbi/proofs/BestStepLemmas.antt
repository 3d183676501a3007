-- The steps of the best path, one word after another: those so far, with those of the words that
-- are left, are all of them.
use Rattle.std.proofs.Common.{◌≡◌, ℕ, ◌*◌, ◌^◌, ◌≤◌, List, [], ◌∷◌, ◌++◌, sym, ap, ◌∙◌, subst, arith}
use Rattle.std.specs.Prelude.{ℤ, pos, ◌+ℤ◌}
use Rattle.std.proofs.lemmas.Int.{ints}
use Rattle.std.proofs.lemmas.List.{append-nil, append_assoc}
use Rattle.mj_model.specs.Bounds.{IsWithin}
use Rattle.mj_model.specs.declared.word.Word.{Word}
use Rattle.mj_model.specs.Paths.{IsChain}
use Rattle.mj_model.specs.Searchable.{MayFollow}
use Rattle.viterbi.specs.Search.SearchedText.{CanBeSearched, IsBestIn, SearchedText}
use Rattle.viterbi.specs.Rivals.PathSteps.{steps_after, steps_of}
use Rattle.viterbi.specs.declared.rivals.step.PathStep.{PathStep}
use Rattle.viterbi.proofs.JoinedLemmas.{step_is}

-- the steps so far, before the remaining words: a right id, what the path costs so far, and the
-- position of these words
pub record AreStepsBefore (t : SearchedText) (path left : List Word) (right : ℕ) (total : ℤ) (steps : List PathStep) : Type 0 where
  pub place : ℕ
  pub to : ℕ
  pub chain : IsChain t.words place left to
  pub low : place ≤ t.text_length
  pub small : IsWithin (2 ^ 16 * place) total
  pub pairs : (next : ℕ) → MayFollow t.is_pair t.words next → t.is_pair right next
  pub all : steps ++ steps_after t.connection right total left ≡ steps_of t.connection path

module _ (t : SearchedText) (source : CanBeSearched t) (path : List Word) where
  pub steps_none : IsBestIn t path → (left : List Word) (steps : List PathStep) → left ≡ path → steps ≡ [] → AreStepsBefore t path left 0 (pos 0) steps
  steps_none best left steps whole none = record {
    place = 0;
    to = best.to;
    chain = subst (λ (ws : List Word). IsChain t.words 0 ws best.to) (sym whole) best.path.chain;
    low = omega arith;
    small = (omega (arith, ints), omega (arith, ints));
    pairs = λ next may. may.after_bos;
    all = ap (λ (xs : List PathStep). xs ++ steps_after t.connection 0 (pos 0) left) none ∙ ap (steps_after t.connection 0 (pos 0)) whole;
  }

  module _ (w : Word) (rest : List Word) (right : ℕ) (total : ℤ) (steps : List PathStep) (so_far : AreStepsBefore t path (w ∷ rest) right total steps) where
    pub total_small : IsWithin (2 ^ 43) total
    total_small =
        let s = so_far.small in
        let low = so_far.low in
        let short = source.short in
        (omega (arith, ints, s.0, low, short), omega (arith, ints, s.1, low, short))

    pub may_follow : t.is_pair right w.left
    may_follow = so_far.pairs w.left (source.word_follows so_far.place w so_far.chain.0)

    pub steps_more : (s : PathStep) (sum_after : ℤ) (after : List PathStep) → s.word ≡ w → s.connection ≡ t.connection right w.left → s.total ≡ (total +ℤ t.connection right w.left) +ℤ w.cost → sum_after ≡ s.total → after ≡ steps ++ (s ∷ []) → AreStepsBefore t path rest w.right sum_after after
    steps_more s sum_after after word connects forward_costs same pushed =
        let has = so_far.chain.0 in
        let on = source.source.are.go_on so_far.place w has in
        let end = source.source.are.within so_far.place w has in
        let connection = source.source.connections right w.left in
        let own = source.source.costs so_far.place w has in
        let small = so_far.small in
        let sum : sum_after ≡ (total +ℤ t.connection right w.left) +ℤ w.cost = same ∙ forward_costs in
        let is = step_is s w (t.connection right w.left) ((total +ℤ t.connection right w.left) +ℤ w.cost) word connects forward_costs in
        record {
          place = w.end;
          to = so_far.to;
          chain = so_far.chain.1;
          low = end;
          small = (omega (arith, ints, small.0, connection.0, own.0, on, sum), omega (arith, ints, small.1, connection.1, own.1, on, sum));
          pairs = λ next may. may.after_word so_far.place w has;
          all =
              ap (λ (xs : List PathStep). xs ++ steps_after t.connection w.right sum_after rest) pushed
              ∙ append_assoc steps (s ∷ []) (steps_after t.connection w.right sum_after rest)
              ∙ ap (λ (z : ℤ). steps ++ (s ∷ steps_after t.connection w.right z rest)) sum
              ∙ ap (λ (x : PathStep). steps ++ (x ∷ steps_after t.connection w.right ((total +ℤ t.connection right w.left) +ℤ w.cost) rest)) is
              ∙ so_far.all;
        }

  pub steps_all : (right : ℕ) (total : ℤ) (steps : List PathStep) → AreStepsBefore t path [] right total steps → steps ≡ steps_of t.connection path
  steps_all right total steps so_far = sym (append-nil steps) ∙ so_far.all
