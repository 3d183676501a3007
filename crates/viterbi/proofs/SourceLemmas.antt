-- What is known of the words of a source that some chain reaches: which may follow which, and that
-- no cost is near overflow.
use Rattle.std.proofs.Common.{◌≡◌, ℕ, ◌^◌, ◌≤◌, Option, None, Some, arith, slice_get}
use Rattle.std.proofs.lemmas.Option.{none-some}
use Rattle.mj_model.specs.declared.word.Word.{Word}
use Rattle.viterbi.specs.Search.SearchedText.{CanBeSearched, SearchedText}
use Rattle.viterbi.specs.Nodes.Assembled.{IsSmallIfSome, IsSmallTotal}
use Rattle.viterbi.specs.declared.nodes.cost.ChainCost.{ChainCost}
use Rattle.viterbi.specs.declared.nodes.reachable_words.ReachableWords.{ReachableWords}
use Rattle.viterbi.specs.Nodes.LatticeNodes.{CostsUpTo}
use Rattle.viterbi.specs.Nodes.Least.{IsLeastOf, number_of}
use Rattle.viterbi.specs.Nodes.ReachableWords.{AreReachedIn}
use Rattle.viterbi.specs.Nodes.BackwardCosts.{CostsToEos}
use Rattle.viterbi.proofs.PathParts.{small_on, small_up_to}
use Rattle.viterbi.proofs.ForwardCostLemmas.{some_total, word_end, word_there}

module _ (t : SearchedText) (r : ReachableWords) (source : CanBeSearched t) (reached : AreReachedIn t r) where
  -- ---- ids

  pub follows_bos : (i : ℕ) (w : Word) → slice_get r.words.items i ≡ Some w → t.is_pair 0 w.left
  follows_bos i w at = (source.word_follows w.place w (word_there t.words t.connection t.text_length source.source r.words.items reached.are i w at)).after_bos

  pub follows_word : (i k : ℕ) (u w : Word) → slice_get r.words.items i ≡ Some u → slice_get r.words.items k ≡ Some w → t.is_pair u.right w.left
  follows_word i k u w at_u at_w =
      (source.word_follows w.place w (word_there t.words t.connection t.text_length source.source r.words.items reached.are k w at_w)).after_word u.place u
      (word_there t.words t.connection t.text_length source.source r.words.items reached.are i u at_u)

  pub eos_follows : (i : ℕ) (w : Word) → slice_get r.words.items i ≡ Some w → t.is_pair w.right 0
  eos_follows i w at = source.eos_follows.after_word w.place w (word_there t.words t.connection t.text_length source.source r.words.items reached.are i w at)

  -- ---- costs

  pub ends_within : (k : ℕ) (w : Word) → slice_get r.words.items k ≡ Some w → w.end ≤ t.text_length
  ends_within k w at = word_end t.words t.connection t.text_length source.source r.words.items reached.are k w at

  pub ends_low : (k : ℕ) (w : Word) → slice_get r.words.items k ≡ Some w → w.end ≤ 2 ^ 20
  ends_low k w at =
      let a = ends_within k w at in
      let b = source.short in
      omega (arith, a, b)

  pub total_there : (k : ℕ) (w : Word) (o : Option ChainCost) → slice_get r.words.items k ≡ Some w → IsLeastOf (CostsUpTo t.words t.connection w) (number_of o) → (x : ChainCost) × (o ≡ Some x)
  total_there k w o at h = some_total t.words t.connection t.text_length source.source r.words.items reached.are w o (reached.are.each k w at) h

  pub total_small : (k : ℕ) (w : Word) (o : Option ChainCost) → slice_get r.words.items k ≡ Some w → IsLeastOf (CostsUpTo t.words t.connection w) (number_of o) → IsSmallTotal o
  total_small k w None at h = let b = total_there k w None at h in none-some b.0 b.1
  total_small k w (Some x) at h = small_up_to t.words t.connection t.text_length source.source w x.cost source.short (ends_within k w at) h.0

  pub backward_small : (k : ℕ) (w : Word) (o : Option ChainCost) → slice_get r.words.items k ≡ Some w → IsLeastOf (CostsToEos t.words t.connection w) (number_of o) → IsSmallIfSome o
  backward_small k w None at h = tt
  backward_small k w (Some x) at h = small_on t.words t.connection t.text_length source.source w x.cost source.short (ends_within k w at) h.0
