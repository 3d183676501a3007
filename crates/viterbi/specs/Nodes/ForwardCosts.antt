-- Forward costs, as they are propagated from word to word.
use Rattle.std.specs.Prelude.{◌≡◌, ℕ, ℤ, pos, ◌+ℤ◌, ◌+◌, ◌<◌, ◌≤◌, List, [], ◌∷◌, length, slice_get, Option, Some, None}
use Rattle.mj_model.specs.declared.word.Word.{Word}
use Rattle.mj_model.specs.ReversedChains.{IsChainTo, cost_to}
use Rattle.viterbi.specs.Search.SearchedText.{SearchedText}
use Rattle.viterbi.specs.declared.nodes.cost.ChainCost.{ChainCost}
use Rattle.viterbi.specs.declared.nodes.reachable_words.ReachableWords.{ReachableWords}
use Rattle.viterbi.specs.Nodes.LatticeNodes.{CostsUpTo}
use Rattle.viterbi.specs.Nodes.Least.{IsLeastOf, number_of}

-- the chain is empty, or its head is one of the first `count` words
abbrev pub HeadIsBelow : List Word → ℕ → List Word → Type 0
HeadIsBelow ws count [] = Unit {0}
HeadIsBelow ws count (v ∷ vs) = (k : ℕ) × (k < count) × (slice_get ws k ≡ Some v)

-- c is the cost of a chain that ends with w, whose predecessor is one of the first `count` words or
-- BOS
abbrev pub CostsUpToBelow : (ℕ → List Word) → (ℕ → ℕ → ℤ) → List Word → ℕ → Word → ℤ → Type 0
CostsUpToBelow words conn ws count w c = (before : List Word) × IsChainTo words (w ∷ before) w.end × HeadIsBelow ws count before × (c ≡ cost_to conn (w ∷ before))

-- the forward costs of the first `count` words were propagated to all words, and that of the next
-- word to the words before `number`
pub record ArePropagated (words : ℕ → List Word) (conn : ℕ → ℕ → ℤ) (ws : List Word) (count number : ℕ) (forward_costs : List (Option ChainCost)) : Type 0 where
  pub long : length forward_costs ≡ length ws
  pub past : (k : ℕ) (w : Word) (o : Option ChainCost) → k < number → slice_get ws k ≡ Some w → slice_get forward_costs k ≡ Some o
      → IsLeastOf (CostsUpToBelow words conn ws (count + 1) w) (number_of o)
  pub rest : (k : ℕ) (w : Word) (o : Option ChainCost) → number ≤ k → slice_get ws k ≡ Some w → slice_get forward_costs k ≡ Some o
      → IsLeastOf (CostsUpToBelow words conn ws count w) (number_of o)

-- the forward costs of the first `count` reachable words of a text were propagated to all, and that
-- of the next word to the words before `number`
abbrev pub ArePropagatedIn : SearchedText → ReachableWords → ℕ → ℕ → List (Option ChainCost) → Type 0
ArePropagatedIn t r count number forward_costs = ArePropagated t.words t.connection r.words.items count number forward_costs

-- the cost of a word after BOS, or none if it doesn't start the text
abbrev pub IsFirstForwardCost : SearchedText → Word → Option ChainCost → Type 0
IsFirstForwardCost t w None = w.place ≡ 0 → ⊥
IsFirstForwardCost t w (Some chain) = (w.place ≡ 0) × (chain.cost ≡ (pos 0 +ℤ t.connection 0 w.left) +ℤ w.cost)

-- the costs are the forward costs of all words
pub record AreForwardCostsIn (t : SearchedText) (r : ReachableWords) (forward_costs : List (Option ChainCost)) : Type 0 where
  pub long : length forward_costs ≡ length r.words.items
  pub each : (k : ℕ) (w : Word) (o : Option ChainCost) → slice_get r.words.items k ≡ Some w → slice_get forward_costs k ≡ Some o
      → IsLeastOf (CostsUpTo t.words t.connection w) (number_of o)
