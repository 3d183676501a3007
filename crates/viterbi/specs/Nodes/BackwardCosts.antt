-- Backward costs, as they are computed from the last word back to the first.
use Rattle.std.specs.Prelude.{◌≡◌, ℕ, ℤ, ◌+ℤ◌, ◌<◌, ◌≤◌, ◌⊎◌, List, length, slice_get, Option, Some, None}
use Rattle.mj_model.specs.declared.word.Word.{Word}
use Rattle.mj_model.specs.Cost.{cost_after}
use Rattle.mj_model.specs.Paths.{IsChain}
use Rattle.viterbi.specs.Search.SearchedText.{SearchedText}
use Rattle.viterbi.specs.declared.nodes.cost.ChainCost.{ChainCost}
use Rattle.viterbi.specs.declared.nodes.reachable_words.ReachableWords.{ReachableWords}
use Rattle.viterbi.specs.Nodes.Least.{IsLeastOf, IsLesser, number_of}
use Rattle.viterbi.specs.Nodes.ForwardCosts.{HeadIsBelow}

-- no chain from the start of the text ends later
abbrev pub IsLongest : (ℕ → List Word) → ℕ → Type 0
IsLongest words to = (vs : List Word) (later : ℕ) → IsChain words 0 vs later → later ≤ to

-- c is the cost of words that follow w to the end of a path, with the connection to EOS
abbrev pub CostsToEos : (ℕ → List Word) → (ℕ → ℕ → ℤ) → Word → ℤ → Type 0
CostsToEos words conn w c = (after : List Word) × (to : ℕ) × IsChain words w.end after to × IsLongest words to × (c ≡ cost_after conn w.right after)

-- c is the cost of words that follow w to the end of a path, with the connection to EOS. There are
-- none, or the first is one of the first `count` words
abbrev pub CostsToEosBelow : (ℕ → List Word) → (ℕ → ℕ → ℤ) → List Word → ℕ → Word → ℤ → Type 0
CostsToEosBelow words conn ws count w c = (after : List Word) × (to : ℕ) × IsChain words w.end after to × IsLongest words to × HeadIsBelow ws count after × (c ≡ cost_after conn w.right after)

-- the greatest end of the words, or 0
pub record IsLastEnd (ws : List Word) (last : ℕ) : Type 0 where
  pub each : (i : ℕ) (w : Word) → slice_get ws i ≡ Some w → w.end ≤ last
  pub there : (last ≡ 0) ⊎ ((i : ℕ) × (w : Word) × (slice_get ws i ≡ Some w) × (w.end ≡ last))

-- the connection cost to EOS of a word that ends at the last end, or none if it ends earlier
abbrev pub IsEosCost : SearchedText → ℕ → Word → Option ChainCost → Type 0
IsEosCost t last w None = w.end ≡ last → ⊥
IsEosCost t last w (Some chain) = (w.end ≡ last) × (chain.cost ≡ t.connection w.right 0)

-- the backward costs of the words from `number` on are known; each earlier word has its connection
-- cost to EOS, if it can be the last one
pub record AreBackwardCosts (words : ℕ → List Word) (conn : ℕ → ℕ → ℤ) (ws : List Word) (number : ℕ) (backward_costs : List (Option ChainCost)) : Type 0 where
  pub long : length backward_costs ≡ length ws
  pub known : (k : ℕ) (w : Word) (o : Option ChainCost) → number ≤ k → slice_get ws k ≡ Some w → slice_get backward_costs k ≡ Some o
      → IsLeastOf (CostsToEos words conn w) (number_of o)
  pub ended : (k : ℕ) (w : Word) (o : Option ChainCost) → k < number → slice_get ws k ≡ Some w → slice_get backward_costs k ≡ Some o
      → IsLeastOf (CostsToEosBelow words conn ws 0 w) (number_of o)

-- the backward costs of the reachable words of a text from `number` on are known
abbrev pub AreBackwardCostsFrom : SearchedText → ReachableWords → ℕ → List (Option ChainCost) → Type 0
AreBackwardCostsFrom t r number backward_costs = AreBackwardCosts t.words t.connection r.words.items number backward_costs

-- the costs are the backward costs of all words
abbrev pub AreBackwardCostsIn : SearchedText → ReachableWords → List (Option ChainCost) → Type 0
AreBackwardCostsIn t r backward_costs = AreBackwardCostsFrom t r 0 backward_costs

-- the cost is the backward cost of word `number`
abbrev pub IsBackwardCostAt : SearchedText → ReachableWords → ℕ → Option ChainCost → Type 0
IsBackwardCostAt t r number o = (w : Word) → slice_get r.words.items number ≡ Some w → IsLeastOf (CostsToEos t.words t.connection w) (number_of o)

-- the lesser of the least cost so far and the cost of continuing with word w after this right id;
-- `backward` is the backward cost of w, or none if no path contains w
abbrev pub IsLeastWith : SearchedText → Option ChainCost → Option ChainCost → ℕ → Word → Option ChainCost → Type 0
IsLeastWith t least None right w result = result ≡ least
IsLeastWith t least (Some backward) right w None = ⊥
IsLeastWith t least (Some backward) right w (Some result) = IsLesser least (record { cost = (backward.cost +ℤ t.connection right w.left) +ℤ w.cost }) result
