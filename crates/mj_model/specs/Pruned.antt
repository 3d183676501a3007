-- Pruning: words of a text that no best path needs are dropped.
use Rattle.std.specs.Prelude.{◌≡◌, ℕ, ℤ, List, Contains}
use Rattle.mj_model.specs.declared.word.Word.{Word}
use Rattle.mj_model.specs.Best.{AreWords, IsBestPath}
use Rattle.mj_model.specs.ReversedChains.{IsChainTo, IsNoWorseThan, cost_to, last_right}
use Rattle.mj_model.specs.Order.{IsEarlierIn}

-- some of the words of a list, in the same order
pub record ArePartOf (all some : List Word) : Type 0 where
  pub among : (w : Word) → Contains some w → Contains all w
  pub in_order : (v w : Word) → IsEarlierIn some v w → IsEarlierIn all v w

-- a chain of kept words supersedes the chain ws: it leads to the same position with the same right
-- id, and is no worse
pub record IsSuperseded (words kept : ℕ → List Word) (conn : ℕ → ℕ → ℤ) (ws : List Word) (to : ℕ) : Type 0 where
  pub chain : List Word
  pub leads : IsChainTo kept chain to
  pub right : last_right chain ≡ last_right ws
  pub no_worse : IsNoWorseThan words (cost_to conn chain) chain (cost_to conn ws) ws

-- the kept words: some of the words at each position, in the same order, such that a chain of kept
-- words supersedes each chain
pub record ArePruned (words kept : ℕ → List Word) (conn : ℕ → ℕ → ℤ) : Type 0 where
  pub part : (p : ℕ) → ArePartOf (words p) (kept p)
  pub served : (ws : List Word) (to : ℕ) → IsChainTo words ws to → IsSuperseded words kept conn ws to

-- the best path of the kept words is the best of all paths
abbrev pub PruningKeepsBest : Type 0
PruningKeepsBest = (words kept : ℕ → List Word) (conn : ℕ → ℕ → ℤ) (len : ℕ) → AreWords words len → ArePruned words kept conn
    → (path : List Word) → IsBestPath kept conn path → IsBestPath words conn path
