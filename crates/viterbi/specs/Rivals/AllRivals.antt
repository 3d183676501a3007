-- The best rivals of all words of a path.
use Rattle.std.specs.Prelude.{◌≡◌, ℕ, ℤ, List, Option, length, slice_get, Some}
use Rattle.mj_model.specs.declared.word.Word.{Word}
use Rattle.viterbi.specs.declared.nodes.lattice_node.LatticeNode.{LatticeNode}
use Rattle.viterbi.specs.Rivals.Rivals.{IsBestRival}
use Rattle.viterbi.specs.Rivals.Steps.{IsBetter}
use Rattle.viterbi.specs.declared.rivals.rival.Rival.{Rival}

-- the best rival of each word of a path
pub record AreBestRivals (words : ℕ → List Word) (conn : ℕ → ℕ → ℤ) (nodes : List LatticeNode) (path : List Word) (bests : List (Option Rival)) : Type 0 where
  pub long : length bests ≡ length path
  pub each : (k : ℕ) (w : Word) (o : Option Rival) → slice_get path k ≡ Some w → slice_get bests k ≡ Some o → IsBestRival words conn nodes w o

-- the best rival of each word so far, or node n if it is better
pub record AreBetter (path : List Word) (bests : List (Option Rival)) (number : ℕ) (n : LatticeNode) (result : List (Option Rival)) : Type 0 where
  pub long : length result ≡ length bests
  pub each : (k : ℕ) (w : Word) (best after : Option Rival) → slice_get path k ≡ Some w → slice_get bests k ≡ Some best
      → slice_get result k ≡ Some after
      → IsBetter best number n w after
