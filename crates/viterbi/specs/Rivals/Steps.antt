-- The best rival so far, as nodes are visited one by one.
use Rattle.std.specs.Prelude.{◌≡◌, ℕ, ℤ, ◌<ℤ◌, ◌≤ℤ◌, ◌⊎◌, Option, Some, None}
use Rattle.mj_model.specs.declared.word.Word.{Word}
use Rattle.viterbi.specs.declared.nodes.lattice_node.LatticeNode.{LatticeNode}
use Rattle.viterbi.specs.Rivals.Crossing.{Replaces}
use Rattle.viterbi.specs.declared.rivals.rival.Rival.{Rival}

-- the cost is less than that of the best rival so far, or there is none yet
abbrev pub IsBelow : ℤ → Option Rival → Type 0
IsBelow cost None = Unit {0}
IsBelow cost (Some r) = cost <ℤ r.cost

-- there is a best rival so far, and it costs no more
abbrev pub IsNotBelow : ℤ → Option Rival → Type 0
IsNotBelow cost None = ⊥
IsNotBelow cost (Some r) = r.cost ≤ℤ cost

-- node n becomes the best rival: it replaces the word, and the paths through it cost less
pub record IsTaken (best : Option Rival) (number : ℕ) (n : LatticeNode) (w : Word) (result : Option Rival) : Type 0 where
  pub cost : ℤ
  pub through : n.through ≡ Some cost
  pub takes_place : Replaces n.word w
  pub below : IsBelow cost best
  pub is : result ≡ Some (record { number = number; cost = cost })

-- the best rival stays: node n doesn't replace the word, no path contains it, or it costs no less
pub record IsPassed (best : Option Rival) (n : LatticeNode) (w : Word) (result : Option Rival) : Type 0 where
  pub no_less : (cost : ℤ) → n.through ≡ Some cost → Replaces n.word w → IsNotBelow cost best
  pub is : result ≡ best

-- the best rival of w after node n was visited; `best` is the best rival so far
abbrev pub IsBetter : Option Rival → ℕ → LatticeNode → Word → Option Rival → Type 0
IsBetter best number n w result = IsTaken best number n w result ⊎ IsPassed best n w result
