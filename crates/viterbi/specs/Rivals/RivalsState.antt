-- What is stored of a text to find the rivals of the words of its best path.
use Rattle.std.specs.Prelude.{◌≡◌, ℕ, ℤ, ◌<◌, List, Option, length, slice_get, Some}
use Rattle.mj_model.specs.declared.word.Word.{Word}
use Rattle.mj_model.specs.Best.{IsBestPath}
use Rattle.viterbi.specs.Search.SearchedText.{SearchedText}
use Rattle.viterbi.specs.Nodes.LatticeNodes.{CostsUpTo}
use Rattle.viterbi.specs.Nodes.Least.{IsLeastOf}
use Rattle.viterbi.specs.Nodes.OnPath.{AreOnPath}
use Rattle.viterbi.specs.declared.nodes.lattice_node.LatticeNode.{LatticeNode}
use Rattle.viterbi.specs.Rivals.AllRivals.{AreBestRivals}
use Rattle.viterbi.specs.Rivals.NodesWithNeighbors.{HaveNeighbors}
use Rattle.viterbi.specs.Rivals.Neighbors.{AreAfter, AreBefore}
use Rattle.viterbi.specs.Rivals.PathSteps.{steps_of}
use Rattle.viterbi.specs.Rivals.Rivals.{AreOfLattice}
use Rattle.viterbi.specs.declared.rivals.nodes_with_neighbors.NodesWithNeighbors.{NodesWithNeighbors}
use Rattle.viterbi.specs.declared.rivals.rival.Rival.{Rival}
use Rattle.viterbi.specs.declared.rivals.step.PathStep.{PathStep}

-- nodes with neighbors, the best rival of each word of the best path, and the steps of that path
pub record RivalsState : Type 0 where
  pub linked : NodesWithNeighbors
  pub bests : List (Option Rival)
  pub steps : List PathStep

-- the number of each neighbor and best rival is that of a node, and no forward cost is near
-- overflow
pub record IsRivalsState (linked : NodesWithNeighbors) (bests : List (Option Rival)) : Type 0 where
  pub held : HaveNeighbors linked
  pub nodes : (i : ℕ) (r : Rival) → slice_get bests i ≡ Some (Some r) → r.number < length linked.nodes.items

-- the nodes are those of a text's lattice, with their neighbors on chains and paths of least cost,
-- and whether each is on the best path
pub record AreWithNeighbors (words : ℕ → List Word) (conn : ℕ → ℕ → ℤ) (len : ℕ) (best : List Word) (linked : NodesWithNeighbors) : Type 0 where
  pub best_is : IsBestPath words conn best
  pub lattice : AreOfLattice words conn len linked.nodes.items
  pub forward_costs : (i : ℕ) (n : LatticeNode) → slice_get linked.nodes.items i ≡ Some n → IsLeastOf (CostsUpTo words conn n.word) (Some n.total)
  pub on_best : AreOnPath linked.nodes.items best linked.on_best.items
  pub before : AreBefore conn linked.nodes.items linked.before.items
  pub after : AreAfter words conn linked.nodes.items linked.after.items

-- the state is that of a text with these words and connection costs, `len` bytes and this best path
pub record AreRivals (words : ℕ → List Word) (conn : ℕ → ℕ → ℤ) (len : ℕ) (best : List Word) (r : RivalsState) : Type 0 where
  pub linked : AreWithNeighbors words conn len best r.linked
  pub bests : AreBestRivals words conn r.linked.nodes.items best r.bests
  pub steps : r.steps ≡ steps_of conn best

-- the state is that of text t with this best path
abbrev pub AreRivalsIn : SearchedText → List Word → RivalsState → Type 0
AreRivalsIn t best r = AreRivals t.words t.connection t.text_length best r
