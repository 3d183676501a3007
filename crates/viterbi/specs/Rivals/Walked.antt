-- Walks along neighbors from a rival's node, backward and forward, until they meet the best path.
use Rattle.std.specs.Prelude.{◌≡◌, ◌↔◌, ℕ, ℤ, ◌+ℤ◌, List, [], ◌∷◌, ◌++◌, Bool, true, reverse, slice_get, Some}
use Rattle.mj_model.specs.declared.word.Word.{Word}
use Rattle.mj_model.specs.ReversedChains.{IsChainTo, cost_to, last_right}
use Rattle.mj_model.specs.Cost.{cost_after}
use Rattle.mj_model.specs.Paths.{IsChain}
use Rattle.viterbi.specs.Nodes.BackwardCosts.{IsLongest}
use Rattle.viterbi.specs.declared.nodes.lattice_node.LatticeNode.{LatticeNode}
use Rattle.viterbi.specs.Rivals.PathSteps.{right_after, steps_after, total_after, words_of}
use Rattle.viterbi.specs.Rivals.RivalPaths.{AreOff, AreShown, IsPrefix, IsSuffix}
use Rattle.viterbi.specs.declared.rivals.nodes_with_neighbors.NodesWithNeighbors.{NodesWithNeighbors}
use Rattle.viterbi.specs.declared.rivals.neighbor.Neighbor.{Neighbor}
use Rattle.viterbi.specs.declared.rivals.step.PathStep.{PathStep}

-- the step of node `number`: its word, the connection cost before it, and its forward cost
pub record IsStepAt (linked : NodesWithNeighbors) (number : ℕ) (s : PathStep) : Type 0 where
  pub node : LatticeNode
  pub link : Neighbor
  pub here : slice_get linked.nodes.items number ≡ Some node
  pub linked_here : slice_get linked.before.items number ≡ Some link
  pub word : s.word ≡ node.word
  pub connection : s.connection ≡ link.connection
  pub total : s.total ≡ node.total

-- the forward cost of node `number`
pub record IsTotalAt (linked : NodesWithNeighbors) (number : ℕ) (total : ℤ) : Type 0 where
  pub node : LatticeNode
  pub here : slice_get linked.nodes.items number ≡ Some node
  pub is : total ≡ node.total

-- the step from node `number` to node `next`, after a path of cost `total`
pub record IsStepOn (linked : NodesWithNeighbors) (total : ℤ) (number next : ℕ) (s : PathStep) : Type 0 where
  pub node : LatticeNode
  pub link : Neighbor
  pub here : slice_get linked.nodes.items next ≡ Some node
  pub linked_here : slice_get linked.after.items number ≡ Some link
  pub word : s.word ≡ node.word
  pub connection : s.connection ≡ link.connection
  pub total_is : s.total ≡ (total +ℤ link.connection) +ℤ node.word.cost

-- the steps of a walk back from n, the last word first. Reversed, they follow a chain `front`,
-- which is a prefix of the best path exactly if `reaches` is set
pub record IsWalkedBackward (words : ℕ → List Word) (conn : ℕ → ℕ → ℤ) (best : List Word) (n : LatticeNode) (reaches : Bool) (back : List PathStep) : Type 0 where
  pub front : List Word
  pub place : ℕ
  pub before : List PathStep
  pub chosen : PathStep
  pub prefix_chain : IsChainTo words front place
  pub steps_chain : IsChain words place (words_of (reverse back)) n.word.end
  pub steps_are : reverse back ≡ steps_after conn (last_right front) (cost_to conn front) (words_of (reverse back))
  pub parts : reverse back ≡ before ++ chosen ∷ []
  pub chosen_is : chosen.word ≡ n.word
  pub right_is : right_after (last_right front) (words_of (reverse back)) ≡ n.word.right
  pub total_is : total_after conn (last_right front) (cost_to conn front) (words_of (reverse back)) ≡ n.total
  pub off : AreOff best before
  pub begins : (reaches ≡ true) ↔ IsPrefix (reverse front) best
  pub shown : AreShown reaches before

-- the steps of a walk forward from n, along a path of this cost. The words `back` follow them,
-- which are a suffix of the best path exactly if `reaches` is set
pub record IsWalkedForward (words : ℕ → List Word) (conn : ℕ → ℕ → ℤ) (best : List Word) (n : LatticeNode) (cost : ℤ) (reaches : Bool) (on : List PathStep) : Type 0 where
  pub back : List Word
  pub to : ℕ
  pub steps_chain : IsChain words n.word.end (words_of on ++ back) to
  pub longest : IsLongest words to
  pub steps_are : on ≡ steps_after conn n.word.right n.total (words_of on)
  pub cost_is : cost ≡ n.total +ℤ cost_after conn n.word.right (words_of on ++ back)
  pub off : AreOff best on
  pub ends : (reaches ≡ true) ↔ IsSuffix back best
  pub shown : AreShown reaches on
