-- Sums of costs along a path.
use Rattle.std.specs.Prelude.{◌≡◌, ◌↔◌, ◌^◌, ℤ, ◌+ℤ◌, ◌-ℤ◌, Option, Bool, true, Some, None}
use Rattle.mj_model.specs.Bounds.{IsWithin}
use Rattle.viterbi.specs.declared.nodes.lattice_node.LatticeNode.{LatticeNode}
use Rattle.viterbi.specs.declared.rivals.neighbor.Neighbor.{Neighbor}
use Rattle.viterbi.specs.declared.rivals.total.Total.{Total}

-- a sum is far from overflow
abbrev pub IsSmall : Total → Type 0
IsSmall total = IsWithin (2 ^ 43) total.cost

-- a cost differs from a sum by at most a connection cost and a word cost, of 16 bits each
abbrev pub IsNearTotal : Total → ℤ → Type 0
IsNearTotal total cost = IsWithin (2 ^ 16) (cost -ℤ total.cost)

-- the backward cost: a cost through a node minus its forward cost, if there is one
abbrev pub backward_cost_in : ℤ → Option ℤ → Option Total
backward_cost_in total None = None
backward_cost_in total (Some cost) = Some (record { cost = cost -ℤ total })

-- `result` is true exactly if the forward cost of n is that of m plus the costs of the step to n
abbrev pub IsPredecessorCost : LatticeNode → Neighbor → LatticeNode → Bool → Type 0
IsPredecessorCost m link n result = (result ≡ true) ↔ (n.total ≡ (m.total +ℤ link.connection) +ℤ n.word.cost)

-- `result` is true exactly if backward cost `backward` is `further` plus the costs of the step to m
abbrev pub IsSuccessorCost : Total → Neighbor → LatticeNode → Total → Bool → Type 0
IsSuccessorCost backward link m further result = (result ≡ true) ↔ (backward.cost ≡ (further.cost +ℤ link.connection) +ℤ m.word.cost)
