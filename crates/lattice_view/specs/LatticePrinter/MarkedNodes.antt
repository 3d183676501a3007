-- A node of a line's lattice, ready to be printed.
use Rattle.std.specs.Prelude.{ℕ, ℤ, ◌-ℤ◌, int_le, Bool, true, false, Option, Some, None, option_map}
use Rattle.viterbi.specs.declared.nodes.lattice_node.LatticeNode.{LatticeNode}

-- a node with its number in the line's lattice, and whether it is on the best path
pub record Marked : Type 0 where
  pub number : ℕ
  pub node : LatticeNode
  pub is_best : Bool

-- by how much a node lost: the least cost of the paths through it minus the cost of the best path;
-- none if no complete path has it
abbrev pub lost : ℤ → LatticeNode → Option ℤ
lost best n = option_map (λ (through : ℤ). through -ℤ best) n.through

-- a node that lost by the second number is printed with the first one as limit
abbrev pub is_within : Option ℤ → Option ℤ → Bool
is_within None by = true
is_within (Some most) None = false
is_within (Some most) (Some by) = int_le by most
