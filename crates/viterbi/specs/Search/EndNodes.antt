-- The end nodes of a position, the preferred one first if costs are equal, and the best of them for
-- a following word.
use Rattle.std.specs.Prelude.{◌≡◌, ℕ, ℤ, pos, ◌+ℤ◌, ◌<ℤ◌, ◌≤ℤ◌, ◌<◌, ◌≤◌, ◌^◌, List, [], ◌∷◌, slice_get, Some, suc, ◌⊎◌}
use Rattle.mj_model.specs.Bounds.{IsWithin}
use Rattle.viterbi.specs.Search.Nodes.{Node}
use Rattle.viterbi.specs.declared.search.node.EndNode.{EndNode}
use Rattle.viterbi.specs.declared.search.node.Predecessor.{Predecessor}
use Rattle.viterbi.specs.declared.search.node.Candidate.{Candidate}
use Rattle.viterbi.specs.declared.search.predecessor_cache.CachedPredecessor.{CachedPredecessor}

-- node k as an end node, numbered from 1
abbrev pub end_node : ℕ → Node → EndNode
end_node k n = record { total = n.total; right = n.word.right; before = suc k }

-- BOS as an end node
abbrev pub bos_end_node : EndNode
bos_end_node = record { total = pos 0; right = 0; before = 0 }

-- the end node is that of a node, numbered `from` or higher, that ends at the position
pub record IsEndNode (nodes : List Node) (place from : ℕ) (e : EndNode) : Type 0 where
  pub number : ℕ
  pub node : Node
  pub among : from ≤ number
  pub here : slice_get nodes number ≡ Some node
  pub ends : node.word.end ≡ place
  pub is : e ≡ end_node number node

-- the end nodes are those of all nodes, numbered `from` or higher, that end at the position, the
-- latest first
pub record AreEndNodesOf (nodes : List Node) (place from : ℕ) (ends : List EndNode) : Type 0 where
  pub each : (r : ℕ) (e : EndNode) → slice_get ends r ≡ Some e → IsEndNode nodes place from e
  pub all : (k : ℕ) (m : Node) → from ≤ k → slice_get nodes k ≡ Some m → m.word.end ≡ place → (r : ℕ) × (slice_get ends r ≡ Some (end_node k m))
  pub falling : (a b : ℕ) (x y : EndNode) → a < b → slice_get ends a ≡ Some x → slice_get ends b ≡ Some y → y.before < x.before

-- the end nodes of a position: BOS at the start of the text, elsewhere the nodes that end there,
-- the latest first
abbrev pub AreEndNodes : List Node → ℕ → List EndNode → Type 0
AreEndNodes nodes place ends = ((place ≡ 0) × (ends ≡ bos_end_node ∷ [])) ⊎ ((0 < place) × AreEndNodesOf nodes place 0 ends)

-- the forward cost is far from overflow
abbrev pub HasSmallTotal : EndNode → Type 0
HasSmallTotal e = IsWithin (2 ^ 40) e.total

-- a word of this left id may follow the end node
abbrev pub IsFollowedBy : (ℕ → ℕ → Type 0) → ℕ → EndNode → Type 0
IsFollowedBy is_pair left e = is_pair e.right left

-- the forward cost of an end node plus its connection cost to this left id
abbrev pub end_cost : (ℕ → ℕ → ℤ) → ℕ → EndNode → ℤ
end_cost conn left e = e.total +ℤ conn e.right left

-- an end node as a candidate, by its rank, if a word of this left id follows
abbrev pub candidate_at : (ℕ → ℕ → ℤ) → ℕ → ℕ → EndNode → Candidate
candidate_at conn left rank e = record { rank = rank; cost = end_cost conn left e }

-- the cheaper of the best candidate so far and the next one: the best so far if the costs are equal
abbrev pub IsLesser : Candidate → Candidate → Candidate → Type 0
IsLesser best next result = ((result ≡ next) × (next.cost <ℤ best.cost)) ⊎ ((result ≡ best) × (best.cost ≤ℤ next.cost))

-- the predecessor is the first end node of least cost
pub record IsLeast (conn : ℕ → ℕ → ℤ) (ends : List EndNode) (left : ℕ) (j : Predecessor) : Type 0 where
  pub rank : ℕ
  pub end : EndNode
  pub here : slice_get ends rank ≡ Some end
  pub before_is : j.before ≡ end.before
  pub cost_is : j.cost ≡ end_cost conn left end
  pub holds : (r : ℕ) (e : EndNode) → slice_get ends r ≡ Some e → (j.cost <ℤ end_cost conn left e) ⊎ ((j.cost ≡ end_cost conn left e) × (rank ≤ r))

-- each cached predecessor is the first end node of least cost for its left id
abbrev pub AreLeast : (ℕ → ℕ → ℤ) → List EndNode → List CachedPredecessor → Type 0
AreLeast conn ends found = (i : ℕ) (x : CachedPredecessor) → slice_get found i ≡ Some x → IsLeast conn ends x.left x.predecessor
