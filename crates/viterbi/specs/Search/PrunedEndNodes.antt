-- Pruning the end nodes of a position: of those with one right id, only the first of least forward
-- cost is needed.
use Rattle.std.specs.Prelude.{◌≡◌, ℕ, ◌<ℤ◌, ◌≤ℤ◌, ◌<◌, ◌≤◌, List, length, slice_get, Some, ◌⊎◌}
use Rattle.viterbi.specs.Search.Nodes.{Node}
use Rattle.viterbi.specs.Search.EndNodes.{AreEndNodes}
use Rattle.viterbi.specs.declared.search.node.EndNode.{EndNode}
use Rattle.viterbi.specs.declared.search.predecessor.TheConstants.{LINEAR_SCAN_MAX}

-- end node e replaces x: it has the same right id, and costs less, or as much with no higher rank
pub record Supersedes (rank : ℕ) (e : EndNode) (other : ℕ) (x : EndNode) : Type 0 where
  pub right : e.right ≡ x.right
  pub cost : (e.total <ℤ x.total) ⊎ ((e.total ≡ x.total) × (rank ≤ other))

-- `ends` are some of `all`, in their order, and each of `all` is replaced by one of `ends`
pub record ArePrunedFrom (all ends : List EndNode) : Type 0 where
  pub rank : ℕ → ℕ
  pub each : (r : ℕ) (e : EndNode) → slice_get ends r ≡ Some e → slice_get all (rank r) ≡ Some e
  pub rising : (a b : ℕ) → a < b → b < length ends → rank a < rank b
  pub served : (i : ℕ) (x : EndNode) → slice_get all i ≡ Some x → (r : ℕ) × (e : EndNode) × (slice_get ends r ≡ Some e) × Supersedes (rank r) e i x

-- no two end nodes have the same right id
abbrev pub HaveDistinctRightIds : List EndNode → Type 0
HaveDistinctRightIds ends = (a b : ℕ) (x y : EndNode) → slice_get ends a ≡ Some x → slice_get ends b ≡ Some y → x.right ≡ y.right → a ≡ b

-- the end nodes are few, or no more than there are right ids
abbrev pub ArePruned : List EndNode → Type 0
ArePruned ends = (length ends ≤ LINEAR_SCAN_MAX) ⊎ HaveDistinctRightIds ends

-- the end nodes of a position that are left after pruning
pub record AreBestEndNodes (nodes : List Node) (place : ℕ) (ends : List EndNode) : Type 0 where
  pub all : List EndNode
  pub are : AreEndNodes nodes place all
  pub left : ArePrunedFrom all ends

-- ---- how the pruned end nodes are found

-- the end node with rank `recorded` precedes the one with rank `rank`, has its right id, and costs
-- no more
pub record IsNotCostlier (ends : List EndNode) (recorded rank : ℕ) : Type 0 where
  pub end : EndNode
  pub other : EndNode
  pub before : recorded < rank
  pub here : slice_get ends recorded ≡ Some end
  pub there : slice_get ends rank ≡ Some other
  pub right : end.right ≡ other.right
  pub cost : end.total ≤ℤ other.total

-- the rank of one of the first `count` end nodes is recorded for the right id of x, and that end
-- node replaces x
pub record IsSuperseded (ends : List EndNode) (count : ℕ) (ranks : List ℕ) (other : ℕ) (x : EndNode) : Type 0 where
  pub rank : ℕ
  pub end : EndNode
  pub recorded : slice_get ranks x.right ≡ Some rank
  pub within : rank < count
  pub here : slice_get ends rank ≡ Some end
  pub serves : Supersedes rank end other x

-- for the right id of each of the first `count` end nodes, the rank of the first of least forward
-- cost is recorded
abbrev pub AreRecorded : List EndNode → ℕ → List ℕ → Type 0
AreRecorded ends count ranks = (i : ℕ) (x : EndNode) → i < count → slice_get ends i ≡ Some x → IsSuperseded ends count ranks i x

-- the r-th kept end node is the q-th of the first `count` end nodes, and its rank is recorded
pub record IsRecordedFrom (all : List EndNode) (recorded : List ℕ) (count : ℕ) (kept : List EndNode) (r q : ℕ) : Type 0 where
  pub end : EndNode
  pub low : q < count
  pub here : slice_get kept r ≡ Some end
  pub there : slice_get all q ≡ Some end
  pub slot : slice_get recorded end.right ≡ Some q

-- the first `count` end nodes whose rank is recorded are kept; `ranks` are their ranks
pub record RecordedEndNodes (all : List EndNode) (recorded : List ℕ) (count : ℕ) (kept : List EndNode) : Type 0 where
  pub ranks : List ℕ
  pub each : (r q : ℕ) → slice_get ranks r ≡ Some q → IsRecordedFrom all recorded count kept r q
  pub long : length ranks ≡ length kept
  pub rising : (a b i j : ℕ) → a < b → slice_get ranks a ≡ Some i → slice_get ranks b ≡ Some j → i < j
  pub found : (q : ℕ) (x : EndNode) → q < count → slice_get all q ≡ Some x → slice_get recorded x.right ≡ Some q → (r : ℕ) × (slice_get ranks r ≡ Some q) × (slice_get kept r ≡ Some x)
