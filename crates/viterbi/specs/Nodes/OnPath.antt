-- The nodes whose words are on a path.
use Rattle.std.specs.Prelude.{◌≡◌, ◌↔◌, ℕ, ◌<◌, ◌≤◌, List, Bool, true, Contains, length, slice_get, Some}
use Rattle.mj_model.specs.declared.word.Word.{Word}
use Rattle.viterbi.specs.declared.nodes.lattice_node.LatticeNode.{LatticeNode}

-- the nodes are ordered by position
abbrev pub AreByPlace : List LatticeNode → Type 0
AreByPlace nodes = (i j : ℕ) (m n : LatticeNode) → i < j → slice_get nodes i ≡ Some m → slice_get nodes j ≡ Some n → m.word.place ≤ n.word.place

-- the positions of the words strictly increase
abbrev pub HaveRisingPlaces : List Word → Type 0
HaveRisingPlaces ws = (i j : ℕ) (v w : Word) → i < j → slice_get ws i ≡ Some v → slice_get ws j ≡ Some w → v.place < w.place

-- for each node, whether its word is on the path
pub record AreOnPath (nodes : List LatticeNode) (path : List Word) (on : List Bool) : Type 0 where
  pub long : length on ≡ length nodes
  pub each : (i : ℕ) (n : LatticeNode) (b : Bool) → slice_get nodes i ≡ Some n → slice_get on i ≡ Some b → (b ≡ true) ↔ Contains path n.word

-- the index of the first word, from `from` on, at position `place` or later
pub record IsFirstAt (path : List Word) (from place first : ℕ) : Type 0 where
  pub low : from ≤ first
  pub within : first ≤ length path
  pub before : (k : ℕ) (w : Word) → from ≤ k → k < first → slice_get path k ≡ Some w → w.place < place
  pub there : (w : Word) → slice_get path first ≡ Some w → place ≤ w.place

-- `result` is true exactly if word `number` of the path is this word
abbrev pub IsWordAt : List Word → ℕ → Word → Bool → Type 0
IsWordAt path number word result = (result ≡ true) ↔ (slice_get path number ≡ Some word)
