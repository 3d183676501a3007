-- The predecessors that are cached at a position, one for each left id.
use Rattle.std.specs.Prelude.{◌≡◌, ◌↔◌, ℕ, List, slice_get, Contains, Option, Some}
use Rattle.viterbi.specs.declared.search.predecessor_cache.CachedPredecessor.{CachedPredecessor}
use Rattle.viterbi.specs.declared.search.node.Predecessor.{Predecessor}

-- the predecessor is cached for this left id
abbrev pub IsCachedFor : List CachedPredecessor → ℕ → Predecessor → Type 0
IsCachedFor found left predecessor = Contains found (record { left = left; predecessor = predecessor })

-- `result` is the cached predecessor for this left id, or none if there is none
abbrev pub IsCacheResult : List CachedPredecessor → ℕ → Option Predecessor → Type 0
IsCacheResult found left result = (predecessor : Predecessor) → (result ≡ Some predecessor) ↔ IsCachedFor found left predecessor

-- no predecessor is cached for this left id
abbrev pub IsUncached : List CachedPredecessor → ℕ → Type 0
IsUncached found left = (i : ℕ) (x : CachedPredecessor) → slice_get found i ≡ Some x → x.left ≡ left → ⊥

-- the slot of each cached left id has the index of its entry
abbrev pub HaveSlots : List CachedPredecessor → List ℕ → Type 0
HaveSlots found slots = (i : ℕ) (x : CachedPredecessor) → slice_get found i ≡ Some x → slice_get slots x.left ≡ Some i
