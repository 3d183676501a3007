-- The connection costs before words of one left id.
use Rattle.std.specs.Prelude.{◌≡◌, ℕ, ℤ, ◌+ℤ◌, Option, Some}
use Rattle.viterbi.specs.Search.SearchedText.{SearchedText}
use Rattle.viterbi.specs.declared.search.node.Candidate.{Candidate}
use Rattle.viterbi.specs.declared.search.node.EndNode.{EndNode}

-- some right id may precede a word of this left id
abbrev pub IsLeftId : SearchedText → ℕ → Type 0
IsLeftId t left = (right : ℕ) × t.is_pair right left

-- by right id, these are the connection costs before words of this left id
abbrev pub AreCostsBefore : SearchedText → ℕ → (ℕ → Option ℤ) → Type 0
AreCostsBefore t left costs = (right : ℕ) → t.is_pair right left → costs right ≡ Some (t.connection right left)

-- the candidate is the end node with this rank, with its forward cost plus the connection cost
pub record IsCandidate (costs : ℕ → Option ℤ) (rank : ℕ) (e : EndNode) (c : Candidate) : Type 0 where
  pub connection : ℤ
  pub here : costs e.right ≡ Some connection
  pub rank_is : c.rank ≡ rank
  pub cost_is : c.cost ≡ e.total +ℤ connection
