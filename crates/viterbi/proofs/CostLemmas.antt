-- The connection costs before words of one left id, and the candidates that they make of end nodes.
use Rattle.std.proofs.Common.{◌≡◌, ℕ, Option, sym, ap, ◌∙◌}
use Rattle.std.specs.Prelude.{ℤ, ◌+ℤ◌}
use Rattle.std.proofs.lemmas.Option.{same_Some}
use Rattle.viterbi.specs.Search.Connections.{AreCostsBefore, IsCandidate}
use Rattle.viterbi.specs.Search.EndNodes.{IsFollowedBy, candidate_at}
use Rattle.viterbi.specs.Search.SearchedText.{SearchedText}
use Rattle.viterbi.specs.declared.search.node.Candidate.{Candidate}
use Rattle.viterbi.specs.declared.search.node.EndNode.{EndNode}

-- a candidate costs what its end node costs with the connection
pub candidate_is : (t : SearchedText) (left : ℕ) (costs : ℕ → Option ℤ) (rank : ℕ) (e : EndNode) (c : Candidate)
    → AreCostsBefore t left costs → IsFollowedBy t.is_pair left e → IsCandidate costs rank e c → c ≡ candidate_at t.connection left rank e
candidate_is t left costs rank e c are pair is =
    let connection : is.connection ≡ t.connection e.right left = same_Some is.connection (t.connection e.right left) (sym is.here ∙ are e.right pair) in
    ap (λ (r : ℕ). record { rank = r; cost = c.cost }) is.rank_is
    ∙ ap (λ (z : ℤ). record { rank = rank; cost = z }) (is.cost_is ∙ ap (λ (z : ℤ). e.total +ℤ z) connection)
