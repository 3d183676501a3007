use Rattle.std.proofs.Common.{rules, arith, ◌≡◌, ◌<◌, ℕ, pos, refl, subst, length, get_or, to_z, of_z, w64}
use Rattle.std.proofs.lemmas.List.Elements.{All-get_or}
use Rattle.std.proofs.lemmas.Int.{to_z-of_z}
use mir.Val.{SFits}
use Rattle.viterbi.specs.declared.search.node.EndNode.{EndNode}
use Rattle.viterbi.specs.Search.EndNodes.{IsFollowedBy}
use Rattle.viterbi.proofs.CostLemmas.{candidate_is}
use Rattle.viterbi.proofs.Least.{IsLeastOf, least_more, least_of_all}
use Rattle.viterbi.proofs.search.predecessor.best_predecessor.Goals as goal

abbrev no_end : EndNode
no_end = record { total = pos 0; before = 0; right = 0 }

pub costs_before-costs-requires : goal.costs_before-costs-requires
costs_before-costs-requires g c =
    let t = g.S.WordSource.searched_text c.args.source.now in
    ((get_or c.args.ends.now 0 no_end).right, All-get_or (IsFollowedBy t.is_pair c.args.left) c.args.ends.now 0 no_end c.requires.some c.requires.pairs)

pub loop-rank-preserved : goal.loop-rank-preserved
loop-rank-preserved g c =
    let t = g.S.WordSource.searched_text c.args.source.now in
    let rank = c.loop-rank.rank in
    let costs = g.S.WordSource.costs_in c.costs_before-costs.result in
    let within : rank < length c.args.ends.now = omega arith in
    let pair = All-get_or (IsFollowedBy t.is_pair c.args.left) c.args.ends.now rank no_end within c.requires.pairs in
    least_more t.connection c.args.ends.now c.args.left no_end rank c.loop-rank.best c.candidate.result c.lesser-best.result within
    (candidate_is t c.args.left costs rank (get_or c.args.ends.now rank no_end) c.candidate.result c.costs_before-costs.ensures pair c.candidate.ensures) c.lesser-best.ensures c.loop-rank.invariant

pub returns : goal.returns
returns g c =
    let conn = (g.S.WordSource.searched_text c.args.source.now).connection in
    let ends = c.args.ends.now in
    let best = c.loop-rank.best in
    let all : c.loop-rank.rank ≡ length ends = omega (arith, c.loop-rank.auto.rank-end c.requires.some, c.loop-rank-test.false) in
    let fits : SFits w64 best.cost = search rules in
    least_of_all conn ends c.args.left no_end best (record { before = (get_or ends best.rank no_end).before; cost = to_z w64 (of_z w64 best.cost) })
    (subst (λ (n : ℕ). IsLeastOf conn ends c.args.left n best) all c.loop-rank.invariant) refl (to_z-of_z w64 best.cost fits)
