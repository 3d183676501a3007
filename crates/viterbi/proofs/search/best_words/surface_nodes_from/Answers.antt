use Rattle.std.proofs.Common.{rules, arith, ◌+◌, ◌-◌, ◌<◌, ◌≤◌, get_or}
use Rattle.std.proofs.lemmas.Option.{slice_get-get_or}
use Rattle.viterbi.proofs.SurfaceNodeLemmas.{group_before, next_group, no_group, start}
use Rattle.viterbi.proofs.search.best_words.surface_nodes_from.Goals as goal

pub loop-number-init : goal.loop-number-init
loop-number-init g c = record {
  within = group_before (g.S.WordSource.searched_text c.args.source.now).surface_words c.args.by_surface.now c.args.first c.args.node c.requires.first c.requires.node;
  next_ones = c.requires.first;
}

pub has_passed-requires : goal.has_passed-requires
has_passed-requires g c =
    let f = (g.S.WordSource.searched_text c.args.source.now).surface_words in
    let by_surface = c.args.by_surface.now in
    let number = c.loop-number.number in
    let at = slice_get-get_or by_surface number no_group c.loop-number.invariant.within in
    let from = c.requires.by_surface.from number (get_or by_surface number no_group) at in
    let next_ones = c.loop-number.invariant.next_ones in
    omega (arith, from, next_ones)

pub loop-number-preserved : goal.loop-number-preserved
loop-number-preserved g c =
    let f = (g.S.WordSource.searched_text c.args.source.now).surface_words in
    let by_surface = c.args.by_surface.now in
    let number = c.loop-number.number in
    let at = slice_get-get_or by_surface number no_group c.loop-number.invariant.within in
    let surface_nodes = get_or by_surface number no_group in
    let next = next_group f by_surface c.requires.by_surface number surface_nodes at in
    let from = c.requires.by_surface.from number surface_nodes at in
    let low = c.loop-number.invariant.next_ones in
    let passed : surface_nodes.surface.count ≤ c.args.node - surface_nodes.from = search rules in
    let next_ones : start f by_surface (number + 1) ≤ c.args.node = omega (arith, next, passed, from, low) in
    record { within = group_before f by_surface (number + 1) c.args.node next_ones c.requires.node; next_ones = next_ones }

pub returns : goal.returns
returns g c =
    let f = (g.S.WordSource.searched_text c.args.source.now).surface_words in
    let by_surface = c.args.by_surface.now in
    let number = c.loop-number.number in
    let surface_nodes = get_or by_surface number no_group in
    let at = slice_get-get_or by_surface number no_group c.loop-number.invariant.within in
    let from = c.requires.by_surface.from number surface_nodes at in
    let low = c.loop-number.invariant.next_ones in
    let left : c.args.node - surface_nodes.from < surface_nodes.surface.count = search rules in
    record { surface_nodes = surface_nodes; here = at; from = omega (arith, from, low); within = omega (arith, left, from, low) }
