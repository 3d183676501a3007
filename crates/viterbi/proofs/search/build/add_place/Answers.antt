use Rattle.std.proofs.Common.{arith, ◌<◌, ◌++◌, List, length, slice_index_or, sym, subst, ap, ◌∙◌}
use Rattle.std.proofs.lemmas.Option.{slice_get-get_or}
use Rattle.mj_model.specs.declared.paths.surface.Surface.{Surface}
use Rattle.viterbi.specs.declared.search.node.EndNode.{EndNode}
use Rattle.viterbi.specs.declared.search.start_position.StartPosition.{StartPosition}
use Rattle.viterbi.specs.Search.Pruning.{ArePrunedSurfaces, CanBePrunedAll}
use Rattle.viterbi.specs.Search.SearchedText.{AreSurfacesAt, stored_nodes}
use Rattle.viterbi.specs.Search.PrunedEndNodes.{AreBestEndNodes}
use Rattle.viterbi.proofs.Choice.{some_reached}
use Rattle.viterbi.proofs.Growth.{reached_place}
use Rattle.viterbi.proofs.PrunedPlaces.{can_be_pruned, none_added}
use Rattle.viterbi.proofs.PruningLemmas.{some_left}
use Rattle.viterbi.proofs.search.build.add_place.Goals as goal

pub surfaces_at-requires-clause-place : goal.surfaces_at-requires-clause-place
surfaces_at-requires-clause-place g c =
    let t = g.S.WordSource.searched_text c.args.source.now in
    let nodes = c.args.nodes.now in
    let heads = nodes.heads.items in
    let kept = c.requires.stored in
    let l = c.requires.lattice in
    let long = kept.places in
    let within : c.args.place < length heads = omega (arith, c.requires.place, long) in
    let head = slice_index_or heads c.args.place 0 in
    let at = slice_get-get_or heads c.args.place 0 within in
    reached_place l.kept t.connection t.text_length l.pruned.searched.source
    t.is_place t.surface_words nodes.by_surface.items nodes.backpointers.items heads c.args.place (length (l.kept c.args.place)) c.args.place head l.pruned.searched.places kept.groups_are kept.all l.lattice kept.linked at c.requires.reached

pub prune-requires : goal.prune-requires
prune-requires g c =
    let t = g.S.WordSource.searched_text c.args.source.now in
    let nodes = c.args.nodes.now in
    let heads = nodes.heads.items in
    let kept = c.requires.stored in
    let long = kept.places in
    let within : c.args.place < length heads = omega (arith, c.requires.place, long) in
    let head = slice_index_or heads c.args.place 0 in
    let at = slice_get-get_or heads c.args.place 0 within in
    let all = c.collect_end_nodes.new.ends.items in
    let ends = c.prune_ends.new.ends.items in
    let grown = c.in_ok-surfaces_at.ensures.appended in
    let are = subst (AreSurfacesAt t c.args.place) (sym (grown.2 ∙ ap (λ (xs : List Surface). xs ++ grown.0) c.clear.ensures.items)) grown.1 in
    let some = some_left all ends c.in_ok-prune_ends.ensures.left
    (some_reached t.surface_words nodes.by_surface.items nodes.backpointers.items c.args.place (length nodes.by_surface.items) head all kept.groups_are kept.all c.requires.reached
    (kept.linked.heads_latest c.args.place head at) c.in_ok-collect_end_nodes.ensures) in
    let best : AreBestEndNodes (stored_nodes t nodes) c.args.place ends = record { all = all; are = c.in_ok-collect_end_nodes.ensures; left = c.in_ok-prune_ends.ensures.left } in
    subst (λ (xs : List EndNode). CanBePrunedAll t xs c.surfaces_at.new.out.items) (sym c.deref.ensures.value)
    (can_be_pruned t c.requires.source c.args.place c.requires.place (stored_nodes t nodes) c.requires.lattice ends best c.surfaces_at.new.out.items some are)

pub add_surfaces-requires-clause-none_added : goal.add_surfaces-requires-clause-none_added
add_surfaces-requires-clause-none_added g c =
    let t = g.S.WordSource.searched_text c.args.source.now in
    let nodes = c.args.nodes.now in
    let heads = nodes.heads.items in
    let kept = c.requires.stored in
    let long = kept.places in
    let within : c.args.place < length heads = omega (arith, c.requires.place, long) in
    let head = slice_index_or heads c.args.place 0 in
    let at = slice_get-get_or heads c.args.place 0 within in
    let all = c.collect_end_nodes.new.ends.items in
    let ends = c.prune_ends.new.ends.items in
    let old = c.surfaces_at.new.out.items in
    let new = c.prune.new.surfaces.items in
    let grown = c.in_ok-surfaces_at.ensures.appended in
    let are = subst (AreSurfacesAt t c.args.place) (sym (grown.2 ∙ ap (λ (xs : List Surface). xs ++ grown.0) c.clear.ensures.items)) grown.1 in
    let some = some_left all ends c.in_ok-prune_ends.ensures.left
    (some_reached t.surface_words nodes.by_surface.items nodes.backpointers.items c.args.place (length nodes.by_surface.items) head all kept.groups_are kept.all c.requires.reached
    (kept.linked.heads_latest c.args.place head at) c.in_ok-collect_end_nodes.ensures) in
    let best : AreBestEndNodes (stored_nodes t nodes) c.args.place ends = record { all = all; are = c.in_ok-collect_end_nodes.ensures; left = c.in_ok-prune_ends.ensures.left } in
    let pruned = subst (λ (xs : List EndNode). ArePrunedSurfaces t xs old new) c.deref.ensures.value c.in_ok-prune.ensures in
    let place : StartPosition = record { start = c.args.place; surfaces = c.deref-2.result; ends = c.deref-3.result } in
    none_added t c.requires.source place c.requires.place nodes.by_surface.items nodes.backpointers.items c.requires.lattice ends c.deref-3.ensures.value best some old new c.deref-2.ensures.value are pruned kept.all kept.rights

pub add_surfaces-requires-2-clause-none_added : goal.add_surfaces-requires-2-clause-none_added
add_surfaces-requires-2-clause-none_added g c =
    let t = g.S.WordSource.searched_text c.args.source.now in
    let nodes = c.args.nodes.now in
    let heads = nodes.heads.items in
    let kept = c.requires.stored in
    let long = kept.places in
    let within : c.args.place < length heads = omega (arith, c.requires.place, long) in
    let head = slice_index_or heads c.args.place 0 in
    let at = slice_get-get_or heads c.args.place 0 within in
    let all = c.collect_end_nodes.new.ends.items in
    let ends = c.prune_ends.new.ends.items in
    let old = c.surfaces_at.new.out.items in
    let new = c.prune.new.surfaces.items in
    let grown = c.in_ok-surfaces_at.ensures.appended in
    let are = subst (AreSurfacesAt t c.args.place) (sym (grown.2 ∙ ap (λ (xs : List Surface). xs ++ grown.0) c.clear.ensures.items)) grown.1 in
    let some = some_left all ends c.in_ok-prune_ends.ensures.left
    (some_reached t.surface_words nodes.by_surface.items nodes.backpointers.items c.args.place (length nodes.by_surface.items) head all kept.groups_are kept.all c.requires.reached
    (kept.linked.heads_latest c.args.place head at) c.in_ok-collect_end_nodes.ensures) in
    let best : AreBestEndNodes (stored_nodes t nodes) c.args.place ends = record { all = all; are = c.in_ok-collect_end_nodes.ensures; left = c.in_ok-prune_ends.ensures.left } in
    let pruned = subst (λ (xs : List EndNode). ArePrunedSurfaces t xs old new) c.deref.ensures.value c.in_ok-prune.ensures in
    let place : StartPosition = record { start = c.args.place; surfaces = c.deref-2.result; ends = c.deref-3.result } in
    none_added t c.requires.source place c.requires.place nodes.by_surface.items nodes.backpointers.items c.requires.lattice ends c.deref-3.ensures.value best some old new c.deref-2.ensures.value are pruned kept.all kept.rights
