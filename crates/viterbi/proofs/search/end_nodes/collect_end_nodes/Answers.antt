use Rattle.std.proofs.Common.{arith, ℕ, ◌<◌, ◌+◌, List, Option, Some, ap, get_or, inr, length, refl, subst, suc, sym, ◌∙◌}
use Rattle.std.proofs.lemmas.Option.{slice_get-get_or, slice_get_read}
use Rattle.viterbi.specs.declared.search.node.Backpointer.{Backpointer}
use Rattle.viterbi.specs.declared.search.node.SurfaceNodes.{SurfaceNodes}
use Rattle.viterbi.specs.Search.EndNodes.{AreEndNodesOf}
use Rattle.viterbi.specs.Search.Nodes.{IsLatest, Node, link_of}
use Rattle.viterbi.specs.Search.SearchedText.{AreStored, nodes_in}
use Rattle.viterbi.proofs.SurfaceNodeLemmas.{no_group}
use Rattle.viterbi.proofs.EndNodeLemmas.{after_turn, before_turn, below_there, group_there, ends_here, gathered_at, link_size, next_smaller, walk_ends, walk_starts}
use Rattle.viterbi.proofs.search.end_nodes.collect_end_nodes.Goals as goal

pub loop-link-init : goal.loop-link-init
loop-link-init g c =
    let t = g.S.WordSource.searched_text c.args.source.now in
    let f = t.surface_words in
    let heads = c.args.nodes.now.heads.items in
    let by_surface = c.as_slice-by_surface.result.now in
    let backpointers = c.as_slice-backpointers.result.now in
    let kept : AreStored t by_surface backpointers heads =
    subst (λ (bs : List Backpointer). AreStored t by_surface bs heads) (sym c.as_slice-backpointers.ensures.value)
    (subst (λ (rs : List SurfaceNodes). AreStored t rs c.args.nodes.now.backpointers.items heads) (sym c.as_slice-by_surface.ensures.value) c.requires.stored) in
    let long = kept.places in
    let within : c.args.place < length heads = omega (arith, c.requires.place, long) in
    let at = slice_get_read heads (length heads) c.args.place c.index.result.now refl within c.index.ensures in
    let latest = subst (IsLatest by_surface c.args.place (length by_surface)) (sym c.from_one_based-link.ensures) (kept.linked.heads_latest c.args.place c.index.result.now at) in
    let walk = walk_starts f by_surface kept.groups_are backpointers kept.all c.args.place c.clear.new.self.items c.from_one_based-link.result c.clear.ensures.items latest in
    record { below = below_there f by_surface kept.groups_are backpointers kept.all c.args.place c.clear.new.self.items c.from_one_based-link.result walk; walk = walk }

pub append_end_nodes-requires-clause-later : goal.append_end_nodes-requires-clause-later
append_end_nodes-requires-clause-later g c =
    let t = g.S.WordSource.searched_text c.args.source.now in
    let f = t.surface_words in
    let heads = c.args.nodes.now.heads.items in
    let by_surface = c.as_slice-by_surface.result.now in
    let backpointers = c.as_slice-backpointers.result.now in
    let kept : AreStored t by_surface backpointers heads =
    subst (λ (bs : List Backpointer). AreStored t by_surface bs heads) (sym c.as_slice-backpointers.ensures.value)
    (subst (λ (rs : List SurfaceNodes). AreStored t rs c.args.nodes.now.backpointers.items heads) (sym c.as_slice-by_surface.ensures.value) c.requires.stored) in
    let ends = c.loop-link.ends.items in
    let i = c.in-Some.i in
    let surface_nodes = get_or by_surface i no_group in
    let w = gathered_at f by_surface kept.groups_are backpointers kept.all c.args.place ends c.loop-link.link (Some i) c.in-Some.is c.loop-link.invariant.walk in
    let within = group_there f by_surface kept.groups_are backpointers kept.all c.args.place ends (Some i) i refl w in
    let at = slice_get-get_or by_surface i no_group within in
    let here = ends_here f by_surface kept.groups_are backpointers kept.all c.args.place ends i surface_nodes at w in
    subst (λ (p : ℕ). AreEndNodesOf (nodes_in t by_surface backpointers) p (surface_nodes.from + surface_nodes.surface.count) ends) (sym here) (before_turn f by_surface kept.groups_are backpointers kept.all c.args.place ends i surface_nodes at w)

pub loop-link-smaller : goal.loop-link-smaller
loop-link-smaller g c =
    let t = g.S.WordSource.searched_text c.args.source.now in
    let f = t.surface_words in
    let heads = c.args.nodes.now.heads.items in
    let by_surface = c.as_slice-by_surface.result.now in
    let backpointers = c.as_slice-backpointers.result.now in
    let kept : AreStored t by_surface backpointers heads =
    subst (λ (bs : List Backpointer). AreStored t by_surface bs heads) (sym c.as_slice-backpointers.ensures.value)
    (subst (λ (rs : List SurfaceNodes). AreStored t rs c.args.nodes.now.backpointers.items heads) (sym c.as_slice-by_surface.ensures.value) c.requires.stored) in
    let within = group_there f by_surface kept.groups_are backpointers kept.all c.args.place c.loop-link.ends.items c.loop-link.link c.in-Some.i c.in-Some.is c.loop-link.invariant.walk in
    subst (λ (o : Option ℕ). link_size c.from_one_based-link-in-Some.result < link_size o) (sym c.in-Some.is)
    (subst (λ (o : Option ℕ). link_size o < suc c.in-Some.i) (sym c.from_one_based-link-in-Some.ensures) (next_smaller by_surface c.in-Some.i no_group kept.linked.links within))

pub loop-link-preserved : goal.loop-link-preserved
loop-link-preserved g c =
    let t = g.S.WordSource.searched_text c.args.source.now in
    let f = t.surface_words in
    let heads = c.args.nodes.now.heads.items in
    let by_surface = c.as_slice-by_surface.result.now in
    let backpointers = c.as_slice-backpointers.result.now in
    let kept : AreStored t by_surface backpointers heads =
    subst (λ (bs : List Backpointer). AreStored t by_surface bs heads) (sym c.as_slice-backpointers.ensures.value)
    (subst (λ (rs : List SurfaceNodes). AreStored t rs c.args.nodes.now.backpointers.items heads) (sym c.as_slice-by_surface.ensures.value) c.requires.stored) in
    let ends = c.loop-link.ends.items in
    let i = c.in-Some.i in
    let surface_nodes = get_or by_surface i no_group in
    let w = gathered_at f by_surface kept.groups_are backpointers kept.all c.args.place ends c.loop-link.link (Some i) c.in-Some.is c.loop-link.invariant.walk in
    let within = group_there f by_surface kept.groups_are backpointers kept.all c.args.place ends (Some i) i refl w in
    let at = slice_get-get_or by_surface i no_group within in
    let here = ends_here f by_surface kept.groups_are backpointers kept.all c.args.place ends i surface_nodes at w in
    let after = c.append_end_nodes.new.ends.items in
    let appear = subst (λ (p : ℕ). AreEndNodesOf (nodes_in t by_surface backpointers) p surface_nodes.from after) here c.in_ok-append_end_nodes.ensures in
    let walk = gathered_at f by_surface kept.groups_are backpointers kept.all c.args.place after (link_of surface_nodes.next) c.from_one_based-link-in-Some.result (sym c.from_one_based-link-in-Some.ensures) (after_turn f by_surface kept.groups_are backpointers kept.all c.args.place ends after i surface_nodes kept.linked.links at w appear) in
    record { below = below_there f by_surface kept.groups_are backpointers kept.all c.args.place after c.from_one_based-link-in-Some.result walk; walk = walk }

pub returns : goal.returns
returns g c =
    let t = g.S.WordSource.searched_text c.args.source.now in
    let f = t.surface_words in
    let heads = c.args.nodes.now.heads.items in
    let by_surface = c.as_slice-by_surface.result.now in
    let backpointers = c.as_slice-backpointers.result.now in
    let kept : AreStored t by_surface backpointers heads =
    subst (λ (bs : List Backpointer). AreStored t by_surface bs heads) (sym c.as_slice-backpointers.ensures.value)
    (subst (λ (rs : List SurfaceNodes). AreStored t rs c.args.nodes.now.backpointers.items heads) (sym c.as_slice-by_surface.ensures.value) c.requires.stored) in
    let some = c.if-place-eq0.false in
    let appear = walk_ends f by_surface kept.groups_are backpointers kept.all c.args.place c.loop-link.ends.items c.loop-link.link c.in_default.is c.loop-link.invariant.walk in
    let same = ap (λ (rs : List SurfaceNodes). nodes_in t rs backpointers) c.as_slice-by_surface.ensures.value ∙ ap (nodes_in t c.args.nodes.now.by_surface.items) c.as_slice-backpointers.ensures.value in
    inr (omega (arith, some), subst (λ (ns : List Node). AreEndNodesOf ns c.args.place 0 c.loop-link.ends.items) same appear)
