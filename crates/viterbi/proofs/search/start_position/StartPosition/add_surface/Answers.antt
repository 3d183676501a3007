use Rattle.std.proofs.Common.{arith, ◌≡◌, ℕ, suc, ◌+◌, ◌<◌, ◌++◌, List, [], ◌∷◌, Some, length, get_or, reverse, set, take, drop, refl, sym, subst, ap, ◌∙◌, slice_get}
use Rattle.std.proofs.lemmas.List.{length-set, length_push, take_at}
use Rattle.std.proofs.lemmas.Option.{same_Some, slice_get-get_or, slice_get_read, slice_get_within}
use Rattle.viterbi.specs.declared.search.node.SurfaceNodes.{SurfaceNodes}
use Rattle.viterbi.specs.Search.StartPositions.{AreKeptFrom}
use Rattle.mj_model.specs.declared.word.Word.{Word}
use Rattle.mj_model.specs.declared.paths.surface.Surface.{Surface}
use Rattle.viterbi.specs.Search.Nodes.{AreLinked, AreSurfaceNodes, words_of_surface_nodes, node_words}
use Rattle.viterbi.specs.Search.SearchedText.{with_words, word_count}
use Rattle.viterbi.proofs.KeptWords.{next_surface_kept}
use Rattle.viterbi.proofs.Links.{links_on}
use Rattle.viterbi.proofs.SurfaceNodeLemmas.{groups_push, words_push}
use Rattle.viterbi.proofs.WordNumbers.{no_surface, surface_ends, whole_at}
use Rattle.viterbi.proofs.search.start_position.StartPosition.add_surface.Goals as goal

pub index-requires : goal.index-requires
index-requires g c =
    let t = g.S.WordSource.searched_text c.args.source.now in
    let nodes = c.args.nodes.now in
    let surfaces = c.args.self.now.surfaces.now in
    let s = get_or surfaces c.args.number no_surface in
    let kept = c.requires.stored in
    let end = surface_ends (with_words t c.requires.added.kept) c.args.self.now.start surfaces c.requires.added.place.surfaces c.requires.added.place.source.source c.args.number no_surface c.requires.number in
    let long = kept.places in
    let ok = nodes.heads.ok in
    omega (arith, end, long, ok.0)

pub add_surface_nodes-requires : goal.add_surface_nodes-requires
add_surface_nodes-requires g c =
    let t = g.S.WordSource.searched_text c.args.source.now in
    let nodes = c.args.nodes.now in
    let surfaces = c.args.self.now.surfaces.now in
    let s = get_or surfaces c.args.number no_surface in
    let kept = c.requires.stored in
    let end = surface_ends (with_words t c.requires.added.kept) c.args.self.now.start surfaces c.requires.added.place.surfaces c.requires.added.place.source.source c.args.number no_surface c.requires.number in
    let long = kept.places in
    let whole = ap length c.deref_mut.ensures.value in
    record { end = omega (arith, end, long, whole) }

pub add_words-requires-clause-last : goal.add_words-requires-clause-last
add_words-requires-clause-last g c =
    let t = g.S.WordSource.searched_text c.args.source.now in
    let nodes = c.args.nodes.now in
    let s = get_or c.args.self.now.surfaces.now c.args.number no_surface in
    let surface_nodes : SurfaceNodes = record { surface = s; from = c.len.result; next = c.index.result.now } in
    record {
      surface = s;
      here = slice_get-get_or c.args.self.now.surfaces.now c.args.number no_surface c.requires.number;
      before = node_words t.surface_words nodes.by_surface.items;
      words = ap (node_words t.surface_words) (c.deref.ensures.value ∙ c.in_ok-add_surface_nodes.ensures.by_surface) ∙ words_push t.surface_words nodes.by_surface.items surface_nodes;
    }

pub add_words-requires-clause-follows : goal.add_words-requires-clause-follows
add_words-requires-clause-follows g c =
    let t = g.S.WordSource.searched_text c.args.source.now in
    let nodes = c.args.nodes.now in
    let surfaces = c.args.self.now.surfaces.now in
    let s = get_or surfaces c.args.number no_surface in
    let surface_nodes : SurfaceNodes = record { surface = s; from = c.len.result; next = c.index.result.now } in
    let bundles_now : c.deref.result.now ≡ nodes.by_surface.items ++ surface_nodes ∷ [] = c.deref.ensures.value ∙ c.in_ok-add_surface_nodes.ensures.by_surface in
    λ next surface at_next at_surface.
    let previous = c.requires.previous (slice_get_within surfaces (c.args.number + 1) next at_next) in
    let its : previous.surface ≡ next = same_Some previous.surface next (sym previous.here ∙ at_next) in
    let mine : s ≡ surface = same_Some s surface (sym (slice_get-get_or surfaces c.args.number no_surface c.requires.number) ∙ at_surface) in (
      previous.before,
      ap (node_words t.surface_words) bundles_now ∙ words_push t.surface_words nodes.by_surface.items surface_nodes
          ∙ ap (λ (ws : List Word). ws ++ words_of_surface_nodes t.surface_words surface_nodes) previous.words
          ∙ ap (λ (x : Surface). (previous.before ++ reverse (t.surface_words x)) ++ reverse (t.surface_words s)) its
          ∙ ap (λ (x : Surface). (previous.before ++ reverse (t.surface_words next)) ++ reverse (t.surface_words x)) mine,
    )

pub add_words-requires-clause-added : goal.add_words-requires-clause-added
add_words-requires-clause-added g c =
    let t = g.S.WordSource.searched_text c.args.source.now in
    let nodes = c.args.nodes.now in
    let s = get_or c.args.self.now.surfaces.now c.args.number no_surface in
    let surface_nodes : SurfaceNodes = record { surface = s; from = c.len.result; next = c.index.result.now } in
    let bundles_now : c.deref.result.now ≡ nodes.by_surface.items ++ surface_nodes ∷ [] = c.deref.ensures.value ∙ c.in_ok-add_surface_nodes.ensures.by_surface in
    subst (λ (rs : List SurfaceNodes). AreKeptFrom t c.args.self.now c.args.number (word_count c.args.self.now.surfaces.now c.args.number) rs nodes.backpointers.items) (sym bundles_now)
    (next_surface_kept t c.args.self.now c.args.number c.requires.number nodes.by_surface.items surface_nodes refl nodes.backpointers.items c.requires.added)

pub returns-clause-stored : goal.returns-clause-stored
returns-clause-stored g c =
    let t = g.S.WordSource.searched_text c.args.source.now in
    let nodes = c.args.nodes.now in
    let surfaces = c.args.self.now.surfaces.now in
    let s = get_or surfaces c.args.number no_surface in
    let kept = c.requires.stored in
    let surface_nodes : SurfaceNodes = record { surface = s; from = c.len.result; next = c.index.result.now } in
    let bundles_now : c.deref.result.now ≡ nodes.by_surface.items ++ surface_nodes ∷ [] = c.deref.ensures.value ∙ c.in_ok-add_surface_nodes.ensures.by_surface in
    let heads = nodes.heads.items in
    let ok = nodes.heads.ok in
    let long = kept.places in
    let end = surface_ends (with_words t c.requires.added.kept) c.args.self.now.start surfaces c.requires.added.place.surfaces c.requires.added.place.source.source c.args.number no_surface c.requires.number in
    let within : s.end < length heads = omega (arith, end, long) in
    let at : slice_get heads s.end ≡ Some surface_nodes.next = slice_get_read heads (length heads) s.end c.index.result.now refl within c.index.ensures in
    let more : length (nodes.by_surface.items ++ surface_nodes ∷ []) ≡ suc (length nodes.by_surface.items) = let n = length_push nodes.by_surface.items surface_nodes in omega (arith, n) in
    let set_heads = c.in_ok-add_surface_nodes.ensures.heads ∙ ap (λ (hs : List ℕ). set hs s.end (length c.add_surface_nodes.new.by_surface.items)) c.deref_mut.ensures.value ∙ ap (set heads s.end) (ap length c.in_ok-add_surface_nodes.ensures.by_surface ∙ more) in
    let size = ap length set_heads ∙ length-set heads s.end (suc (length nodes.by_surface.items)) in
    let heads_now = take_at c.add_surface_nodes.new.heads (drop (length c.add_surface_nodes.new.heads) heads) nodes.heads.len (size ∙ sym ok.0) ∙ set_heads in
    let from = c.len.ensures ∙ nodes.backpointers.ok.0 ∙ kept.all in
    let whole = whole_at (with_words t c.requires.added.kept) c.args.self.now.start surfaces c.requires.added.place.surfaces c.args.number no_surface c.requires.number in
    let groups_are = subst (AreSurfaceNodes t.surface_words) (sym c.in_ok-add_surface_nodes.ensures.by_surface) (groups_push t.surface_words nodes.by_surface.items surface_nodes kept.groups_are whole from) in
    let linked = links_on nodes.by_surface.items heads surface_nodes kept.linked at in
    let added = subst (λ (rs : List SurfaceNodes). AreKeptFrom t c.args.self.now c.args.number 0 rs c.add_words.new.backpointers.items) c.deref.ensures.value c.in_ok-add_words.ensures.added in
    let none_left = added.added.left in
    let places = ap length heads_now ∙ length-set heads s.end (suc (length nodes.by_surface.items)) ∙ kept.places in
    record {
      groups_are = groups_are;
      all = omega (arith, none_left);
      rights = added.added.rights;
      linked = subst (λ (rs : List SurfaceNodes). AreLinked rs (take nodes.heads.len (c.add_surface_nodes.new.heads ++ drop (length c.add_surface_nodes.new.heads) heads))) (sym c.in_ok-add_surface_nodes.ensures.by_surface) (subst (λ (hs : List ℕ). AreLinked (nodes.by_surface.items ++ surface_nodes ∷ []) hs) (sym heads_now) linked);
      places = places;
    }

pub returns-clause-following : goal.returns-clause-following
returns-clause-following g c =
    let t = g.S.WordSource.searched_text c.args.source.now in
    let nodes = c.args.nodes.now in
    let surfaces = c.args.self.now.surfaces.now in
    let s = get_or surfaces c.args.number no_surface in
    let surface_nodes : SurfaceNodes = record { surface = s; from = c.len.result; next = c.index.result.now } in
    record {
      surface = s;
      here = slice_get-get_or surfaces c.args.number no_surface c.requires.number;
      before = node_words t.surface_words nodes.by_surface.items;
      words = ap (node_words t.surface_words) c.in_ok-add_surface_nodes.ensures.by_surface ∙ words_push t.surface_words nodes.by_surface.items surface_nodes;
    }

pub returns-clause-added : goal.returns-clause-added
returns-clause-added g c = subst (λ (rs : List SurfaceNodes). AreKeptFrom (g.S.WordSource.searched_text c.args.source.now) c.args.self.now c.args.number 0 rs c.add_words.new.backpointers.items) c.deref.ensures.value c.in_ok-add_words.ensures.added
