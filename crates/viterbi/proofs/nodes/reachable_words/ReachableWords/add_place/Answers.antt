use Rattle.std.proofs.Common.{◌++◌, ◌∷◌, [], ◌∙◌, ℕ, List, Some, false, sym, subst, ap, arith}
use Rattle.std.proofs.lemmas.Option.{slice_get-get_or}
use Rattle.mj_model.specs.declared.paths.surface.Surface.{Surface}
use Rattle.viterbi.specs.Search.SearchedText.{AreSurfacesAt}
use Rattle.viterbi.proofs.ReachableLemmas.{collected_more, collected_past, is_place_there, not_marked}
use Rattle.viterbi.proofs.nodes.reachable_words.ReachableWords.add_place.Goals as goal

pub returns-then-not-is_reachable-clause-reached : goal.returns-then-not-is_reachable-clause-reached
returns-then-not-is_reachable-clause-reached g c =
    let t = g.S.WordSource.searched_text c.args.source.now in
    let ws = c.args.self.now.words.items in
    collected_past t c.requires.source c.args.place ws c.args.self.now.firsts.items c.push.new.self.items c.args.marks.now c.requires.reached (c.in_ok-push.ensures.items ∙ ap (λ (n : ℕ). c.args.self.now.firsts.items ++ n ∷ []) (c.len.ensures ∙ c.args.self.now.words.ok.0)) (not_marked c.args.marks.now c.args.place c.if-not-is_reachable.true)

pub surfaces_at-requires-clause-place : goal.surfaces_at-requires-clause-place
surfaces_at-requires-clause-place g c =
    let t = g.S.WordSource.searched_text c.args.source.now in
    let h = c.requires.reached in
    let long = h.marks_long in
    let at = slice_get-get_or c.args.marks.now c.args.place false (omega (arith, long, c.requires.place)) ∙ ap Some c.if-not-is_reachable.false in
    is_place_there t.words t.connection t.text_length c.requires.source.source t.is_place c.args.self.now.words.items c.args.marks.now c.args.place c.requires.source.places h.are h.marks_are at

pub add_surfaces-requires-clause-surfaces : goal.add_surfaces-requires-clause-surfaces
add_surfaces-requires-clause-surfaces g c =
    let t = g.S.WordSource.searched_text c.args.source.now in
    let grown = c.in_ok-surfaces_at.ensures.appended in
    subst (AreSurfacesAt t c.args.place) (sym (c.deref.ensures.value ∙ grown.2 ∙ ap (λ (xs : List Surface). xs ++ grown.0) c.clear.ensures.items)) grown.1

pub returns-clause-reached : goal.returns-clause-reached
returns-clause-reached g c =
    let t = g.S.WordSource.searched_text c.args.source.now in
    let h = c.requires.reached in
    let long = h.marks_long in
    let at = slice_get-get_or c.args.marks.now c.args.place false (omega (arith, long, c.requires.place)) ∙ ap Some c.if-not-is_reachable.false in
    collected_more t c.requires.source c.args.place c.args.self.now.words.items c.args.self.now.firsts.items c.push.new.self.items c.args.marks.now h (c.in_ok-push.ensures.items ∙ ap (λ (n : ℕ). c.args.self.now.firsts.items ++ n ∷ []) (c.len.ensures ∙ c.args.self.now.words.ok.0)) at
    c.add_surfaces.new.words.items c.add_surfaces.new.marks c.in_ok-add_surfaces.ensures.words c.in_ok-add_surfaces.ensures.marks c.add_surfaces.auto.marks
