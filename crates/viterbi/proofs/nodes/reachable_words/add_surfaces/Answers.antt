use Rattle.std.proofs.Common.{◌≤◌, ◌++◌, ◌∙◌, List, get_or, length, flat_map, set, true, sym, subst, ap, arith}
use Rattle.std.proofs.lemmas.List.{take_all}
use Rattle.mj_model.specs.declared.word.Word.{Word}
use Rattle.mj_model.specs.declared.paths.surface.Surface.{Surface}
use Rattle.mj_model.specs.Surfaces.{HasSameSpan}
use Rattle.viterbi.proofs.WordNumbers.{holds_in, no_surface, surface_ends, whole_at}
use Rattle.viterbi.specs.Nodes.ReachableWords.{AreMarked}
use Rattle.viterbi.proofs.ReachableLemmas.{marks_more, surfaces_more}
use Rattle.viterbi.proofs.nodes.reachable_words.add_surfaces.Goals as goal

pub add_words-requires : goal.add_words-requires
add_words-requires g c =
    whole_at (g.S.WordSource.searched_text c.args.source.now) c.args.place c.args.surfaces.now c.requires.surfaces c.loop-number.number no_surface c.loop-number-test.true

pub bounds-marks-surface : goal.bounds-marks-surface
bounds-marks-surface g c =
    let t = g.S.WordSource.searched_text c.args.source.now in
    let end = surface_ends t c.args.place c.args.surfaces.now c.requires.surfaces c.requires.source.source c.loop-number.number no_surface c.loop-number-test.true in
    let same = c.loop-number.auto.marks in
    omega (arith, end, same, c.requires.long)

pub loop-number-preserved : goal.loop-number-preserved
loop-number-preserved g c =
    let t = g.S.WordSource.searched_text c.args.source.now in
    let surfaces = c.args.surfaces.now in
    let number = c.loop-number.number in
    let s = get_or surfaces number no_surface in
    let less = c.loop-number-test.true in
    let end = surface_ends t c.args.place surfaces c.requires.surfaces c.requires.source.source number no_surface less in
    let whole = whole_at t c.args.place surfaces c.requires.surfaces number no_surface less in
    let count = whole.count_is in
    let some = whole.some in
    let same = c.loop-number.auto.marks in
    let marked = marks_more c.loop-number.words.items (t.surface_words s) c.loop-number.marks s.end c.loop-number.invariant.marked (omega (arith, end, same, c.requires.long))
    (λ j w at. (holds_in (HasSameSpan s) (t.surface_words s) j w whole.same_spans at).end) (omega (arith, count, some)) in
    record {
      joined = surfaces_more t.surface_words surfaces number no_surface c.args.words.now.items c.loop-number.words.items c.add_words.new.words.items less c.loop-number.invariant.joined c.in_ok-add_words.ensures;
      marked = subst (λ (xs : List Word). AreMarked xs (set c.loop-number.marks s.end true)) (sym c.in_ok-add_words.ensures) marked;
    }

pub returns-clause-words : goal.returns-clause-words
returns-clause-words g c =
    let t = g.S.WordSource.searched_text c.args.source.now in
    let surfaces = c.args.surfaces.now in
    let all : length surfaces ≤ c.loop-number.number = omega (arith, c.loop-number-test.false) in
    c.loop-number.invariant.joined ∙ ap (λ (xs : List Surface). c.args.words.now.items ++ flat_map t.surface_words xs) (take_all c.loop-number.number surfaces all) ∙ ap (λ (xs : List Word). c.args.words.now.items ++ xs) c.requires.surfaces.joined
