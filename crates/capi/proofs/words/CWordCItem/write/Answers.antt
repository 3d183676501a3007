use Rattle.std.proofs.Common.{◌≡◌, List, rules, refl, length, sym, ap, subst, ◌∙◌}
use Rattle.std.specs.Prelude.{min}
use Rattle.std.proofs.lemmas.List.{take_rest}
use Rattle.line_segmenter.specs.PathEnds.{MayFollow}
use Rattle.capi.specs.Outputs.{with_front}
use Rattle.capi.specs.Words.{c_words}
use Rattle.capi.proofs.WalkLemmas.{are_reported, follow_of}
use Rattle.mj_model.specs.declared.word.Word.{Word}
use Rattle.word_lookup.specs.Overlays.{overlay_of}
use Rattle.capi.proofs.words.CWordCItem.write.Goals as goal

pub path_end_before-before-requires-clause-follow : goal.path_end_before-before-requires-clause-follow
path_end_before-before-requires-clause-follow c = follow_of c.args.segmenter.now c.in_ok-last.last c.in_ok-last.ensures.words

pub fill-requires : goal.fill-requires
fill-requires c =
    let l = c.in_ok-last.last in
    subst (MayFollow (overlay_of l.dictionaries) l.text.now c.path_end_before-before.result) (sym (take_rest l.words.now c.min-from.result)) c.path_end_before-before.ensures.follow

pub returns-clause-written : goal.returns-clause-written
returns-clause-written c =
    let l = c.in_ok-last.last in
    let before = c.path_end_before-before.result in
    let from : c.min-from.result ≡ min c.args.first (length l.words.now) = search rules in
    are_reported c.args.segmenter.now l c.args.first c.min-from.result _ before c.args.out.now _ c.in_ok-last.ensures.words from c.path_end_before-before.ensures.words
    (c.fill.ensures ∙ ap (λ (ws : List Word). with_front (c_words (overlay_of l.dictionaries) l.text.now before ws) c.args.out.now) (take_rest l.words.now c.min-from.result)) refl
