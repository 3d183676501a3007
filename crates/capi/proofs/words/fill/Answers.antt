use Rattle.std.proofs.Common.{◌≡◌, ℕ, ◌<◌, rules, arith, refl, length, get_or, sym, ap, ◌∙◌, w64, to_z, of_z}
use Rattle.std.specs.Prelude.{ℤ, min}
use Rattle.std.proofs.lemmas.Int.{to_z-of_z}
use mir.Val.{SFits}
use Rattle.capi.specs.Words.{c_word_in, c_words}
use Rattle.capi.proofs.FillLemmas.{filling_ends, filling_more}
use Rattle.capi.proofs.WalkLemmas.{can_follow, length-c_words, appears_here, reported_here, reported_word, walked_on}
use Rattle.out_format.proofs.PrintedLemmas.{no_word}
use Rattle.word_lookup.specs.Overlays.{overlay_of}
use Rattle.capi.proofs.words.fill.Goals as goal

pub loop-i-init : goal.loop-i-init
loop-i-init c = record {
  filling = record { written = refl; long = refl };
  walked = record { rest = refl; follow = c.requires };
}

pub path_end_after-reached-requires : goal.path_end_after-reached-requires
path_end_after-reached-requires c =
    let l = c.args.last.now in
    let o = overlay_of l.dictionaries in
    let words = c.args.words.now in
    let low : c.loop-i.i < length words = search rules in
    can_follow o l.text.now words (c_words o l.text.now c.args.before words) c.loop-i.i c.loop-i.reached no_word low c.loop-i.invariant.walked

pub category-requires : goal.category-requires
category-requires c =
    let l = c.args.last.now in
    let o = overlay_of l.dictionaries in
    let words = c.args.words.now in
    let low : c.loop-i.i < length words = search rules in
    (appears_here o l.text.now words (c_words o l.text.now c.args.before words) c.loop-i.i c.loop-i.reached no_word low c.loop-i.invariant.walked).begins

pub loop-i-preserved : goal.loop-i-preserved
loop-i-preserved c =
    let l = c.args.last.now in
    let o = overlay_of l.dictionaries in
    let text = l.text.now in
    let words = c.args.words.now in
    let all = c_words o text c.args.before words in
    let i = c.loop-i.i in
    let low : i < length words = search rules in
    let room : i < length c.loop-i.out = search rules in
    let many = length-c_words o text c.args.before words in
    let walked = c.loop-i.invariant.walked in
    let next = c.path_end_after-reached.result in
    let w = get_or words i no_word in
    let fits : SFits w64 next.total = search rules in
    let feature = c.feature-feature.result.now in
    let stored = reported_word o text w (to_z w64 (of_z w64 next.total)) c.category.result (length feature) feature c.word_for_c.result c.word_for_c.ensures c.category.ensures refl c.feature-feature.ensures in
    let reported = stored ∙ ap (λ (z : ℤ). c_word_in o text z w) (to_z-of_z w64 next.total fits) in
    record {
      filling = filling_more all i c.args.out.now c.loop-i.out c.word_for_c.result c.loop-i.invariant.filling (omega (arith, low, many)) room
          (reported ∙ sym (reported_here o text words all i c.loop-i.reached no_word low walked next c.word_for_c.result c.path_end_after-reached.ensures));
      walked = walked_on o text words all i c.loop-i.reached no_word low walked next c.path_end_after-reached.ensures;
    }

pub returns : goal.returns
returns c =
    let l = c.args.last.now in
    let o = overlay_of l.dictionaries in
    let words = c.args.words.now in
    let all = c_words o l.text.now c.args.before words in
    let ends : c.loop-i.i ≡ min (length words) (length c.args.out.now) = search rules in
    filling_ends all c.loop-i.i c.args.out.now c.loop-i.out c.loop-i.invariant.filling (ends ∙ ap (λ (n : ℕ). min n (length c.args.out.now)) (sym (length-c_words o l.text.now c.args.before words)))
