use Rattle.std.proofs.Common.{◌≡◌, Option, Some, None, rules, sym, ◌∙◌, subst}
use Rattle.std.specs.Prelude.{ℤ, ◌+ℤ◌}
use Rattle.std.proofs.lemmas.Int.{to_z-of_z}
use mir.Val.{to_z, of_z, SFits}
use mir.Syntax.{w64}
use Rattle.mj_model.specs.declared.word.Origin.{Origin}
use Rattle.word_lookup.proofs.AppendLemmas.{prefix_kept}
use Rattle.word_lookup.specs.Overlays.{overlay_of}
use Rattle.out_format.specs.Followable.{AreFollowable}
use Rattle.out_format.proofs.FollowLemmas.{has_feature, next_followable}
use Rattle.out_format.proofs.PrintedLemmas.{no_words_yet, word_more, all_words}
use Rattle.out_format.proofs.printing.append_words.Goals as goal

pub loop-word-init : goal.loop-word-init
loop-word-init g c = record {
  token = λ origin is. let clash : ◌≡◌ {A = Option Origin} None (Some origin) = sym c.none-last.ensures ∙ is in absurd (cc);
  follow = c.requires;
  shown = no_words_yet (overlay_of c.args.dictionaries.now) c.args.format.now c.args.text.now (g.W.WordStream.left c.args.words) c.args.out.now.items;
}

pub cost_with-cost_so_far-requires-clause-low : goal.cost_with-cost_so_far-requires-clause-low
cost_with-cost_so_far-requires-clause-low g c =
    (next_followable (overlay_of c.args.dictionaries.now) c.args.text.now (g.W.WordStream.left c.loop-word.words) (g.W.WordStream.left c.next_word.new.self) c.in-Some.word c.loop-word.right_before
    (to_z w64 c.loop-word.cost_so_far-bits) c.in-Some.ensures c.loop-word.invariant.follow).1

pub append_parts-requires : goal.append_parts-requires
append_parts-requires g c = record {
  word = (next_followable (overlay_of c.args.dictionaries.now) c.args.text.now (g.W.WordStream.left c.loop-word.words) (g.W.WordStream.left c.next_word.new.self) c.in-Some.word c.loop-word.right_before
      (to_z w64 c.loop-word.cost_so_far-bits) c.in-Some.ensures c.loop-word.invariant.follow).0;
  feature = has_feature _ _ _ c.switch_to.ensures.feature;
}

pub returns-in_err-append_parts-clause-unchanged : goal.returns-in_err-append_parts-clause-unchanged
returns-in_err-append_parts-clause-unchanged g c = prefix_kept _ _ _ _ _ (search rules) (c.append_parts.ensures.unchanged ∙ c.loop-word.invariant.shown.appended)

pub loop-word-preserved : goal.loop-word-preserved
loop-word-preserved g c =
    let o = overlay_of c.args.dictionaries.now in
    let line = c.args.text.now in
    let all = g.W.WordStream.left c.args.words in
    let rest = g.W.WordStream.left c.loop-word.words in
    let others = g.W.WordStream.left c.next_word.new.self in
    let w = c.in-Some.word in
    let right = c.loop-word.right_before in
    let cost = to_z w64 c.loop-word.cost_so_far-bits in
    let result = c.cost_with-cost_so_far.result in
    let next = to_z w64 (of_z w64 result) in
    let fits : SFits w64 result = search rules in
    let costs : next ≡ (cost +ℤ o.system.connection right w.left) +ℤ w.cost = to_z-of_z w64 result fits ∙ c.cost_with-cost_so_far.ensures in
    let follow = next_followable o line rest others w right cost c.in-Some.ensures c.loop-word.invariant.follow in
    record {
      token = c.switch_to.ensures.token;
      follow = subst (λ (z : ℤ). AreFollowable o line w.right z others) (sym costs) follow.2;
      shown = word_more o c.args.format.now line all rest others w right cost next _ c.args.out.now.items c.loop-word.out.items c.append_parts.new.out.items c.in-Some.ensures costs c.word_parts-parts.ensures
          c.loop-word.invariant.shown c.in_ok-append_parts.ensures.appended;
    }

pub returns-clause-appended : goal.returns-clause-appended
returns-clause-appended g c =
    all_words (overlay_of c.args.dictionaries.now) c.args.format.now c.args.text.now (g.W.WordStream.left c.args.words) (g.W.WordStream.left c.loop-word.words) _ _ c.args.out.now.items c.loop-word.out.items c.in_default.ensures.0
    c.loop-word.invariant.shown
