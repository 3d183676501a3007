use Rattle.std.proofs.Common.{arith, rules, ◌≡◌, ℕ, length, ap, sym, ◌∙◌}
use Rattle.std.specs.Prelude.{chars}
use Rattle.std.specs.Str.Iter.{chars_rest}
use Rattle.mj_model.specs.Run.{bytes_of}
use Rattle.image_format.specs.ImageMeaning.{image_tables}
use Rattle.word_lookup.proofs.RunLemmas.{end, left_after, stop, taken, turn}
use Rattle.word_lookup.proofs.run.run_up_to.Goals as goal

pub returns-in_default-clause-characters : goal.returns-in_default-clause-characters
returns-in_default-clause-characters c =
    let v = c.loop-characters.invariant in
    let all = end (image_tables c.args.system.now).info c.args.entry c.loop-characters.last c.args.text.now (chars_rest c.loop-characters.left) c.loop-characters.characters c.utf8.text v.at c.in_default.ensures.steps.0.0 v.goes_on in
    omega (arith, all, c.loop-characters-test.true)

pub returns-in_default-clause-bytes : goal.returns-in_default-clause-bytes
returns-in_default-clause-bytes c =
    let before = left_after c.args.text.now (chars_rest c.loop-characters.left) c.loop-characters.characters c.utf8.text c.loop-characters.invariant.at in
    let bytes = before.bytes in
    let same = ap length c.as_str.ensures in
    omega (arith, bytes, same)

pub returns-then-not-shares-clause-characters : goal.returns-then-not-shares-clause-characters
returns-then-not-shares-clause-characters c =
    let v = c.loop-characters.invariant in
    let one = taken c.args.text.now (chars_rest c.loop-characters.left) _ c.loop-characters.characters c.in-Some.c c.utf8.text v.at c.in-Some.ensures.steps.0 in
    let all = stop (image_tables c.args.system.now).info c.args.entry c.loop-characters.last c.info_with_hint-next.result (chars c.args.text.now) _ c.loop-characters.characters c.in-Some.c one.chars_are v.goes_on c.info_with_hint-next.ensures.info
    (sym c.shares.ensures ∙ c.if-not-shares.true) in
    omega (arith, all, c.loop-characters-test.true)

pub returns-then-not-shares-clause-bytes : goal.returns-then-not-shares-clause-bytes
returns-then-not-shares-clause-bytes c =
    let before = left_after c.args.text.now (chars_rest c.loop-characters.left) c.loop-characters.characters c.utf8.text c.loop-characters.invariant.at in
    let bytes = before.bytes in
    let same = ap length c.as_str.ensures in
    omega (arith, bytes, same)

pub loop-characters-preserved : goal.loop-characters-preserved
loop-characters-preserved c =
    let v = c.loop-characters.invariant in
    let one = taken c.args.text.now (chars_rest c.loop-characters.left) _ c.loop-characters.characters c.in-Some.c c.utf8.text v.at c.in-Some.ensures.steps.0 in
    record {
      at = one.at;
      goes_on = turn (image_tables c.args.system.now).info c.args.entry c.loop-characters.last c.info_with_hint-next.result (chars c.args.text.now) _ c.loop-characters.characters c.in-Some.c one.chars_are v.goes_on c.info_with_hint-next.ensures.info
          (sym c.shares.ensures ∙ c.if-not-shares.false);
    }

pub returns-clause-bytes : goal.returns-clause-bytes
returns-clause-bytes c =
    let limit_is : c.loop-characters.characters ≡ c.args.limit = search rules in
    let before = left_after c.args.text.now (chars_rest c.loop-characters.left) c.loop-characters.characters c.utf8.text c.loop-characters.invariant.at in
    let bytes = before.bytes in
    let same = ap length c.as_str-2.ensures in
    let all = ap (λ (k : ℕ). bytes_of k (chars c.args.text.now)) limit_is in
    omega (arith, bytes, same, all)
