use Rattle.std.proofs.Common.{◌≡◌, ◌<◌, length, sym, ◌∙◌, arith, get_or}
use Rattle.std.specs.Prelude.{slice_index}
use Rattle.std.proofs.lemmas.List.{get_or-map, length-set}
use Rattle.image_writer.specs.declared.feature_use.FeatureUse.{FeatureUse}
use Rattle.image_writer.specs.FirstUses.{entries_of}
use Rattle.image_writer.proofs.FirstUseLemmas.{first_recorded, all_recorded}
use Rattle.image_writer.proofs.first_uses.first_numbers.Goals as goal

pub loop-k-preserved : goal.loop-k-preserved
loop-k-preserved c =
    let uses = c.args.uses.now in
    let k = c.loop-k.k in
    let firsts = c.loop-k.firsts.items in
    let less = c.loop-k-test.true in
    let entry = (get_or uses k c.index-uses-k.result).entry in
    let is : entry ≡ slice_index (entries_of uses) k = sym (get_or-map (λ (u : FeatureUse). u.entry) uses k c.index-uses-k.result 0 less) in
    let long = c.loop-k.invariant.0 in
    let low : entry < length firsts = let w = c.requires k c.index-uses-k.result less in omega (arith, w, long) in (
      length-set firsts entry c.first_at-first.result ∙ long,
      λ texts are up.
          let so_far = c.loop-k.invariant.1 texts are up in
          first_recorded texts uses k c.loop-k.first c.first_at-first.result entry firsts is low so_far (c.first_at-first.ensures texts are up so_far.last),
    )

pub returns : goal.returns
returns c = λ texts are up. all_recorded texts c.args.uses.now c.loop-k.k c.loop-k.first c.loop-k.firsts.items are c.loop-k-test.false c.loop-k.invariant.0 (c.loop-k.invariant.1 texts are up)
