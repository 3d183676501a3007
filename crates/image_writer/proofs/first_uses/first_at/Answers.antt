use Rattle.std.proofs.Common.{◌≢◌, ◌<◌, ◌-◌, get_or, ap, sym, ◌∙◌, subst, arith, true≢false}
use Rattle.std.specs.Prelude.{slice_index}
use Rattle.std.proofs.lemmas.List.{get_or_default, get_or_read}
use Rattle.std.proofs.lemmas.Slice.Eq.{bytes_eq-Decides}
use Rattle.image_writer.specs.declared.feature_use.FeatureUse.{FeatureUse}
use Rattle.image_writer.specs.FirstUses.{IsFirstUse, entries_of}
use Rattle.image_writer.proofs.FirstUseLemmas.{first_is, first_stays, no_use}
use Rattle.image_writer.proofs.first_uses.first_at.Goals as goal
use Rattle.image_writer.proofs.first_uses.first_at.Goals.{else-k-gt0-via-then-k-gt0+else-have_one_feature, else-k-gt0-via-else-k-gt0}

pub returns-then-have_one_feature : goal.returns-then-have_one_feature
returns-then-have_one_feature c = λ texts are up first.
    let uses = c.args.uses.now in
    let k = c.args.k in
    let some = c.if-k-gt0.true in
    let less = c.requires in
    let one = get_or_read uses k c.index-uses-k.result less c.index-uses-k.is no_use in
    let two = get_or_read uses (k - 1) c.index-uses-k-then-k-gt0.result (omega (arith, less)) c.index-uses-k-then-k-gt0.is no_use in
    let same = (bytes_eq-Decides c.index-uses-k.result.feature.now c.index-uses-k-then-k-gt0.result.feature.now).0 (sym c.if-have_one_feature.ensures) in
    first_stays texts uses are up k c.args.before some less (first some)
    (sym (ap (λ (u : FeatureUse). u.feature.now) one) ∙ same ∙ ap (λ (u : FeatureUse). u.feature.now) two)

pub returns-else-k-gt0 : goal.returns-else-k-gt0
returns-else-k-gt0 c = λ texts are up first.
    let uses = c.args.uses.now in
    let k = c.args.k in
    let less = c.requires in
    let new : 0 < k → (get_or uses k no_use).feature.now ≢ (get_or uses (k - 1) no_use).feature.now = elim c.else-k-gt0.branch [
      | else-k-gt0-via-then-k-gt0+else-have_one_feature w ↦ λ some same.
          let one = get_or_read uses k w.index-uses-k.result less w.index-uses-k.is no_use in
          let two = get_or_read uses (k - 1) w.index-uses-k-then-k-gt0.result (omega (arith, less)) w.index-uses-k-then-k-gt0.is no_use in
          let equal = (bytes_eq-Decides w.index-uses-k.result.feature.now w.index-uses-k-then-k-gt0.result.feature.now).1
          (ap (λ (u : FeatureUse). u.feature.now) one ∙ same ∙ sym (ap (λ (u : FeatureUse). u.feature.now) two)) in
          true≢false (sym equal ∙ sym w.have_one_feature.ensures ∙ w.if-have_one_feature.false)
      | else-k-gt0-via-else-k-gt0 w ↦ λ some same. let none = w.if-k-gt0.false in absurd (omega (arith, some, none))
    ] in
    subst (λ (u : FeatureUse). IsFirstUse texts u.entry (slice_index (entries_of uses) k)) (get_or_default uses k no_use c.index-uses-k-else-k-gt0.result less)
    (first_is texts uses are up k c.args.before less first new)
