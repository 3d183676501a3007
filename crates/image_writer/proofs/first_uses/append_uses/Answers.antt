use Rattle.std.proofs.Common.{◌≡◌, ◌++◌, ◌∷◌, [], List, ℕ, length, ap, sym, ◌∙◌, subst, rules, append_assoc, take}
use Rattle.std.proofs.lemmas.List.{map-append}
use Rattle.mj_model.specs.Lexicon.{rows_of}
use Rattle.image_writer.specs.declared.feature_use.FeatureUse.{FeatureUse}
use Rattle.image_writer.specs.FirstUses.{AreNumbered, features_used}
use Rattle.image_writer.specs.Sections.{features_of}
use Rattle.image_writer.proofs.FirstUseLemmas.{features_more, numbered_more}
use Rattle.image_writer.proofs.first_uses.append_uses.Goals as goal

pub loop-record-preserved : goal.loop-record-preserved
loop-record-preserved c =
    let uses = c.loop-record.uses.items in
    let i = c.loop-record.record-index in
    let records = c.args.records.now in
    let held = features_used c.args.uses.now.items in
    let items = c.in_ok-push.ensures.items in
    let long : c.len.result ≡ length uses = search rules in (
      λ numbered. subst AreNumbered (sym items) (numbered_more uses _ long (c.loop-record.invariant.0 numbered)),
      ap features_used items ∙ map-append (λ (u : FeatureUse). u.feature.now) uses (_ ∷ [])
          ∙ ap (λ (fs : List (List ℕ)). fs ++ c.record-item.result.entry.feature.now ∷ []) c.loop-record.invariant.1
          ∙ append_assoc held (features_of (rows_of (take i records))) (c.record-item.result.entry.feature.now ∷ [])
          ∙ ap (λ (fs : List (List ℕ)). held ++ fs) (sym (features_more records i c.record-item.result c.loop-record-test.true c.record-item.is)),
    )
