use Rattle.std.proofs.Common.{◌≡◌, ◌≤◌, [], ◌∷◌, ◌++◌, List, length, ap, ◌∙◌, sym}
use Rattle.std.specs.Prelude.{None, Some, slice_get, sum_by}
use Rattle.std.proofs.lemmas.Result.{IfErr-weaker}
use Rattle.image_format.specs.ImageBounds.{each_once, feature_bytes_end}
use Rattle.image_writer.specs.declared.feature_place.FeaturePlace.{FeaturePlace}
use Rattle.image_writer.specs.Sections.{IsPlaced, features_in, place_after}
use Rattle.mj_model.specs.declared.source_fault.SourceKind.TheVariants.{FeaturesTooLarge}
use Rattle.image_writer.proofs.FeatureLemmas.{added_placed, found_placed, no_room}
use Rattle.image_writer.proofs.Results.{ok_known}
use Rattle.image_writer.proofs.features.FeatureStore.found_or_added.Goals as goal

pub returns-in-Some-clause-place : goal.returns-in-Some-clause-place
returns-in-Some-clause-place c = λ texts holds next.
    let at : slice_get c.args.self.now.places.items c.args.first ≡ Some c.in-Some.place = ap (λ (ps : List FeaturePlace). slice_get ps c.args.first) (sym c.deref.ensures.value) ∙ sym c.known_place.ensures ∙ c.in-Some.is in
    found_placed texts c.args.feature.now c.args.self.now c.args.first c.in-Some.place holds next at

pub returns-in-None-clause-place : goal.returns-in-None-clause-place
returns-in-None-clause-place c = λ texts holds next.
    let old = c.args.self.now in
    let none : slice_get old.places.items c.args.first ≡ None = ap (λ (ps : List FeaturePlace). slice_get ps c.args.first) (sym c.deref.ensures.value) ∙ sym c.known_place.ensures ∙ c.in-None.is in
    ok_known c.add.result (place_after (features_in old) c.args.feature.now) (IsPlaced texts c.args.feature.now old c.add.new.self) c.add.ensures.place c.add.ensures.added
    (λ added. added_placed texts c.args.feature.now old c.add.new.self c.args.first holds next none added c.add.ensures.unchanged)

pub returns-in-None-clause-large : goal.returns-in-None-clause-large
returns-in-None-clause-large c = λ texts holds next.
    let none : slice_get c.args.self.now.places.items c.args.first ≡ None = ap (λ (ps : List FeaturePlace). slice_get ps c.args.first) (sym c.deref.ensures.value) ∙ sym c.known_place.ensures ∙ c.in-None.is in
    IfErr-weaker c.add.result _ (λ fault. fault ≡ FeaturesTooLarge → feature_bytes_end ≤ sum_by length (each_once (texts ++ c.args.feature.now ∷ [])))
    (λ fault full e. no_room texts c.args.feature.now c.args.self.now c.args.first holds next none (full e)) c.add.ensures.large
