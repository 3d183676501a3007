use Rattle.std.proofs.Common.{refl}
use Rattle.image_writer.proofs.FeatureLemmas.{place_recorded}
use Rattle.image_writer.proofs.features.FeatureStore.place_of.Goals as goal

pub returns-clause-place : goal.returns-clause-place
returns-clause-place c = λ texts holds next.
    place_recorded texts c.args.feature.now c.args.self.now c.found_or_added.new.self _ c.in_ok-place.place holds (c.in_ok-place.ensures.place texts holds next) refl c.in_ok-push.ensures.items
