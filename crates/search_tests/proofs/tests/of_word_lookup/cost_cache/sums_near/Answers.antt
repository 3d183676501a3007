use Rattle.std.proofs.Common.{◌≡◌, false, refl, sym, subst}
use Rattle.mj_model.specs.declared.matrix_sizes.MatrixSizes.{MatrixSizes}
use Rattle.mj_model.specs.Overlays.{is_user}
use Rattle.mj_model.specs.Tables.{Kind, System, User}
use Rattle.dict_image.specs.ContextIds.{AreOfSizes}
use Rattle.search_tests.proofs.tests.of_word_lookup.cost_cache.sums_near.Goals as goal

no_user : (kind : Kind) → is_user kind ≡ false → kind ≡ System
no_user System is = refl
no_user User is = absurd (cc)

pub cache_costs-requires-clause-system : goal.cache_costs-requires-clause-system
cache_costs-requires-clause-system c = no_user _ (sym c.if-is_user.ensures.kind)

pub cache_costs-requires-clause-ids : goal.cache_costs-requires-clause-ids
cache_costs-requires-clause-ids c = subst (λ (s : MatrixSizes). AreOfSizes s c.in_ok-ids.ids) c.matrix_sizes-sizes.ensures.sizes c.in_ok-ids.ensures
