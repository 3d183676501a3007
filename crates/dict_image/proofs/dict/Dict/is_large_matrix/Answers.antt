use Rattle.std.proofs.Common.{◌≡◌, false, refl, sym}
use Rattle.mj_model.specs.Overlays.{is_user}
use Rattle.mj_model.specs.Tables.{Kind, System, User}
use Rattle.dict_image.proofs.dict.Dict.is_large_matrix.Goals as goal

no_user : (kind : Kind) → is_user kind ≡ false → kind ≡ System
no_user System is = refl
no_user User is = absurd (cc)

pub returns-then-not-is_user-clause-system : goal.returns-then-not-is_user-clause-system
returns-then-not-is_user-clause-system c = λ few. no_user _ (sym c.if-not-is_user.ensures.kind)
