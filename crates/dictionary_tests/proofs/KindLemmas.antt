-- The two kinds of dictionary.
use Rattle.std.proofs.Common.{◌≡◌, refl, Bool, false}
use Rattle.mj_model.specs.Overlays.{is_user}
use Rattle.mj_model.specs.Tables.{Kind, System, User}

pub system_unless_user : (user : Bool) (kind : Kind) → user ≡ is_user kind → user ≡ false → kind ≡ System
system_unless_user user System same not_user = refl
system_unless_user user User same not_user = absurd (cc)
