-- The first error of a system dictionary combined with user dictionaries.
use Rattle.std.specs.Prelude.{ℕ, suc, ◌==◌, ◌&&◌, if◌then◌else◌, Bool, true, false, not, List, [], ◌∷◌, Option, Some, None}
use Rattle.mj_model.specs.declared.overlay_fault.OverlayFault.{OverlayFault}
use Rattle.mj_model.specs.declared.overlay_fault.OverlayFault.TheVariants.{NotSystem, NotUser, OtherSizes}
use Rattle.mj_model.specs.declared.matrix_sizes.MatrixSizes.{MatrixSizes}
use Rattle.mj_model.specs.Tables.{Tables, Kind, System, User}

abbrev pub is_user : Kind → Bool
is_user System = false
is_user User = true

abbrev pub are_same_sizes : MatrixSizes → MatrixSizes → Bool
are_same_sizes a b = a.right == b.right && a.left == b.left

-- the first error of the user dictionaries from number i on, over a system dictionary of these
-- sizes; the kind of each is checked before its sizes
abbrev pub first_user_fault : MatrixSizes → ℕ → List Tables → Option OverlayFault
first_user_fault sizes i [] = None
first_user_fault sizes i (user ∷ users) =
    if not (is_user user.kind) then Some (NotUser i)
    else if not (are_same_sizes user.sizes sizes) then Some (OtherSizes i)
    else first_user_fault sizes (suc i) users

-- the first error of an overlay; user dictionaries are counted from 0
abbrev pub overlay_fault : Tables → List Tables → Option OverlayFault
overlay_fault system users = if is_user system.kind then Some NotSystem else first_user_fault system.sizes 0 users
