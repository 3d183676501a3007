-- Dictionaries that form an overlay, and what the search requires of them.
use Rattle.std.specs.Prelude.{◌≡◌, true, false, List}
use Rattle.std.specs.List.{AllByRecursion}
use Rattle.mj_model.specs.declared.category.CharInfo.{CharInfo}
use Rattle.mj_model.specs.declared.matrix_sizes.MatrixSizes.{MatrixSizes}
use Rattle.mj_model.specs.Overlays.{is_user, are_same_sizes}
use Rattle.mj_model.specs.Tables.{Tables}
use Rattle.mj_model.specs.Blanks.{space}
use Rattle.dict_image.specs.Fitting.{AreFitting}

-- a user dictionary for a connection matrix of these sizes
pub record IsUserOf (sizes : MatrixSizes) (t : Tables) : Type 0 where
  pub is_users : is_user t.kind ≡ true
  pub same_sizes : are_same_sizes t.sizes sizes ≡ true
  pub fits : AreFitting t

-- a system dictionary, with user dictionaries for its sizes
pub record AreLaidOver (system : Tables) (users : List Tables) : Type 0 where
  pub is_system : is_user system.kind ≡ false
  pub fits : AreFitting system
  pub users_fit : AllByRecursion (IsUserOf system.sizes) users

-- `AreLaidOver` as a name that is not unfolded
unfoldable pub IsOverlay : Tables → List Tables → Type 0
IsOverlay system users = AreLaidOver system users

-- these are the categories of U+0020
pub record AreOfSpace (t : Tables) (info : CharInfo) : Type 0 where
  pub bits : info.bits ≡ (t.info space).bits
  pub head : info.head ≡ (t.info space).head
