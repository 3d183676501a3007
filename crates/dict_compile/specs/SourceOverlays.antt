-- The contents of a system dictionary's sources and of user lexicons together. The system's sources
-- are read first, then the lexicons of each user dictionary in the given order.
use Rattle.std.specs.Prelude.{◌≡◌, ℕ, ◌<◌, List, Some, slice_get}
use Rattle.std.specs.List.{AllZip}
use Rattle.mj_model.specs.declared.source_fault.SourceFault.{SourceFault}
use Rattle.mj_model.specs.declared.sources.Sources.{Sources}
use Rattle.dict_compile.specs.Compilation.{HaveUserTables, IsUserFault, IsUserCause}
use Rattle.image_format.specs.ImageBounds.{feature_bytes, feature_bytes_end, lexicon_tokens, system_tokens}
use Rattle.mj_model.specs.SourceTables.{HaveTables}
use Rattle.mj_model.specs.Tables.{Tables, Overlay}

-- the sources are valid, the lexicons of each user dictionary are valid for their sizes, and the
-- overlay has their tables
pub record HaveOverlay (s : Sources) (users : List (List (List ℕ))) (grouping : ℕ) (o : Overlay) : Type 0 where
  pub system : HaveTables s o.system
  pub each_user : AllZip (HaveUserTables o.system.sizes) users o.users
  pub grouping_is : o.grouping ≡ grouping

-- the sources compile to these tables
pub record CompileTo (s : Sources) (t : Tables) : Type 0 where
  pub have : HaveTables s t
  pub few_features : feature_bytes (system_tokens t) < feature_bytes_end

-- the lexicons of a user dictionary compile to these tables
pub record UserCompileTo (system : Tables) (lexicons : List (List ℕ)) (t : Tables) : Type 0 where
  pub have : HaveUserTables system.sizes lexicons t
  pub few_features : feature_bytes (lexicon_tokens t.lexicon) < feature_bytes_end

-- the lexicons of user dictionary `i`, counted from 0, have this error, and those of the user
-- dictionaries before it compile
pub record IsOfUser (HasFault : List (List ℕ) → SourceFault → Type 0) (system : Tables) (users : List (List (List ℕ))) (i : ℕ) (fault : SourceFault) : Type 0 where
  pub lexicons : List (List ℕ)
  pub there : slice_get users i ≡ Some lexicons
  pub fault_is : HasFault lexicons fault
  pub before_compile : (j : ℕ) (others : List (List ℕ)) → j < i → slice_get users j ≡ Some others → (t : Tables) × UserCompileTo system others t

-- the first error of the user dictionaries, if the sources have none
abbrev pub IsUsersFault : Sources → List (List (List ℕ)) → ℕ → SourceFault → Type 0
IsUsersFault s users i fault = (t : Tables) × CompileTo s t × IsOfUser (IsUserFault t) t users i fault

-- the errors of a user dictionary's lexicons except allocation failures
abbrev pub IsUsersCause : Sources → List (List (List ℕ)) → ℕ → SourceFault → Type 0
IsUsersCause s users i fault = (t : Tables) × CompileTo s t × IsOfUser (IsUserCause t) t users i fault
