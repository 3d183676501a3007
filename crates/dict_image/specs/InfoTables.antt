-- The table of the categories of code points.
use Rattle.std.specs.Prelude.{◌≡◌, ℕ, ◌/◌, ◌^◌, ◌<◌, if◌then◌else◌, min, nat_lt, List, length, slice_index}
use Rattle.image_format.specs.declared.layout.InfoForm.{InfoForm}
use Rattle.image_format.specs.declared.layout.InfoForm.TheVariants as info
use Rattle.image_format.specs.ImageSections.{info_of_entry, range_at, range_count, stored_info}
use Rattle.mj_model.specs.Tables.{Kind, System}
use Rattle.dict_image.specs.declared.info_table.InfoTable.{InfoTable}
use Rattle.dict_image.specs.declared.info_table.InfoTable.TheVariants as table
use Rattle.dict_image.specs.declared.info_table.TheConstants.{BASIC_PLANE}

-- the number of code points in the basic plane
abbrev pub basic_plane : ℕ
basic_plane = BASIC_PLANE

-- the entry holds the categories that the ranges give a code point, and its first category fits a
-- byte
pub record IsEntryOf (ranges : List ℕ) (code entry : ℕ) : Type 0 where
  pub info : info_of_entry entry ≡ stored_info ranges code
  pub short : entry / 2 ^ 18 < 256

-- the entries of the code points before `end`
pub record AreFirstEntries (ranges : List ℕ) (end : ℕ) (entries : List ℕ) : Type 0 where
  pub many : length entries ≡ end
  pub each : (code : ℕ) → code < end → IsEntryOf ranges code (slice_index entries code)

-- the entries of the code points of the basic plane
abbrev pub AreOfPlane : List ℕ → List ℕ → Type 0
AreOfPlane ranges entries = AreFirstEntries ranges basic_plane entries

-- the start of range `i`, at most the end of the basic plane; the end of the plane if there is no
-- such range
abbrev pub plane_start : List ℕ → ℕ → ℕ
plane_start ranges i = if nat_lt i (range_count ranges) then min (range_at ranges i).first basic_plane else basic_plane

-- a table of the plane is built for the ranges of a system dictionary, and for nothing else
abbrev pub IsInfoTable : Kind → InfoForm → List ℕ → InfoTable → Type 0
IsInfoTable kind form infos (table.OfPlane entries) = (kind ≡ System) × (form ≡ info.Ranges) × AreOfPlane infos entries.items
IsInfoTable kind form infos table.InSection = kind ≡ System → form ≡ info.Listed
