-- The groups of a lexicon in the order of its surfaces. A group is the adjacent entries of one
-- surface.
use Rattle.std.specs.Prelude.{◌≡◌, ◌≢◌, ℕ, suc, ◌+◌, ◌-◌, ◌<◌, ◌≤◌, ◌⊎◌, List, length, map, take, sum_by, slice_index_or, Some}
use Rattle.mj_model.specs.CellMap.{Cell, value_of}
use Rattle.image_format.specs.ImageBounds.{each_once}
use Rattle.mj_model.specs.Dictionary.{surface_of}
use Rattle.image_format.specs.ImageSections.{index_at, key_of, stored_cells}
use Rattle.mj_model.specs.Lexicon.{Row}
use Rattle.image_writer.specs.declared.groups.Groups.{Groups}
use Rattle.image_writer.specs.Entries.{surface_at}

-- entry `i` is the first one, or its surface differs from that of the entry before it
abbrev pub StartsGroup : List Row → ℕ → Type 0
StartsGroup rows i = (i ≡ 0) ⊎ (surface_at rows i ≢ surface_at rows (i - 1))

-- the first `seen` entries are divided into groups: a group has the entries from its start to
-- before the next start, all with one surface
pub record AreGroups (rows : List Row) (seen : ℕ) (starts : List ℕ) : Type 0 where
  pub first : slice_index_or starts 0 seen ≡ 0
  pub rising : (g : ℕ) → g < length starts → slice_index_or starts g seen < slice_index_or starts (suc g) seen
  pub alike : (g i : ℕ) → g < length starts → slice_index_or starts g seen ≤ i → i < slice_index_or starts (suc g) seen
      → surface_at rows i ≡ surface_at rows (slice_index_or starts g seen)
  pub few : length starts ≤ seen

-- the double array maps the surface of each group to the group's number, and maps no other key
pub record MapsGroups (rows : List Row) (seen : ℕ) (starts : List ℕ) (cells : List Cell) : Type 0 where
  pub there : (g : ℕ) → g < length starts → value_of cells (surface_at rows (slice_index_or starts g seen)) ≡ Some g
  pub only : (key : List ℕ) (g : ℕ) → value_of cells key ≡ Some g → (g < length starts) × (key ≡ surface_at rows (slice_index_or starts g seen))

-- an upper bound on the cells for the surfaces of the first `seen` entries
abbrev pub most_cells_of : List Row → ℕ → ℕ
most_cells_of rows seen = 600 + sum_by (λ surface. length surface + 600) (each_once (take seen (map surface_of rows)))

-- the first `seen` entries are in their groups
pub record AreGrouped (rows : List Row) (seen : ℕ) (groups : Groups) : Type 0 where
  pub are_groups : AreGroups rows seen groups.starts.items
  pub map : MapsGroups rows seen groups.starts.items groups.array
  pub most : length groups.array ≤ most_cells_of rows seen

-- the index and the double array agree: each entry of a group has the group's key as its surface
pub record AreUnderKeys (rows : List Row) (groups : ℕ) (cells index : List ℕ) : Type 0 where
  pub alike : (g i : ℕ) → g < groups → index_at index g ≤ i → i < index_at index (suc g) → surface_at rows i ≡ key_of (stored_cells cells) g
