-- The entries of lexicons, with the sizes of their connection table.
use Rattle.std.specs.Prelude.{◌≡◌, ◌≤◌, All, IsSortedByKey, IsTrue, List, length}
use Rattle.std.specs.Cmp.Lexicographic.{slice_cmp}
use Rattle.std.specs.Ordering.{nat_cmp}
use Rattle.mj_model.specs.declared.entry.Record.{Record}
use Rattle.mj_model.specs.declared.limits.TheConstants.{ENTRIES_MAX, SURFACE_MAX}
use Rattle.mj_model.specs.declared.matrix_sizes.MatrixSizes.{MatrixSizes}
use Rattle.mj_model.specs.Connection.{is_pair}
use Rattle.mj_model.specs.Dictionary.{IsInOrder, surface_of}
use Rattle.mj_model.specs.Lexicon.{Row, rows_of}

-- entries, with the sizes of their connection table
pub record LexiconRows : Type 0 where
  pub sizes : MatrixSizes
  pub rows : List Row

-- the contents of records
abbrev pub entries_in : MatrixSizes → List Record → LexiconRows
entries_in sizes records = record { sizes = sizes; rows = rows_of records }

-- the ids of an entry lie within the sizes, and its surface has 1 to `SURFACE_MAX` bytes
pub record IsLexiconRow (sizes : MatrixSizes) (row : Row) : Type 0 where
  pub ids : IsTrue (is_pair sizes row.right row.left)
  pub some : 1 ≤ length row.surface
  pub short : length row.surface ≤ SURFACE_MAX

-- at most `ENTRIES_MAX` valid entries
pub record AreLexiconRows (lexicon : LexiconRows) : Type 0 where
  pub each : All (IsLexiconRow lexicon.sizes) lexicon.rows
  pub few : length lexicon.rows ≤ ENTRIES_MAX

-- valid entries, sorted by the bytes of their surfaces
pub record AreSortedRows (lexicon : LexiconRows) : Type 0 where
  pub entries : AreLexiconRows lexicon
  pub sorted : IsSortedByKey surface_of (slice_cmp nat_cmp) lexicon.rows

-- the entries of a lexicon sorted by the bytes of their surfaces, those with equal surfaces in
-- their order
pub record AreSortedOf (given sorted : LexiconRows) : Type 0 where
  pub sizes : sorted.sizes ≡ given.sizes
  pub in_order : IsInOrder given.rows sorted.rows
