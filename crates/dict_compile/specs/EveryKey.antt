-- Lookup in a compiled lexicon returns the source lines with the surface, in source order. Only the
-- numbers of the entries differ, because they count the entries in the byte order of the surfaces.
use Rattle.std.specs.Prelude.{◌≡◌, ℕ, ℤ, Bool, List, [], map, filter, bytes_eq, Ok}
use Rattle.mj_model.specs.declared.sources.Sources.{Sources}
use Rattle.mj_model.specs.declared.matrix_sizes.MatrixSizes.{MatrixSizes}
use Rattle.mj_model.specs.Connection.{Connection}
use Rattle.mj_model.specs.Dictionary.{AreLexicons}
use Rattle.image_format.specs.ImageMeaning.{entries_under}
use Rattle.mj_model.specs.Lexicon.{Row}
use Rattle.mj_model.specs.SourceTables.{IsConnection, lexicon_bytes}
use Rattle.mj_model.specs.Tables.{Token, Lexeme, Tables}

-- the properties of an entry besides its surface and number
pub record EntryContent : Type 0 where
  pub left : ℕ
  pub right : ℕ
  pub cost : ℤ
  pub feature : List ℕ

abbrev pub content_of_token : Token → EntryContent
content_of_token token = record { left = token.left; right = token.right; cost = token.cost; feature = token.feature }

abbrev pub content_of_row : Row → EntryContent
content_of_row row = record { left = row.left; right = row.right; cost = row.cost; feature = row.feature }

abbrev pub has_surface : List ℕ → Row → Bool
has_surface key row = bytes_eq row.surface key

-- each key has the rows with that surface, in the order of the rows; a key that is no row's surface
-- has none
abbrev pub FindsEveryKey : List Row → List Lexeme → Type 0
FindsEveryKey rows lexicon = (key : List ℕ) → map content_of_token (entries_under key lexicon) ≡ map content_of_row (filter (has_surface key) rows)

-- the tables have the rows of the lexicons under every key
abbrev pub FindsKeysOf : MatrixSizes → List (List ℕ) → Tables → Type 0
FindsKeysOf sizes lexicons t = (rows : List Row) → AreLexicons sizes 3 [] lexicons (Ok rows) → FindsEveryKey rows t.lexicon

-- the tables have the rows of the sources' lexicons under every key; ids are within the sizes of
-- `matrix.def`
abbrev pub FindsKeysOfSources : Sources → Tables → Type 0
FindsKeysOfSources s t = (connection : Connection) → IsConnection s connection → FindsKeysOf connection.sizes (lexicon_bytes s) t
