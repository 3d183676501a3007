-- The tables that the sources of a system dictionary define. The sources are checked in this order:
-- matrix.def, char.def, unk.def, then the lexicons in the given order.
use Rattle.std.specs.Prelude.{◌≡◌, ℕ, ◌≤◌, List, [], length, map, Result, Ok, Err, ◌⊎◌}
use Rattle.mj_model.specs.declared.source_fault.TheConstants.{FIRST_LEXICON_FILE}
use Rattle.mj_model.specs.declared.source_fault.SourceFault.{SourceFault}
use Rattle.mj_model.specs.declared.sources.Sources.{Sources}
use Rattle.mj_model.specs.CharDef.{CharSource, char_source, char_info, categories_of, code_point_max}
use Rattle.mj_model.specs.Connection.{Connection, connection_of, connection_cost}
use Rattle.mj_model.specs.Dictionary.{AreLexicons, IsLexiconOf}
use Rattle.mj_model.specs.Lexicon.{Row}
use Rattle.mj_model.specs.Tables.{Tables, Lexeme, System}
use Rattle.mj_model.specs.UnkDef.{IsUnkWithin, unknown_tokens}

abbrev pub lexicon_bytes : Sources → List (List ℕ)
lexicon_bytes s = map (λ lexicon. lexicon.now) s.lexicons.now

-- the contents of `matrix.def`
abbrev pub IsConnection : Sources → Connection → Type 0
IsConnection s connection = connection_of s.matrix.now ≡ Ok connection

-- the contents of `char.def`
abbrev pub AreChars : Sources → CharSource → Type 0
AreChars s chars = char_source s.chars.now ≡ Ok chars

-- the rows of `unk.def` for each category, with ids within the sizes
abbrev pub AreUnknown : Sources → Connection → CharSource → List (List Row) → Type 0
AreUnknown s connection chars unknown = IsUnkWithin connection.sizes chars.categories s.unk.now (Ok unknown)

-- the result of reading the lexicons, of which the first is file 3
abbrev pub AreRows : Sources → Connection → Result (List Row) SourceFault → Type 0
AreRows s connection read = AreLexicons connection.sizes FIRST_LEXICON_FILE [] (lexicon_bytes s) read

-- the tables of a system dictionary
abbrev pub system_tables : Connection → CharSource → List (List Row) → List Lexeme → Tables
system_tables connection chars unknown lexicon = record {
  kind = System;
  sizes = connection.sizes;
  connection = connection_cost connection;
  categories = categories_of chars;
  info = char_info chars;
  unknown = unknown_tokens (length lexicon) unknown;
  lexicon = lexicon;
}

-- two tables have the same meaning; their values for numbers above all code points do not matter
pub record HaveSameMeaning (t u : Tables) : Type 0 where
  pub kind : t.kind ≡ u.kind
  pub sizes : t.sizes ≡ u.sizes
  pub connection : t.connection ≡ u.connection
  pub categories : t.categories ≡ u.categories
  pub info : (code : ℕ) → code ≤ code_point_max → t.info code ≡ u.info code
  pub unknown : t.unknown ≡ u.unknown
  pub lexicon : t.lexicon ≡ u.lexicon

-- the sources are accepted and define these tables
pub record HaveTables (s : Sources) (t : Tables) : Type 0 where
  pub connection : Connection
  pub chars : CharSource
  pub unknown : List (List Row)
  pub rows : List Row
  pub lexicon : List Lexeme
  pub is_connection : IsConnection s connection
  pub are_chars : AreChars s chars
  pub are_unknown : AreUnknown s connection chars unknown
  pub are_rows : AreRows s connection (Ok rows)
  pub is_lexicon : IsLexiconOf rows lexicon
  pub tables : HaveSameMeaning t (system_tables connection chars unknown lexicon)

-- sources have one meaning: all tables that they define have the same meaning
abbrev pub HaveOneMeaning : Type 0
HaveOneMeaning = (s : Sources) (t u : Tables) → HaveTables s t → HaveTables s u → HaveSameMeaning t u

abbrev pub IsMatrixFault : Sources → SourceFault → Type 0
IsMatrixFault s fault = connection_of s.matrix.now ≡ Err fault

abbrev pub IsCharFault : Sources → SourceFault → Type 0
IsCharFault s fault = (connection : Connection) × IsConnection s connection × (char_source s.chars.now ≡ Err fault)

abbrev pub IsUnkFault : Sources → SourceFault → Type 0
IsUnkFault s fault =
    (connection : Connection) × (chars : CharSource) × IsConnection s connection × AreChars s chars
    × IsUnkWithin connection.sizes chars.categories s.unk.now (Err fault)

abbrev pub IsRowsFault : Sources → SourceFault → Type 0
IsRowsFault s fault =
    (connection : Connection) × (chars : CharSource) × (unknown : List (List Row)) × IsConnection s connection × AreChars s chars
    × AreUnknown s connection chars unknown × AreRows s connection (Err fault)

-- the first error of the sources; each kind of source is checked if those before it are accepted
abbrev pub IsSourcesFault : Sources → SourceFault → Type 0
IsSourcesFault s fault = IsMatrixFault s fault ⊎ IsCharFault s fault ⊎ IsUnkFault s fault ⊎ IsRowsFault s fault
