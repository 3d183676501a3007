-- Unknown entries, as `unk.def` lists them (MeCab): lines in the form of a lexicon, with the name
-- of a category as surface.
use Rattle.std.specs.Prelude.{◌≡◌, ℕ, ◌+◌, ◌==◌, nat_lt, if◌then◌else◌, List, [], ◌∷◌, length, map, filter, Option, Some, None, Result, Ok, Err, slice_index_or}
use Rattle.std.specs.List.{enumerate_from, position_or_len}
use Rattle.mj_model.specs.declared.source_fault.TheConstants.{UNK_FILE}
use Rattle.mj_model.specs.declared.source_fault.SourceFault.{SourceFault}
use Rattle.mj_model.specs.declared.source_fault.SourceKind.TheVariants.{BadNumber, NoSuchCategory, MissingCategory}
use Rattle.mj_model.specs.Lexicon.{Row, Parts, Reading, Outcome, Rejected, Accepted, ReadsAs, row_from}
use Rattle.mj_model.specs.declared.matrix_sizes.MatrixSizes.{MatrixSizes}
use Rattle.mj_model.specs.Dictionary.{lexeme_of, first_outside}
use Rattle.mj_model.specs.Tables.{Token}
use Rattle.mj_model.specs.CharDef.{NamedCategory, is_defined, category_number}

abbrev pub accept_defined : List NamedCategory → Option Row → Outcome
accept_defined categories None = Rejected BadNumber
accept_defined categories (Some row) = if is_defined categories row.surface then Accepted row else Rejected NoSuchCategory

-- the outcome of a line with four fields and a remainder, for these categories; no line is skipped
abbrev pub unk_outcome : List NamedCategory → ℕ → Parts → Outcome
unk_outcome categories line parts = accept_defined categories (row_from line parts)

-- the rows whose surface is the name of category number i, in their order
abbrev pub rows_named : List NamedCategory → List Row → ℕ → List Row
rows_named categories rows i = filter (λ row. category_number categories row.surface == i) rows

-- the rows of each category
abbrev pub rows_by_category : List NamedCategory → List Row → List (List Row)
rows_by_category categories rows = map (λ (category : ℕ × NamedCategory). rows_named categories rows category.0) (enumerate_from 0 categories)

-- the lowest category without a row, or the number of categories
abbrev pub first_without_rows : List (List Row) → ℕ
first_without_rows unknown = position_or_len (λ rows. length rows == 0) unknown

-- the rows of each category, or the error of the lowest category without a row
abbrev pub check_missing : List (List Row) → Result (List (List Row)) SourceFault
check_missing unknown =
    if nat_lt (first_without_rows unknown) (length unknown)
    then Err (record { file = UNK_FILE; line = 0; kind = MissingCategory (first_without_rows unknown) })
    else Ok unknown

abbrev pub unknown_from : List NamedCategory → Result Reading SourceFault → Result (List (List Row)) SourceFault
unknown_from categories (Err fault) = Err fault
unknown_from categories (Ok reading) = check_missing (rows_by_category categories reading.rows)

-- the result of reading `unk.def` for these categories: the rows of each category, or the first
-- error
abbrev pub IsUnkDef : List NamedCategory → List ℕ → Result (List (List Row)) SourceFault → Type 0
IsUnkDef categories bytes unknown =
    (reading : Result Reading SourceFault) × ReadsAs (unk_outcome categories) UNK_FILE 0 bytes reading × (unknown ≡ unknown_from categories reading)

-- the rows of each category, or the error of the first row whose ids lie outside the sizes
abbrev pub rows_or : Option SourceFault → List (List Row) → Result (List (List Row)) SourceFault
rows_or None unknown = Ok unknown
rows_or (Some fault) unknown = Err fault

abbrev pub check_outside : MatrixSizes → List Row → Result (List (List Row)) SourceFault → Result (List (List Row)) SourceFault
check_outside sizes rows (Err fault) = Err fault
check_outside sizes rows (Ok unknown) = rows_or (first_outside 2 sizes rows) unknown

abbrev pub unknown_within : MatrixSizes → List NamedCategory → Result Reading SourceFault → Result (List (List Row)) SourceFault
unknown_within sizes categories (Err fault) = Err fault
unknown_within sizes categories (Ok reading) = check_outside sizes reading.rows (unknown_from categories (Ok reading))

-- the result of reading `unk.def` for these sizes and categories: the rows of each category, or the
-- first error. The contents of the lines, and which categories have one, are checked before the ids
abbrev pub IsUnkWithin : MatrixSizes → List NamedCategory → List ℕ → Result (List (List Row)) SourceFault → Type 0
IsUnkWithin sizes categories bytes unknown =
    (reading : Result Reading SourceFault) × ReadsAs (unk_outcome categories) UNK_FILE 0 bytes reading × (unknown ≡ unknown_within sizes categories reading)

-- the entry of a numbered row
abbrev pub token_of : (ℕ × Row) → Token
token_of row = (lexeme_of row).token

-- the unknown entries of each category, numbered from `number` on in the order of the categories
abbrev pub tokens_from : ℕ → List (List Row) → List (List Token)
tokens_from number [] = []
tokens_from number (rows ∷ unknown) = map token_of (enumerate_from number rows) ∷ tokens_from (number + length rows) unknown

-- the unknown entries of category i, in a dictionary whose lexicon has `entries` entries; their
-- numbers follow those of the lexicon
abbrev pub unknown_tokens : ℕ → List (List Row) → ℕ → List Token
unknown_tokens entries unknown i = slice_index_or (tokens_from entries unknown) i []

-- each `unk.def` has exactly one reading for given sizes and categories
abbrev pub HasOneUnkDef : Type 0
HasOneUnkDef = (sizes : MatrixSizes) (categories : List NamedCategory) (bytes : List ℕ)
    → (unknown : Result (List (List Row)) SourceFault) × IsUnkWithin sizes categories bytes unknown
    × ((other : Result (List (List Row)) SourceFault) → IsUnkWithin sizes categories bytes other → other ≡ unknown)
