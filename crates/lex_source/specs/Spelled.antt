-- Fields as they are written in a line, with or without quotes.
use Rattle.std.specs.Prelude.{◌≡◌, ℕ, ◌+◌, ◌<◌, ◌≤◌, Bool, false, IsUtf8, List, [], ◌∷◌, slice_get, Some, None, MatchOption, length, take, drop, slice_index, Option, if◌then◌else◌, All}
use Rattle.mj_model.specs.Bytes.{quote}
use Rattle.mj_model.specs.Fields.{with_doubled_quotes, StartsWithQuote, IsFirstField, AreFields, AreFirstFields}
use Rattle.mj_model.specs.Lines.{is_blank_line}
use Rattle.mj_model.specs.Lexicon.{Parts}
use Rattle.lex_source.specs.declared.raw_field.RawField.{RawField}
use Rattle.lex_source.specs.declared.parts.LineParts.{LineParts}
use Rattle.lex_source.specs.declared.field_cache.CachedField.{CachedField}

-- the bytes `raw` spell the field: with doubled quotes if it is quoted, unchanged otherwise
abbrev pub IsRawForm : List ℕ → Bool → List ℕ → Type 0
IsRawForm raw quoted field = raw ≡ (if quoted then with_doubled_quotes field else field)

-- the first field, spelled by the bytes `raw`, and the remainder
pub record StartsWithField (IsFirst : List ℕ → Option (List ℕ) → Type 0) (raw : List ℕ) (quoted : Bool) (rest : Option (List ℕ)) : Type 0 where
  pub field : List ℕ
  pub spelled : IsRawForm raw quoted field
  pub first : IsFirst field rest

-- each quote is doubled
abbrev pub IsDoubled : List ℕ → Type 0
IsDoubled raw = (field : List ℕ) × (raw ≡ with_doubled_quotes field)

-- the first quote from `start` on is at `at`, or there is none and `at` is the end
pub record IsNextQuote (text : List ℕ) (start at : ℕ) : Type 0 where
  pub low : start ≤ at
  pub high : at ≤ length text
  pub before : (k : ℕ) → start ≤ k → k < at → slice_index text k ≡ quote → ⊥
  pub here : at < length text → slice_index text at ≡ quote

-- all quotes before `end` are doubled, and at `end` is a quote that no quote follows, or the end of
-- the text
pub record IsQuotedEnd (text : List ℕ) (end : ℕ) : Type 0 where
  pub within : end ≤ length text
  pub inside : IsDoubled (take end text)
  pub here : end < length text → slice_index text end ≡ quote
  pub stops : StartsWithQuote (drop (end + 1) text) → ⊥

-- field n of a text is spelled as found, or does not exist
pub record IsFieldAt (text : List ℕ) (n : ℕ) (found : Option RawField) : Type 0 where
  pub fields : List (List ℕ)
  pub are : AreFields text fields
  pub here : MatchOption found (slice_get fields n ≡ None) (λ raw. (field : List ℕ) × IsRawForm raw.raw.now raw.quoted field × (slice_get fields n ≡ Some field))

-- the cached fields of a text are spelled as found
abbrev pub AreCachedFields : List ℕ → List CachedField → Type 0
AreCachedFields text kept = All (λ sought. IsFieldAt text sought.number sought.found) kept

-- the spelling of the first four fields of a line, and the remainder
pub record HasSplit (raw : LineParts) (parts : Parts) : Type 0 where
  pub surface : IsRawForm raw.surface.raw.now raw.surface.quoted parts.surface
  pub left : IsRawForm raw.left.raw.now raw.left.quoted parts.left
  pub right : IsRawForm raw.right.raw.now raw.right.quoted parts.right
  pub cost : IsRawForm raw.cost.raw.now raw.cost.quoted parts.cost
  pub feature : raw.feature.now ≡ parts.feature

-- the line has these parts
pub record HasParts (text : List ℕ) (raw : LineParts) : Type 0 where
  pub parts : Parts
  pub lies : HasSplit raw parts
  pub first : AreFirstFields text (parts.surface ∷ parts.left ∷ parts.right ∷ parts.cost ∷ []) parts.feature

-- the line is UTF-8, is not blank, and has these parts
pub record HasEntry (line : List ℕ) (raw : LineParts) : Type 0 where
  pub filled : is_blank_line line ≡ false
  pub utf8 : IsUtf8 line
  pub has : HasParts line raw

-- no comma ends the fourth field
abbrev pub HasFewFields : List ℕ → Type 0
HasFewFields text = (fields : List (List ℕ)) × AreFields text fields × (length fields ≤ 4)

-- field n is spelled by the bytes `raw`, and this remainder follows it
pub record HasFieldAt (text : List ℕ) (n : ℕ) (raw : List ℕ) (quoted : Bool) (rest : Option (List ℕ)) : Type 0 where
  pub firsts : List (List ℕ)
  pub at : List ℕ
  pub before : AreFirstFields text firsts at
  pub count : length firsts ≡ n
  pub here : StartsWithField (IsFirstField at) raw quoted rest
