-- The fields of a lexicon line (MeCab's CSV; what it leaves open is this project's own choice).
-- Blanks and tabs before a field are skipped. A field that starts with a quote ends at the next
-- single quote, and a doubled quote inside it is one quote.
use Rattle.std.specs.Prelude.{◌≡◌, ℕ, if◌then◌else◌, List, [], ◌∷◌, ◌++◌, flat_map, drop, Option, Some, None, ◌⊎◌}
use Rattle.std.specs.List.{before_first, after_first, list_any, prefix_len}
use Rattle.mj_model.specs.Bytes.{is_comma, is_quote, is_blank, quote}

-- the text without the blanks and tabs at its start
abbrev pub without_leading_blanks : List ℕ → List ℕ
without_leading_blanks text = drop (prefix_len is_blank text) text

-- the remainder after the first comma
abbrev pub rest_of : List ℕ → Option (List ℕ)
rest_of text = if list_any is_comma text then Some (after_first is_comma text) else None

-- the text with each quote doubled
abbrev pub with_doubled_quotes : List ℕ → List ℕ
with_doubled_quotes = flat_map (λ c. if is_quote c then quote ∷ quote ∷ [] else c ∷ [])

abbrev pub StartsWithQuote : List ℕ → Type 0
StartsWithQuote [] = ⊥
StartsWithQuote (c ∷ cs) = c ≡ quote

-- the first field of a text with no blanks before it, and the remainder after its comma. An
-- unquoted field ends at the first comma. A quoted field ends at the first quote that no quote
-- follows, and its quotes are doubled; the bytes from there to the next comma are ignored. Without
-- such a quote, the field is all that follows the first quote.
abbrev pub IsFieldOf : List ℕ → List ℕ → Option (List ℕ) → Type 0
IsFieldOf text field rest =
    ((StartsWithQuote text → ⊥) × (field ≡ before_first is_comma text) × (rest ≡ rest_of text))
    ⊎ ((following : List ℕ) × (text ≡ quote ∷ (with_doubled_quotes field ++ quote ∷ following)) × (StartsWithQuote following → ⊥) × (rest ≡ rest_of following))
    ⊎ ((text ≡ quote ∷ with_doubled_quotes field) × (rest ≡ None))

-- the first field of a line, and the remainder after its comma, if there is one
abbrev pub IsFirstField : List ℕ → List ℕ → Option (List ℕ) → Type 0
IsFirstField line field rest = IsFieldOf (without_leading_blanks line) field rest

-- the fields of a line, of which the last has no remainder
abbrev pub AreFields : List ℕ → List (List ℕ) → Type 0
AreFields line [] = ⊥
AreFields line (field ∷ []) = IsFirstField line field None
AreFields line (field ∷ next ∷ more) = (rest : List ℕ) × IsFirstField line field (Some rest) × AreFields rest (next ∷ more)

-- the first fields of a line, each followed by a comma, and the remainder after the last of them
abbrev pub AreFirstFields : List ℕ → List (List ℕ) → List ℕ → Type 0
AreFirstFields line [] rest = rest ≡ line
AreFirstFields line (field ∷ more) rest = (next : List ℕ) × IsFirstField line field (Some next) × AreFirstFields next more rest

-- each line has exactly one first field and remainder
abbrev pub HasOneFirstField : Type 0
HasOneFirstField = (line : List ℕ) → (field : List ℕ) × (rest : Option (List ℕ)) × IsFirstField line field rest
    × ((other : List ℕ) (more : Option (List ℕ)) → IsFirstField line other more → (other ≡ field) × (more ≡ rest))
