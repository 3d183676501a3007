-- The tokens of a system dictionary are those of all its rows, one after another.
use Rattle.std.proofs.Common.{◌≡◌, ℕ, suc, ◌+◌, List, [], ◌∷◌, ◌++◌, length, map, refl, sym, ap, ◌∙◌, arith}
use Rattle.std.specs.Prelude.{flat_map, slice_index_or}
use Rattle.std.specs.List.{enumerate_from, range_with_len}
use Rattle.std.proofs.lemmas.Simd.{map-map}
use Rattle.image_format.specs.ImageBounds.{lexicon_tokens}
use Rattle.mj_model.specs.Dictionary.{lexeme_of}
use Rattle.mj_model.specs.Lexicon.{Row}
use Rattle.mj_model.specs.Tables.{Lexeme, Token}
use Rattle.mj_model.specs.UnkDef.{token_of, tokens_from, unknown_tokens}
use Rattle.image_writer.specs.Entries.{all_rows, lexemes_of, tokens_of}
use Rattle.image_writer.proofs.RowLemmas.{joined}

-- ---- numbered rows

abbrev numbered : ℕ → List Row → List Token
numbered first rows = map token_of (enumerate_from first rows)

numbered_after : (first : ℕ) (rows more : List Row) → numbered first (rows ++ more) ≡ numbered first rows ++ numbered (first + length rows) more
numbered_after first [] more = let e : first ≡ first + 0 = omega (arith) in ap (λ n. numbered n more) e
numbered_after first (row ∷ rows) more =
    let e : first + 1 + length rows ≡ first + suc (length rows) = omega (arith) in
    let rest = numbered_after (first + 1) rows more ∙ ap (λ n. numbered (first + 1) rows ++ numbered n more) e in
    λ i. token_of (first, row) ∷ rest i

-- ---- lists of lists

abbrev all_of : {X : Type 0} → List (List X) → List X
all_of lists = flat_map (λ list. list) lists

-- the lists by their numbers, from a first number on
by_number : {X : Type 0} (lists : List (List X)) (first : ℕ) (list_at : ℕ → List X) → ((i : ℕ) → list_at (first + i) ≡ slice_index_or lists i [])
    → flat_map list_at (range_with_len first (length lists)) ≡ all_of lists
by_number [] first list_at is = refl
by_number (list ∷ lists) first list_at is =
    let none : first + 0 ≡ first = omega (arith) in
    let here : list_at first ≡ list = ap list_at (sym none) ∙ is 0 in
    let rest = by_number lists (first + 1) list_at (λ i. let e : first + 1 + i ≡ first + suc i = omega (arith) in ap list_at e ∙ is (suc i)) in
    λ i. here i ++ rest i

-- ---- the tokens of all rows

pub lexicon_tokens_are : (rows : List Row) → lexicon_tokens (lexemes_of rows) ≡ tokens_of rows
lexicon_tokens_are rows = map-map (λ (e : Lexeme). e.token) lexeme_of (enumerate_from 0 rows)

as_many : (first : ℕ) (unknown : List (List Row)) → length (tokens_from first unknown) ≡ length unknown
as_many first [] = refl
as_many first (rows ∷ unknown) = ap suc (as_many (first + length rows) unknown)

all_unknown : (first : ℕ) (unknown : List (List Row)) → all_of (tokens_from first unknown) ≡ numbered first (joined unknown)
all_unknown first [] = refl
all_unknown first (rows ∷ unknown) =
    ap (λ tokens. numbered first rows ++ tokens) (all_unknown (first + length rows) unknown) ∙ sym (numbered_after first rows (joined unknown))

unknown_by_category : (first : ℕ) (unknown : List (List Row)) → flat_map (unknown_tokens first unknown) (range_with_len 0 (length unknown)) ≡ numbered first (joined unknown)
unknown_by_category first unknown =
    ap (λ n. flat_map (unknown_tokens first unknown) (range_with_len 0 n)) (sym (as_many first unknown))
    ∙ by_number (tokens_from first unknown) 0 (unknown_tokens first unknown) (λ i. let e : 0 + i ≡ i = omega (arith) in ap (unknown_tokens first unknown) e)
    ∙ all_unknown first unknown

-- the tokens of the lexicon, followed by those of each category, are those of all rows
pub all_tokens_are : (rows : List Row) (unknown : List (List Row))
    → lexicon_tokens (lexemes_of rows) ++ flat_map (unknown_tokens (length rows) unknown) (range_with_len 0 (length unknown)) ≡ tokens_of (all_rows rows unknown)
all_tokens_are rows unknown =
    let none : length rows ≡ 0 + length rows = omega (arith) in
    (λ i. lexicon_tokens_are rows i ++ unknown_by_category (length rows) unknown i)
    ∙ ap (λ n. tokens_of rows ++ numbered n (joined unknown)) none
    ∙ sym (numbered_after 0 rows (joined unknown))
