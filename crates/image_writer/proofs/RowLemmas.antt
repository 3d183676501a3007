-- Rows, and the entries that they are.
use Rattle.std.proofs.Common.{◌≡◌, ℕ, zero, suc, ◌+◌, ◌<◌, Bool, true, false, cond, not, ltb, List, [], ◌∷◌, ◌++◌, length, take, filter, get_or, refl, ap, ◌∙◌, subst, arith}
use Rattle.std.specs.Prelude.{All, IsTrue, flat_map, map, slice_get, slice_index_or, sum_by, Some}
use Rattle.std.specs.List.{AllByRecursion, enumerate_from, range_with_len}
use Rattle.std.proofs.lemmas.List.{length-append}
use Rattle.std.proofs.lemmas.List.Concat.{length-flat_map}
use Rattle.std.proofs.lemmas.Bool.{and_parts, ltb-true}
use Rattle.std.proofs.lemmas.List.Elements.{All-from_recursion, recursion_from_All}
use Rattle.std.proofs.lemmas.List.Sums.{sum_by-cons}
use Rattle.mj_model.specs.declared.matrix_sizes.MatrixSizes.{MatrixSizes}
use Rattle.mj_model.specs.Connection.{is_pair}
use Rattle.mj_model.specs.Lexicon.{Row}
use Rattle.mj_model.specs.UnkDef.{token_of, tokens_from}
use Rattle.mj_model.proofs.Basics.{all_append}
use Rattle.lex_source.specs.Lexicons.{AreLexiconRows, LexiconRows}
use Rattle.char_def.specs.Outside.{all_lines_outside, is_outside, lines_outside}
use Rattle.image_writer.specs.Entries.{all_rows}

abbrev pub joined : List (List Row) → List Row
joined unknown = flat_map (λ (rows : List Row). rows) unknown

-- a row after others
pub get_after : (front rows : List Row) (k : ℕ) → slice_get (front ++ rows) (length front + k) ≡ slice_get rows k
get_after [] rows k = let e : 0 + k ≡ k = omega (arith) in ap (slice_get rows) e
get_after (row ∷ front) rows k = let e : suc (length front) + k ≡ suc (length front + k) = omega (arith) in ap (slice_get (row ∷ (front ++ rows))) e ∙ get_after front rows k

-- a row before others
pub get_before : (rows back : List Row) (k : ℕ) → k < length rows → slice_get (rows ++ back) k ≡ slice_get rows k
get_before [] back k less = absurd (omega (arith, less))
get_before (row ∷ rows) back zero less = refl
get_before (row ∷ rows) back (suc k) less = get_before rows back k (omega (arith, less))

-- a row of a list, by its position in all lists
pub get_joined : (unknown : List (List Row)) (i k : ℕ) → k < length (slice_index_or unknown i [])
    → slice_get (joined unknown) (sum_by length (take i unknown) + k) ≡ slice_get (slice_index_or unknown i []) k
get_joined [] i k less = absurd (omega (arith, less))
get_joined (rows ∷ unknown) zero k less =
    let e : sum_by length (take 0 (rows ∷ unknown)) + k ≡ k = omega (arith) in
    ap (slice_get (joined (rows ∷ unknown))) e ∙ get_before rows (joined unknown) k less
get_joined (rows ∷ unknown) (suc i) k less =
    let s : sum_by length (take (suc i) (rows ∷ unknown)) ≡ length rows + sum_by length (take i unknown) = sum_by-cons length rows (take i unknown) in
    let e : sum_by length (take (suc i) (rows ∷ unknown)) + k ≡ length rows + (sum_by length (take i unknown) + k) = omega (arith, s) in
    ap (slice_get (joined (rows ∷ unknown))) e ∙ get_after rows (joined unknown) (sum_by length (take i unknown) + k) ∙ get_joined unknown i k less

-- the entries of list i have the numbers from those of the lists before it on
pub tokens_at : (first : ℕ) (unknown : List (List Row)) (i : ℕ)
    → slice_index_or (tokens_from first unknown) i [] ≡ map token_of (enumerate_from (first + sum_by length (take i unknown)) (slice_index_or unknown i []))
tokens_at first [] i = refl
tokens_at first (rows ∷ unknown) zero =
    let e : first ≡ first + sum_by length (take 0 (rows ∷ unknown)) = omega (arith) in
    ap (λ n. map token_of (enumerate_from n rows)) e
tokens_at first (rows ∷ unknown) (suc i) =
    let s : sum_by length (take (suc i) (rows ∷ unknown)) ≡ length rows + sum_by length (take i unknown) = sum_by-cons length rows (take i unknown) in
    let e : first + length rows + sum_by length (take i unknown) ≡ first + sum_by length (take (suc i) (rows ∷ unknown)) = omega (arith, s) in
    tokens_at (first + length rows) unknown i ∙ ap (λ n. map token_of (enumerate_from n (slice_index_or unknown i []))) e

-- a fact about each row by its number, one by one
pub numbered : {X : Type 0} (f : ℕ → X) (g : (ℕ × Row) → X) (first : ℕ) (rows : List Row) → ((k : ℕ) (row : Row) → slice_get rows k ≡ Some row → f (first + k) ≡ g (first + k, row))
    → map f (range_with_len first (length rows)) ≡ map g (enumerate_from first rows)
numbered f g first [] is = refl
numbered f g first (row ∷ rows) is =
    let none : first + 0 ≡ first = omega (arith) in
    let here : f first ≡ g (first, row) = subst (λ n. f n ≡ g (n, row)) none (is 0 row refl) in
    let rest = numbered f g (first + 1) rows (λ k other at. (
    let e : first + suc k ≡ first + 1 + k = omega (arith) in
    subst (λ n. f n ≡ g (n, other)) e (is (suc k) other at))) in
    λ i. here i ∷ rest i

-- ---- ids

abbrev HasPair : MatrixSizes → Row → Type 0
HasPair sizes row = IsTrue (is_pair sizes row.right row.left)

none_in_parts : (xs ys : List ℕ) → xs ++ ys ≡ [] → (xs ≡ []) × (ys ≡ [])
none_in_parts [] ys none = (refl, none)
none_in_parts (x ∷ xs) ys none = absurd (cc)

pairs_of : (sizes : MatrixSizes) (rows : List Row) → lines_outside sizes rows ≡ [] → AllByRecursion (HasPair sizes) rows
pairs_of sizes [] none = tt
pairs_of sizes (row ∷ rows) none = by (is_pair sizes row.right row.left) refl none (pairs_of sizes rows)
  where
    by : (b : Bool) → is_pair sizes row.right row.left ≡ b → map (λ (r : Row). r.line) (cond (not b) (row ∷ filter (is_outside sizes) rows) (filter (is_outside sizes) rows)) ≡ []
        → (lines_outside sizes rows ≡ [] → AllByRecursion (HasPair sizes) rows) → HasPair sizes row × AllByRecursion (HasPair sizes) rows
    by true is others rest = (is, rest others)
    by false is others rest = absurd (cc)

pairs_of_unknown : (sizes : MatrixSizes) (unknown : List (List Row)) → all_lines_outside sizes unknown ≡ [] → AllByRecursion (HasPair sizes) (joined unknown)
pairs_of_unknown sizes [] none = tt
pairs_of_unknown sizes (rows ∷ unknown) none =
    let parts = none_in_parts (lines_outside sizes rows) (all_lines_outside sizes unknown) none in
    all_append (HasPair sizes) rows (joined unknown) (pairs_of sizes rows parts.0) (pairs_of_unknown sizes unknown parts.1)

-- the ids of each entry lie within the sizes
pub ids_within : (lexicon : LexiconRows) (unknown : List (List Row)) → AreLexiconRows lexicon → all_lines_outside lexicon.sizes unknown ≡ []
    → All (λ row. (row.right < lexicon.sizes.right) × (row.left < lexicon.sizes.left)) (all_rows lexicon.rows unknown)
ids_within lexicon unknown are none = λ i d less.
    let sizes = lexicon.sizes in
    let own = recursion_from_All (HasPair sizes) lexicon.rows (λ k e low. (are.each k e low).ids) in
    let both = all_append (HasPair sizes) lexicon.rows (joined unknown) own (pairs_of_unknown sizes unknown none) in
    let row : Row = get_or (all_rows lexicon.rows unknown) i d in
    let pair = and_parts (ltb row.right sizes.right) (ltb row.left sizes.left) (All-from_recursion (HasPair sizes) (all_rows lexicon.rows unknown) both i d less) in
    (ltb-true row.right sizes.right pair.0, ltb-true row.left sizes.left pair.1)

-- how many entries there are in all
pub count_all : (rows : List Row) (unknown : List (List Row)) → length (all_rows rows unknown) ≡ length rows + sum_by length unknown
count_all rows unknown = length-append rows (joined unknown) ∙ ap (λ n. length rows + n) (length-flat_map (λ (lines : List Row). lines) unknown)
