-- The entries of all groups, one group after another, are those of the lexicon.
use Rattle.std.proofs.Common.{◌≡◌, ℕ, zero, suc, ◌+◌, ◌-◌, ◌<◌, ◌≤◌, List, [], ◌∷◌, ◌++◌, length, map, take, drop, get_or, Some, sym, ap, ◌∙◌, refl, arith, append_assoc}
use Rattle.std.specs.Prelude.{flat_map, slice_get}
use Rattle.std.specs.List.{range_with_len}
use Rattle.std.proofs.lemmas.List.{flat_map_more, get_or_append_left, length-append, map-append, take_all, take_more, take-append-drop}
use Rattle.std.proofs.lemmas.List.Concat.{flat_map-append}
use Rattle.std.proofs.lemmas.Option.{get_or_from_slice_get, slice_get-get_or}
use Rattle.image_format.specs.ImageBounds.{feature_bytes, feature_bytes_end}
use Rattle.mj_model.specs.Dictionary.{lexeme_of}
use Rattle.image_format.specs.ImageMeaning.{LexiconSections, entries_of_group, entry_under, key_in, lexicon_in}
use Rattle.image_format.specs.declared.layout.KeyForm.{KeyForm}
use Rattle.image_format.specs.declared.layout.KeyForm.TheVariants.{Cells}
use Rattle.image_format.specs.ImageSections.{IsIndex, index_at, token_from}
use Rattle.mj_model.specs.Lexicon.{Row}
use Rattle.mj_model.specs.Tables.{Lexeme}
use Rattle.image_writer.specs.declared.tokens.TokenWriter.{TokenWriter}
use Rattle.image_writer.specs.Entries.{all_rows, lexemes_of, no_row, tokens_of}
use Rattle.image_writer.specs.Groups.{AreUnderKeys}
use Rattle.image_writer.specs.Sections.{AreWritten, HoldTokens, features_of}
use Rattle.image_writer.proofs.RowLemmas.{numbered}
use Rattle.image_writer.proofs.FeatureLemmas.{feature_bytes_of, size_of}

-- ---- ranges of numbers

range_join : (a m n : ℕ) → range_with_len a m ++ range_with_len (a + m) n ≡ range_with_len a (m + n)
range_join a zero n = ap (λ (b : ℕ). range_with_len b n) (omega arith) ∙ ap (range_with_len a) (omega arith)
range_join a (suc m) n =
    let moved : a + suc m ≡ a + 1 + m = omega arith in
    let long : suc m + n ≡ suc (m + n) = omega arith in
    ap (λ (b : ℕ). a ∷ range_with_len (a + 1) m ++ range_with_len b n) moved ∙ ap (λ (xs : List ℕ). a ∷ xs) (range_join (a + 1) m n) ∙ ap (range_with_len a) (sym long)

-- an entry by its number
abbrev lexeme_at : List Row → ℕ → Lexeme
lexeme_at rows i = lexeme_of (i, get_or rows i no_row)

-- ---- the entries of groups

under_key : (key : List ℕ) (tokens features : List ℕ) (f : ℕ → Lexeme) (a n : ℕ) → ((i : ℕ) → a ≤ i → i < a + n → entry_under key (token_from tokens features i) ≡ f i)
    → map (entry_under key) (map (token_from tokens features) (range_with_len a n)) ≡ map f (range_with_len a n)
under_key key tokens features f a zero each = refl
under_key key tokens features f a (suc n) each =
    let first = each a (omega arith) (omega arith) in
    let rest = under_key key tokens features f (a + 1) n (λ i low high. each i (omega (arith, low)) (omega (arith, high))) in
    cc

module _ (s : LexiconSections) (rows more : List Row) (groups : ℕ) (cells : s.form ≡ Cells) (hold : HoldTokens (rows ++ more) s.tokens s.features) (index : IsIndex groups 0 (length rows) s.groups) (under : AreUnderKeys rows groups s.keys s.groups) where
  -- the starts do not decrease
  no_fall : (n g : ℕ) → g + n ≤ groups → index_at s.groups g ≤ index_at s.groups (g + n)
  no_fall zero g le = ap-le (index_at s.groups) g (g + 0) (omega arith)
    where
      ap-le : (f : ℕ → ℕ) (x y : ℕ) → x ≡ y → f x ≤ f y
      ap-le f x y e = let h = ap f e in omega (arith, h)
  no_fall (suc n) g le =
      let r = index.rising g (omega (arith, le)) in
      let rest = no_fall n (suc g) (omega (arith, le)) in
      let e : index_at s.groups (suc g + n) ≡ index_at s.groups (g + suc n) = ap (index_at s.groups) (omega arith) in
      omega (arith, r, rest, e)

  start_within : (g : ℕ) → g ≤ groups → index_at s.groups g ≤ length rows
  start_within g le =
      let f = no_fall (groups - g) g (omega (arith, le)) in
      let e : index_at s.groups (g + (groups - g)) ≡ index_at s.groups groups = ap (index_at s.groups) (omega (arith, le)) in
      let last = index.last in
      omega (arith, f, e, last)

  of_group : (g : ℕ) → g < groups → entries_of_group s g ≡ map (lexeme_at rows) (range_with_len (index_at s.groups g) (index_at s.groups (suc g) - index_at s.groups g))
  of_group g less =
      let rises = index.rising g less in
      let within = start_within (suc g) (omega (arith, less)) in
      under_key (key_in s.form s.keys g) s.tokens s.features (lexeme_at rows) (index_at s.groups g) (index_at s.groups (suc g) - index_at s.groups g)
      (λ i low high.
      let i_within : i < length rows = omega (arith, low, high, rises, within) in
      let row : Row = get_or rows i no_row in
      let long = length-append rows more in
      let found : slice_get (rows ++ more) i ≡ Some row = slice_get-get_or (rows ++ more) i no_row (omega (arith, i_within, long)) ∙ ap Some (get_or_append_left rows more no_row i i_within) in
      let surface : key_in s.form s.keys g ≡ row.surface = ap (λ (form : KeyForm). key_in form s.keys g) cells ∙ sym (under.alike g i less low (omega (arith, low, high, rises))) in
      let token = (hold.each i row found).token in
      (λ j. record { surface = surface j; token = token j }))

  of_groups : (n g : ℕ) → g + n ≤ groups → flat_map (entries_of_group s) (range_with_len g n) ≡ map (lexeme_at rows) (range_with_len (index_at s.groups g) (index_at s.groups (g + n) - index_at s.groups g))
  of_groups zero g le =
      let e : index_at s.groups (g + 0) ≡ index_at s.groups g = ap (index_at s.groups) (omega arith) in
      let none : index_at s.groups (g + 0) - index_at s.groups g ≡ 0 = omega (arith, e) in
      ap (λ (n : ℕ). map (lexeme_at rows) (range_with_len (index_at s.groups g) n)) (sym none)
  of_groups (suc n) g le =
      let a : ℕ = index_at s.groups g in
      let b : ℕ = index_at s.groups (suc g) in
      let next : g + 1 ≡ suc g = omega arith in
      let rises = index.rising g (omega (arith, le)) in
      let falls = no_fall n (suc g) (omega (arith, le)) in
      let ends : index_at s.groups (g + suc n) ≡ index_at s.groups (suc g + n) = ap (index_at s.groups) (omega arith) in
      let first = of_group g (omega (arith, le)) in
      let rest = ap (λ (k : ℕ). flat_map (entries_of_group s) (range_with_len k n)) next ∙ of_groups n (suc g) (omega (arith, le)) in
      let from : a + (b - a) ≡ b = omega (arith, rises) in
      let long : (b - a) + (index_at s.groups (suc g + n) - b) ≡ index_at s.groups (g + suc n) - a = omega (arith, rises, falls, ends) in
      ap (λ (xs : List Lexeme). xs ++ flat_map (entries_of_group s) (range_with_len (g + 1) n)) first
      ∙ ap (λ (xs : List Lexeme). map (lexeme_at rows) (range_with_len a (b - a)) ++ xs) rest
      ∙ sym (map-append (lexeme_at rows) (range_with_len a (b - a)) (range_with_len b (index_at s.groups (suc g + n) - b)))
      ∙ ap (λ (k : ℕ). map (lexeme_at rows) (range_with_len a (b - a) ++ range_with_len k (index_at s.groups (suc g + n) - b))) (sym from)
      ∙ ap (map (lexeme_at rows)) (range_join a (b - a) (index_at s.groups (suc g + n) - b))
      ∙ ap (λ (k : ℕ). map (lexeme_at rows) (range_with_len a k)) long

  pub all_entries : lexicon_in groups s ≡ lexemes_of rows
  all_entries =
      let zero_first = index.first in
      let last : index_at s.groups (0 + groups) ≡ length rows = ap (index_at s.groups) (omega arith) ∙ index.last in
      of_groups groups 0 (omega arith)
      ∙ ap (λ (a : ℕ). map (lexeme_at rows) (range_with_len a (index_at s.groups (0 + groups) - a))) zero_first
      ∙ ap (λ (n : ℕ). map (lexeme_at rows) (range_with_len 0 n)) (omega (arith, last))
      ∙ numbered (lexeme_at rows) lexeme_of 0 rows
      (λ k row at. let e : 0 + k ≡ k = omega (arith) in ap (λ (r : Row). lexeme_of (0 + k, r)) (ap (λ (n : ℕ). get_or rows n no_row) e ∙ get_or_from_slice_get rows k row no_row at))

-- ---- features

pub few_features : (rows : List Row) (writer : TokenWriter) → AreWritten rows rows writer → feature_bytes (tokens_of rows) < feature_bytes_end
few_features rows writer written =
    let size = size_of (features_of rows) writer.features written.features in
    let few = writer.features.few in
    let e = feature_bytes_of rows in
    omega (arith, size, few, e)

-- ---- the unknown entries of categories

-- a category more
pub category_more : (rows : List Row) (unknown : List (List Row)) (i : ℕ) (lines : List Row) → i < length unknown → lines ≡ get_or unknown i []
    → all_rows rows (take i unknown) ++ lines ≡ all_rows rows (take (i + 1) unknown)
category_more rows unknown i lines less at =
    flat_map_more (λ (rs : List Row). rs) rows (take i unknown) lines
    ∙ ap (all_rows rows) (ap (λ (x : List Row). take i unknown ++ x ∷ []) at ∙ sym (take_more unknown i [] less))

pub categories_all : (rows : List Row) (unknown : List (List Row)) (i : ℕ) → length unknown ≤ i → all_rows rows (take i unknown) ≡ all_rows rows unknown
categories_all rows unknown i past = ap (all_rows rows) (take_all i unknown past)

-- the entries up to a category, those of the category, and the remainder
pub categories_around : (rows : List Row) (unknown : List (List Row)) (i : ℕ) (lines : List Row) → i < length unknown → lines ≡ get_or unknown i []
    → all_rows rows unknown ≡ (all_rows rows (take i unknown) ++ lines) ++ flat_map (λ rs. rs) (drop (i + 1) unknown)
categories_around rows unknown i lines less at =
    let front = flat_map (λ (rs : List Row). rs) (take (i + 1) unknown) in
    let following = flat_map (λ (rs : List Row). rs) (drop (i + 1) unknown) in
    ap (λ (rs : List Row). rows ++ rs) (ap (flat_map (λ (rs : List Row). rs)) (sym (take-append-drop (i + 1) unknown)) ∙ flat_map-append (λ (rs : List Row). rs) (take (i + 1) unknown) (drop (i + 1) unknown))
    ∙ sym (append_assoc rows front following)
    ∙ ap (λ (rs : List Row). rs ++ following) (sym (category_more rows unknown i lines less at))
