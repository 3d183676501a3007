-- The ids, costs and first categories of a well-formed image.
use Rattle.std.proofs.Common.{length, ◌≡◌, ℕ, zero, suc, ◌+◌, ◌-◌, ◌*◌, ◌^◌, ◌<◌, ◌≤◌, ℤ, pos, negsuc, Bool, true, false, cond, leb, ltb, List, [], ◌∷◌, map, reverse, Option, Some, None, sym, ap, ◌∙◌, refl, arith, subst}
use Rattle.std.specs.Prelude.{IsTrue}
use Rattle.std.specs.Int.{w16, cast_signed}
use Rattle.std.specs.Int.RustNames.{FitsSigned}
use Rattle.std.proofs.lemmas.Int.{ints}
use Rattle.std.proofs.Math.Facts.{sfits_to_z}
use Rattle.std.specs.List.{AllByRecursion, find, flat_map, range_with_len}
use Rattle.std.specs.Option.{option_map_or}
use Rattle.std.proofs.lemmas.Bool.{le-leb, lt-ltb, ltb-true}
use Rattle.std.proofs.lemmas.List.{get_or-drop, reverse-append}
use Rattle.std.proofs.lemmas.List.FromFn.{map-range_with_len_more}
use Rattle.mj_model.specs.Bounds.{IsWithin}
use Rattle.mj_model.specs.declared.matrix_sizes.MatrixSizes.{MatrixSizes}
use Rattle.mj_model.specs.Connection.{is_pair}
use Rattle.image_format.specs.ImageBytes.{kind_of, number_at, signed_2_at, header_of, all_tokens, section}
use Rattle.image_format.specs.ImageMeaning.{image_info, image_unknown, info_in, tokens_in, entry_under, image_tables, key_in, lexicon_sections, entries_of_group}
use Rattle.image_format.specs.declared.layout.InfoForm.{InfoForm}
use Rattle.image_format.specs.declared.layout.InfoForm.TheVariants as info
use Rattle.image_format.specs.ImageFaults.{AreInfos}
use Rattle.image_format.specs.Layouts.{info_form, key_form}
use Rattle.image_format.specs.OlderSections.{AreEntries, entry_at, own_entries}
use Rattle.image_format.specs.ImageSections.{AreRanges, IsIndex, StoredRange, range_at, stored_info, no_info, token_from, stored_token, stored_cost, index_at}
use Rattle.mj_model.specs.Tables.{System, Token, Lexeme, HasDistinctTokens}
use Rattle.mj_model.proofs.Basics.{all_append, both_parts}
use Rattle.dict_image.specs.Fitting.{AreBytes, AreFitting, IsFitting}
use Rattle.dict_image.specs.Validation.Outlines.{IsImage}
use Rattle.image_format.specs.ImageSections.{range_count}
use Rattle.dict_image.proofs.CategoryLemmas.{count_of_image}
use Rattle.dict_image.proofs.FormedLemmas.{few_categories, groups_are, infos_are, is_header, system_of_categories, token_fits, unknown_are}
use Rattle.dict_image.proofs.RangeLemmas.{in_order}
use Rattle.dict_image.proofs.TokenLemmas.{index_within, some_tokens}
use Rattle.dict_image.proofs.NumberLemmas.{lexicon_apart, lexicon_texts, list_apart}
use Rattle.dict_image.proofs.NumberedTokens.{number_is_place, numbered_count}

-- ---- costs

two_bytes : (bytes : List ℕ) (at : ℕ) → AreBytes bytes → number_at 2 bytes at < 65536
two_bytes bytes at are =
    let low = get_or-drop at bytes 0 0 in
    let high = get_or-drop at bytes 1 0 in
    let a = are (at + 0) in
    let b = are (at + 1) in
    omega (arith, low, high, a, b)

within_of : (z : ℤ) → FitsSigned w16 z → IsWithin (2 ^ 15) z
within_of (pos k) fits = let s = fits.sfits in (omega (arith, ints), omega (arith, ints, s))
within_of (negsuc k) fits = let s = fits.sfits in (omega (arith, ints, s), omega (arith, ints))

small_signed : (n : ℕ) → n < 65536 → IsWithin (2 ^ 15) (cast_signed w16 n)
small_signed n less = within_of (cast_signed w16 n) (sfits_to_z {w = w16} {n = n} (record { fits = less }))

cost_within : (bytes : List ℕ) (at : ℕ) → AreBytes bytes → IsWithin (2 ^ 15) (signed_2_at bytes at)
cost_within bytes at are = small_signed (number_at 2 bytes at) (two_bytes bytes at are)

none_within : IsWithin (2 ^ 15) (pos 0)
none_within = (omega (arith, ints), omega (arith, ints))

cost_by : (b : Bool) (z : ℤ) → IsWithin (2 ^ 15) z → IsWithin (2 ^ 15) (cond b z (pos 0))
cost_by true z within = within
cost_by false z within = none_within

-- ---- entries

pair_from : (sizes : MatrixSizes) (right left : ℕ) → right < sizes.right → left < sizes.left → IsTrue (is_pair sizes right left)
pair_from sizes right left r l = rw (lt-ltb right sizes.right r, lt-ltb left sizes.left l) refl

pub pair_within : (sizes : MatrixSizes) (right left : ℕ) → IsTrue (is_pair sizes right left) → (right < sizes.right) × (left < sizes.left)
pair_within sizes right left h =
    let p = both_parts (ltb right sizes.right) (ltb left sizes.left) h in
    (ltb-true right sizes.right p.0, ltb-true left sizes.left p.1)

token_fit : (bytes : List ℕ) (i : ℕ) → IsImage bytes → AreBytes (section bytes 7) → i < all_tokens (header_of bytes) → IsFitting (header_of bytes).sizes (token_from (section bytes 7) (section bytes 8) i)
token_fit bytes i w are less =
    let f = token_fits bytes i w less in
    (pair_from (header_of bytes).sizes (stored_token (section bytes 7) i).right (stored_token (section bytes 7) i).left f.right_below f.left_below, cost_within (section bytes 7) (16 * i + 4) are)

tokens_fit : (bytes : List ℕ) (first n : ℕ) → IsImage bytes → AreBytes (section bytes 7) → first + n ≤ all_tokens (header_of bytes)
    → AllByRecursion (IsFitting (header_of bytes).sizes) (map (token_from (section bytes 7) (section bytes 8)) (range_with_len first n))
tokens_fit bytes first zero w are within = tt
tokens_fit bytes first (suc n) w are within = (token_fit bytes first w are (omega (arith, within)), tokens_fit bytes (first + 1) n w are (omega (arith, within)))

list_fits : (bytes index : List ℕ) (lists low high i : ℕ) → IsImage bytes → AreBytes (section bytes 7) → IsIndex lists low high index → high ≤ all_tokens (header_of bytes) → i < lists
    → AllByRecursion (IsFitting (header_of bytes).sizes) (tokens_in (section bytes 7) (section bytes 8) index i)
list_fits bytes index lists low high i w are is few less =
    let end = index_within lists low high index (suc i) is (omega (arith, less)) in
    let rises = is.rising i less in
    tokens_fit bytes (index_at index i) (index_at index (suc i) - index_at index i) w are (omega (arith, end, rises, few))

named : (sizes : MatrixSizes) (surface : List ℕ) (ts : List Token) → AllByRecursion (IsFitting sizes) ts → AllByRecursion (λ (e : Lexeme). IsFitting sizes e.token) (map (entry_under surface) ts)
named sizes surface [] fit = tt
named sizes surface (t ∷ ts) fit = (fit.0, named sizes surface ts fit.1)

groups_fit : (bytes : List ℕ) (first n : ℕ) → IsImage bytes → AreBytes (section bytes 7) → first + n ≤ (header_of bytes).groups
    → AllByRecursion (λ (e : Lexeme). IsFitting (header_of bytes).sizes e.token) (flat_map (entries_of_group (lexicon_sections bytes)) (range_with_len first n))
groups_fit bytes first zero w are within = tt
groups_fit bytes first (suc n) w are within =
    let h = header_of bytes in
    let these = list_fits bytes (section bytes 6) h.groups 0 h.tokens first w are (groups_are bytes w) (omega arith) (omega (arith, within)) in
    all_append (λ (e : Lexeme). IsFitting h.sizes e.token) (entries_of_group (lexicon_sections bytes) first) (flat_map (entries_of_group (lexicon_sections bytes)) (range_with_len (first + 1) n))
    (named h.sizes (key_in (key_form h.layout) (section bytes 5) first) (tokens_in (section bytes 7) (section bytes 8) (section bytes 6) first) these) (groups_fit bytes (first + 1) n w are (omega (arith, within)))

unknown_by : (bytes : List ℕ) (i : ℕ) (b : Bool) → IsImage bytes → AreBytes (section bytes 7) → ltb i (header_of bytes).categories ≡ b
    → AllByRecursion (IsFitting (header_of bytes).sizes) (cond b (tokens_in (section bytes 7) (section bytes 8) (section bytes 4) i) [])
unknown_by bytes i false w are test = tt
unknown_by bytes i true w are test =
    let h = header_of bytes in
    let less = ltb-true i h.categories test in
    list_fits bytes (section bytes 4) h.categories h.tokens (all_tokens h) i w are (unknown_are bytes (system_of_categories bytes i w less) w) (omega arith) less

-- ---- first categories

abbrev starts_by : ℕ → StoredRange → Bool
starts_by code range = leb range.first code

abbrev first_ranges : List ℕ → ℕ → List StoredRange
first_ranges ranges n = map (range_at ranges) (range_with_len 0 n)

last_range : (ranges : List ℕ) (code n : ℕ) → find (starts_by code) (reverse (first_ranges ranges (suc n))) ≡ cond (starts_by code (range_at ranges n)) (Some (range_at ranges n)) (find (starts_by code) (reverse (first_ranges ranges n)))
last_range ranges code n =
    let e : suc n ≡ n + 1 = omega arith in
    ap (λ (k : ℕ). find (starts_by code) (reverse (first_ranges ranges k))) e
    ∙ ap (λ (rs : List StoredRange). find (starts_by code) (reverse rs)) (map-range_with_len_more (range_at ranges) 0 n n (omega arith))
    ∙ ap (find (starts_by code)) (reverse-append (first_ranges ranges n) (range_at ranges n ∷ []))

-- a range that is found
abbrev IsFound : List ℕ → ℕ → ℕ → Type 0
IsFound ranges code n = (i : ℕ) × (i < n) × (find (starts_by code) (reverse (first_ranges ranges n)) ≡ Some (range_at ranges i))

found_by : (ranges : List ℕ) (code n : ℕ) (b : Bool) → starts_by code (range_at ranges n) ≡ b → IsFound ranges code n → IsFound ranges code (suc n)
found_by ranges code n true test before =
    (n, omega arith, last_range ranges code n ∙ ap (λ (b : Bool). cond b (Some (range_at ranges n)) (find (starts_by code) (reverse (first_ranges ranges n)))) test)
found_by ranges code n false test before =
    let less = before.1 in
    (before.0, omega (arith, less), last_range ranges code n ∙ ap (λ (b : Bool). cond b (Some (range_at ranges n)) (find (starts_by code) (reverse (first_ranges ranges n)))) test ∙ before.2)

-- of ranges from code point 0 on, one starts at or before each code point
found_in : (ranges : List ℕ) (code n : ℕ) → (range_at ranges 0).first ≡ 0 → IsFound ranges code (suc n)
found_in ranges code zero zeroth =
    let started : starts_by code (range_at ranges 0) ≡ true = le-leb (range_at ranges 0).first code (omega (arith, zeroth)) in
    (0, omega arith, last_range ranges code 0 ∙ ap (λ (b : Bool). cond b (Some (range_at ranges 0)) None) started)
found_in ranges code (suc n) zeroth = found_by ranges code (suc n) (starts_by code (range_at ranges (suc n))) refl (found_in ranges code n zeroth)

first_below : (categories : ℕ) (ranges : List ℕ) (code : ℕ) → categories ≤ 256 → AreRanges categories ranges → (stored_info ranges code).head < categories
first_below categories ranges code few are =
    let some = (in_order categories ranges few are).some in
    let e : suc (range_count ranges - 1) ≡ range_count ranges = omega (arith, some) in
    let found : IsFound ranges code (range_count ranges) = subst (IsFound ranges code) e (found_in ranges code (range_count ranges - 1) are.from_zero) in
    subst (λ (o : Option StoredRange). (option_map_or (λ (range : StoredRange). range.info) o no_info).head < categories) (sym found.2) (are.infos found.0 found.1).first_below

first_listed : (categories : ℕ) (entries : List ℕ) (code : ℕ) (b : Bool) → AreEntries categories entries → ltb code own_entries ≡ b → (entry_at entries (cond b code 0)).head < categories
first_listed categories entries code true are test = (are.infos code (ltb-true code own_entries test)).first_below
first_listed categories entries code false are test = (are.infos 0 (omega arith)).first_below

first_in : (form : InfoForm) (categories : ℕ) (infos : List ℕ) (code : ℕ) → categories ≤ 256 → AreInfos form categories infos → (info_in form infos code).head < categories
first_in info.Listed categories infos code few are = first_listed categories infos code (ltb code own_entries) are refl
first_in info.Ranges categories infos code few are = first_below categories infos code few are

-- the first category of a code point is one of the categories
pub first_of_image : (bytes : List ℕ) (code : ℕ) → IsImage bytes → kind_of (header_of bytes) ≡ System → (image_info bytes code).head < (header_of bytes).categories
first_of_image bytes code w system = first_in (info_form (header_of bytes).layout) (header_of bytes).categories (section bytes 3) code (few_categories bytes w) (infos_are bytes system w)

-- ---- categories

apart_by : (bytes : List ℕ) (i : ℕ) (b : Bool) → HasDistinctTokens (cond b (tokens_in (section bytes 7) (section bytes 8) (section bytes 4) i) [])
apart_by bytes i true = list_apart (section bytes 7) (section bytes 8) (section bytes 4) i
apart_by bytes i false = tt

some_unknown : (bytes : List ℕ) (i : ℕ) → IsImage bytes → i < (header_of bytes).categories → 0 < length (image_unknown bytes i)
some_unknown bytes i w less =
    let h = header_of bytes in
    let tokens = tokens_in (section bytes 7) (section bytes 8) (section bytes 4) i in
    let rises = (unknown_are bytes (system_of_categories bytes i w less) w).rising i less in
    subst (λ (b : Bool). 0 < length (cond b tokens [])) (sym (lt-ltb i h.categories less)) (some_tokens (section bytes 7) (section bytes 8) (section bytes 4) i rises)

-- ---- all of it

pub fitting_tables : (bytes : List ℕ) → IsImage bytes → AreBytes (section bytes 1) → AreBytes (section bytes 7) → AreFitting (image_tables bytes)
fitting_tables bytes w costs tokens =
    let h = header_of bytes in
    record {
      lexicon = groups_fit bytes 0 h.groups w tokens (omega arith);
      unknown = λ i. unknown_by bytes i (ltb i h.categories) w tokens refl;
      connections = λ right left. cost_by (is_pair h.sizes right left) (stored_cost h.sizes (section bytes 1) right left) (cost_within (section bytes 1) (2 * (right * h.sizes.left + left)) costs);
      no_words = let right = (is_header bytes w).sizes_allowed.right_some in let left = (is_header bytes w).sizes_allowed.left_some in pair_from h.sizes 0 0 (omega (arith, right)) (omega (arith, left));
      surfaces = lexicon_texts bytes w;
      lexicon_apart = lexicon_apart bytes w;
      unknown_apart = λ i. apart_by bytes i (ltb i h.categories);
      numbered = number_is_place bytes w;
      few = let count = numbered_count bytes w in let known = (is_header bytes w).few_tokens in let unknown = (is_header bytes w).few_unknown in omega (arith, count, known, unknown);
      firsts = λ system code. let less = first_of_image bytes code w system in let count = count_of_image bytes in omega (arith, less, count);
      covered = λ system code. some_unknown bytes (image_info bytes code).head w (first_of_image bytes code w system);
    }
