-- The tables of dictionaries by their numbers.
use Rattle.std.proofs.Common.{◌≡◌, ℕ, zero, suc, ◌+◌, ◌-◌, ◌<◌, ◌≤◌, ◌^◌, List, [], ◌∷◌, ◌++◌, length, get_or, drop, map, Some, sym, ap, ◌∙◌, refl, arith, subst, add-one}
use Rattle.std.specs.Prelude.{slice_get, slice_index_or, option_map}
use Rattle.std.specs.List.{AllByRecursion}
use Rattle.std.specs.Option.{option_map_or}
use Rattle.std.proofs.lemmas.List.{drop_more, length-map}
use Rattle.std.proofs.lemmas.Option.{same_Some, slice_get-get_or, slice_get-map}
use Rattle.mj_model.specs.declared.category.CharInfo.{CharInfo}
use Rattle.mj_model.specs.declared.matrix_sizes.MatrixSizes.{MatrixSizes}
use Rattle.mj_model.specs.Tables.{Lexeme, Overlay, Tables, lexicons, lexicons_of}
use Rattle.image_format.specs.ImageMeaning.{image_tables}
use Rattle.mj_model.specs.KnownWords.{known_from, known_in}
use Rattle.dict_image.specs.Fitting.{AreFitting}
use Rattle.dict_image.specs.Numbered.{numbered_tokens}
use Rattle.word_lookup.specs.declared.dictionaries.Dictionaries.{Dictionaries}
use Rattle.mj_model.specs.declared.paths.entry_list.EntryList.{EntryList}
use Rattle.mj_model.specs.declared.paths.entry_list.EntryList.TheVariants.{Categories, Lexicon}
use Rattle.word_lookup.specs.Fitting.{IsUserOf}
use Rattle.word_lookup.specs.Overlays.{overlay_of}
use Rattle.word_lookup.specs.Surfaces.{all_tables, tokens_of}
use Rattle.word_lookup.specs.declared.first_character.FirstCharacter.{FirstCharacter}
use Rattle.word_lookup.proofs.DictionaryLaws.{is_system}
use Rattle.word_lookup.proofs.UserLemmas.{laid_over}

-- ---- one dictionary

pub lexicon_at : (ts : List Tables) (n : ℕ) (t : Tables) → slice_get ts n ≡ Some t → slice_index_or (lexicons_of ts) n [] ≡ t.lexicon
lexicon_at [] n t h = absurd (cc)
lexicon_at (u ∷ us) zero t h = ap (λ (v : Tables). v.lexicon) (same_Some u t h)
lexicon_at (u ∷ us) (suc n) t h = lexicon_at us n t h

pub tokens_at : (o : Overlay) (n : ℕ) (t : Tables) → slice_get (all_tables o) n ≡ Some t → tokens_of o (Lexicon n) ≡ numbered_tokens t
tokens_at o n t h = ap (λ (found : _). option_map_or numbered_tokens found []) h

within_by : (ts : List Tables) (n : ℕ) → 0 < length (option_map_or numbered_tokens (slice_get ts n) []) → n < length ts
within_by [] n h = absurd (omega (arith, h))
within_by (t ∷ ts) zero h = omega arith
within_by (t ∷ ts) (suc n) h = let r = within_by ts n h in omega (arith, r)

-- there is a dictionary of a list that has entries
pub listed_within : (d : Dictionaries) (list : EntryList) (n : ℕ) → list ≡ Lexicon n → 0 < length (tokens_of (overlay_of d) list) → n ≤ length d.users.now
unfolding overlay_of
listed_within d list n is some =
    let o = overlay_of d in
    let less = within_by (all_tables o) n (subst (λ (l : EntryList). 0 < length (tokens_of o l)) is some) in
    let long = length-map d.users.now image_tables in
    omega (arith, less, long)

pub user_at : (system : Tables) (users : List (List ℕ)) (n : ℕ) (d : List ℕ) → (n ≡ 0 → ⊥) → n ≤ length users → slice_get (system ∷ map image_tables users) n ≡ Some (image_tables (get_or users (n - 1) d))
user_at system users zero d some low = absurd (some refl)
user_at system users (suc i) d some low =
    let e : suc i - 1 ≡ i = omega arith in
    slice_get-map image_tables users i ∙ ap (option_map image_tables) (slice_get-get_or users i d (omega (arith, low)) ∙ ap (λ (k : ℕ). Some (get_or users k d)) (sym e))

-- ---- all fit

users_fit : (sizes : MatrixSizes) (users : List Tables) → AllByRecursion (IsUserOf sizes) users → AllByRecursion AreFitting users
users_fit sizes [] all = tt
users_fit sizes (u ∷ us) all = (all.0.fits, users_fit sizes us all.1)

pub all_fit : (d : Dictionaries) → AllByRecursion AreFitting (image_tables d.system.now ∷ map image_tables d.users.now)
all_fit d =
    let f = laid_over (image_tables d.system.now) (map image_tables d.users.now) d.fitting in
    (f.fits, users_fit (image_tables d.system.now).sizes (map image_tables d.users.now) f.users_fit)

pub fits_at : (ts : List Tables) (n : ℕ) (t : Tables) → AllByRecursion AreFitting ts → slice_get ts n ≡ Some t → AreFitting t
fits_at [] n t all h = absurd (cc)
fits_at (u ∷ us) zero t all h = subst AreFitting (same_Some u t h) all.0
fits_at (u ∷ us) (suc n) t all h = fits_at us n t all.1 h

few_by : (ts : List Tables) (n : ℕ) → AllByRecursion AreFitting ts → length (option_map_or numbered_tokens (slice_get ts n) []) ≤ 2 ^ 32
few_by [] n all = omega arith
few_by (t ∷ ts) zero all = all.0.few
few_by (t ∷ ts) (suc n) all = few_by ts n all.1

-- the entries of a list have numbers of 32 bits
pub few_tokens : (d : Dictionaries) (list : EntryList) → length (tokens_of (overlay_of d) list) ≤ 2 ^ 32
unfolding overlay_of
few_tokens d (Lexicon n) = few_by (all_tables (overlay_of d)) n (all_fit d)
few_tokens d Categories = (all_fit d).0.few

-- the first category of a character is one of the system's
pub first_category : (d : Dictionaries) (f : FirstCharacter) → f.info ≡ (image_tables d.system.now).info f.character → f.info.head < length (image_tables d.system.now).categories
first_category d f is = subst (λ (i : CharInfo). i.head < length (image_tables d.system.now).categories) (sym is) ((all_fit d).0.firsts (is_system d) f.character)

-- ---- one dictionary after another

count_by : (users : List (List ℕ)) → length (lexicons_of (map image_tables users)) ≡ length users
count_by [] = refl
count_by (u ∷ us) = ap suc (count_by us)

pub lexicon_count : (d : Dictionaries) → length (lexicons (overlay_of d)) ≡ length d.users.now + 1
unfolding overlay_of
lexicon_count d = let e = count_by d.users.now in omega (arith, e)

pub lexicons_left : (place start : ℕ) (text : List ℕ) (ls : List (List Lexeme)) (n : ℕ) → n < length ls
    → known_from place start text n (drop n ls) ≡ known_in place start text n (slice_index_or ls n []) ++ known_from place start text (n + 1) (drop (n + 1) ls)
lexicons_left place start text ls n less =
    ap (known_from place start text n) (drop_more ls n [] less)
    ∙ ap (λ (k : ℕ). known_in place start text n (get_or ls n []) ++ known_from place start text k (drop (n + 1) ls)) (sym (add-one n))
