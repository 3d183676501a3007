-- The feature of an entry by its number.
use Rattle.std.proofs.Common.{◌≡◌, ℕ, zero, suc, ◌-◌, ◌<◌, ◌≤◌, List, [], ◌∷◌, length, map, get_or, sym, ap, ◌∙◌, refl, arith}
use Rattle.std.specs.Prelude.{◌==◌, Option, Some, None, option_map, find, is_some, nat_lt, slice_index_or, IfSome}
use Rattle.std.specs.Borrow.{Bor}
use Rattle.std.specs.Option.{option_map_or}
use Rattle.std.proofs.lemmas.Bool.{ltb-true, ltb-false}
use Rattle.image_format.specs.ImageMeaning.{image_tables}
use Rattle.mj_model.specs.Printed.{feature_in}
use Rattle.mj_model.specs.Tables.{Tables, Token, Lexeme, lexicons_of}
use Rattle.dict_image.specs.declared.entry_ref.EntryRef.{EntryRef}
use Rattle.dict_image.specs.Views.{token_view}
use Rattle.word_lookup.specs.EntryWords.{feature_in_entry}
use Rattle.word_lookup.specs.Overlays.{lexicon_in}

-- the feature of the entry that was found
pub feature_found : (ts : List Token) (n : ℕ) (found : Option EntryRef) → option_map token_view found ≡ find (λ t. t.number == n) ts → feature_in_entry found ≡ feature_in ts n
feature_found ts n None h = ap (λ (o : Option Token). option_map_or (λ (t : Token). t.feature) o []) h
feature_found ts n (Some e) h = ap (λ (o : Option Token). option_map_or (λ (t : Token). t.feature) o []) h

-- the lexicon of a user dictionary
pub user_lexicon : (view : List ℕ → Tables) (users : List (List ℕ)) (i : ℕ) (user : List ℕ) → i < length users → user ≡ get_or users i user
    → slice_index_or (lexicons_of (map view users)) i [] ≡ (view user).lexicon
user_lexicon view [] i user less at = absurd (omega (arith, less))
user_lexicon view (u ∷ users) zero user less at = ap (λ (v : List ℕ). (view v).lexicon) (sym at)
user_lexicon view (u ∷ users) (suc i) user less at = user_lexicon view users i user (omega (arith, less)) at

-- there is no such user dictionary
pub no_lexicon : (view : List ℕ → Tables) (users : List (List ℕ)) (i : ℕ) → length users ≤ i → slice_index_or (lexicons_of (map view users)) i [] ≡ []
no_lexicon view [] i high = refl
no_lexicon view (u ∷ users) zero high = absurd (omega (arith, high))
no_lexicon view (u ∷ users) (suc i) high = no_lexicon view users i (omega (arith, high))

-- ---- known words

abbrev pub tokens_of : List Lexeme → List Token
tokens_of lexicon = map (λ (e : Lexeme). e.token) lexicon

pub lexicon_after : (view : List ℕ → Tables) (system : Tables) (users : List (List ℕ)) (number : ℕ) (found : List Lexeme) → (number ≡ 0 → ⊥) → found ≡ slice_index_or (lexicons_of (map view users)) (number - 1) []
    → found ≡ slice_index_or (lexicons_of (system ∷ map view users)) number []
lexicon_after view system users zero found some is = absurd (some refl)
lexicon_after view system users (suc i) found some is =
    let e : suc i - 1 ≡ i = omega arith in
    is ∙ ap (λ (k : ℕ). slice_index_or (lexicons_of (map view users)) k []) e

-- the feature of an entry of a lexicon
pub known_feature : (lexicon wanted : List Lexeme) (n : ℕ) (found : Option EntryRef) → lexicon ≡ wanted → option_map token_view found ≡ find (λ t. t.number == n) (tokens_of lexicon) → feature_in_entry found ≡ feature_in (tokens_of wanted) n
known_feature lexicon wanted n found e h = feature_found (tokens_of lexicon) n found h ∙ ap (λ (l : List Lexeme). feature_in (tokens_of l) n) e

-- what `get` returns of the user dictionaries
pub users_lexicon : (users : List (List ℕ)) (i : ℕ) (found : Option (Bor (List ℕ))) → is_some found ≡ nat_lt i (length users) → IfSome found (λ u. u.now ≡ get_or users i u.now) → lexicon_in found ≡ slice_index_or (lexicons_of (map image_tables users)) i []
users_lexicon users i None h at = sym (no_lexicon image_tables users i (ltb-false i (length users) (sym h)))
users_lexicon users i (Some u) h at = sym (user_lexicon image_tables users i u.now (ltb-true i (length users) (sym h)) at)
