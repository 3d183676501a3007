-- Names of categories, on lines and among the categories.
use Rattle.std.proofs.Common.{◌≡◌, ℕ, ◌<◌, ◌≤◌, ◌*◌, ◌%◌, ◌^◌, Bool, true, false, ◌&&◌, List, [], ◌∷◌, length, get_or, refl, sym, ◌∙◌, ap, arith}
use Rattle.std.specs.Prelude.{bit_or, fold}
use Rattle.std.specs.List.{list_all}
use Rattle.std.specs.Str.{IsUtf8, is_utf8}
use Rattle.std.proofs.lemmas.Bool.{le-leb, false_from_ne_true}
use Rattle.std.proofs.lemmas.List.{get_or-map, length-map}
use Rattle.std.proofs.lemmas.List.Folds.{list_any_at, list_any_none}
use Rattle.std.proofs.lemmas.List.Sums.{position_or_len_is}
use Rattle.std.proofs.lemmas.Nat.{one_shl}
use Rattle.std.proofs.lemmas.Str.{IsUtf8-from_is_utf8, is_utf8-from_IsUtf8}
use Rattle.mj_model.specs.CharDef.{NamedCategory, is_name, is_named, is_defined, category_number}
use Rattle.char_def.specs.declared.definitions.Definition.{Definition}
use Rattle.char_def.specs.Definitions.{definition_is, definitions_are, HasNumber}

pub a_name : (word : List ℕ) → length word ≤ 255 → IsUtf8 word → is_name word ≡ true
a_name word short utf8 = ap (λ (b : Bool). b && is_utf8 word) (le-leb (length word) 255 short) ∙ is_utf8-from_IsUtf8 word utf8

pub no_name : (word : List ℕ) → length word ≤ 255 → (IsUtf8 word → ⊥) → is_name word ≡ false
no_name word short not_text = ap (λ (b : Bool). b && is_utf8 word) (le-leb (length word) 255 short) ∙ false_from_ne_true (is_utf8 word) (λ h. not_text (IsUtf8-from_is_utf8 word h))

-- the first definition of a name
pub has_number : (items : List Definition) (name : List ℕ) (i : ℕ) (d : Definition) → i < length items → ((k : ℕ) (d : Definition) → k < i → is_named name (definition_is (get_or items k d)) ≡ false)
    → is_named name (definition_is (get_or items i d)) ≡ true → HasNumber (definitions_are items) name i
has_number items name i d in' before here =
    let same : (k : ℕ) → k < length items → get_or (definitions_are items) k (definition_is d) ≡ definition_is (get_or items k d) = λ k h. get_or-map definition_is items k d (definition_is d) h in
    let long : length (definitions_are items) ≡ length items = length-map items definition_is in
    let found : is_named name (get_or (definitions_are items) i (definition_is d)) ≡ true = ap (is_named name) (same i in') ∙ here in
    record {
      defined = list_any_at (is_named name) (definitions_are items) i (definition_is d) (omega arith) found;
      is = sym (position_or_len_is (is_named name) (definitions_are items) i (definition_is d) (omega arith) (λ k low. ap (is_named name) (same k (omega arith)) ∙ before k d low) (λ _. found));
      within = omega arith;
    }

pub has_no_number : (items : List Definition) (name : List ℕ) (n : ℕ) → ((k : ℕ) (d : Definition) → k < n → is_named name (definition_is (get_or items k d)) ≡ false) → length items ≤ n
    → is_defined (definitions_are items) name ≡ false
has_no_number [] name n before all = refl
has_no_number (x ∷ xs) name n before all = list_any_none (is_named name) (definitions_are (x ∷ xs)) (λ k d in'.
    let long : length (definitions_are (x ∷ xs)) ≡ length (x ∷ xs) = length-map (x ∷ xs) definition_is in
    ap (is_named name) (get_or-map definition_is (x ∷ xs) k x d (omega arith)) ∙ before k x (omega arith))

-- the remaining names, after one that is defined
pub defined_later : (categories : List NamedCategory) (names rest : List (List ℕ)) (name : List ℕ) → names ≡ name ∷ rest → is_defined categories name ≡ true
    → list_all (is_defined categories) names ≡ list_all (is_defined categories) rest
defined_later categories names rest name is defined = ap (list_all (is_defined categories)) is ∙ ap (λ (b : Bool). b && list_all (is_defined categories) rest) defined

pub bits_later : (categories : List NamedCategory) (names rest : List (List ℕ)) (name : List ℕ) (bits number bit : ℕ) → names ≡ name ∷ rest → number ≡ category_number categories name → bit ≡ 2 ^ number
    → fold (λ b n. bit_or b (2 ^ category_number categories n)) bits names ≡ fold (λ b n. bit_or b (2 ^ category_number categories n)) (bit_or bits bit) rest
bits_later categories names rest name bits number bit is e b =
    ap (λ (ns : List (List ℕ)). fold (λ b n. bit_or b (2 ^ category_number categories n)) bits ns) is
    ∙ ap (λ (i : ℕ). fold (λ b n. bit_or b (2 ^ category_number categories n)) (bit_or bits i) rest) (sym (b ∙ ap (λ (i : ℕ). 2 ^ i) e))

-- a category's number is small
pub one_bit : (items : List Definition) (n : ℕ) → n < length (definitions_are items) → length items ≤ 18 → (1 * 2 ^ n) % 2 ^ 32 ≡ 2 ^ n
one_bit items n in' few = one_shl n 32 (omega (arith, length-map items definition_is))
