-- Categories one after another, by induction on the first.
use Rattle.std.proofs.Common.{◌≡◌, ℕ, zero, suc, ◌+◌, ◌-◌, ◌*◌, ◌^◌, ◌<◌, ◌≤◌, ◌↔◌, List, [], ◌∷◌, ◌++◌, length, get_or, take, drop, sym, ap, ◌∙◌, refl, arith, subst}
use Rattle.std.specs.Prelude.{IsUtf8, flat_map, ◌==◌}
use Rattle.std.proofs.lemmas.List.{length-drop, take_all, length-take-le, take-append-drop, drop-drop, drop_at}
use Rattle.std.proofs.lemmas.List.Elements.{All-nil, All-cons, All-head, All-tail}
use Rattle.mj_model.specs.CharDef.{NamedCategory, IsStorable}
use Rattle.image_format.specs.ImageBytes.{number_at}
use Rattle.image_format.specs.ImageSections.{AreCategories, category_bytes, categories_in, first_category, flag_byte}
use Rattle.dict_image.specs.Validation.CheckedCategories.{StartsWithCategory, after_first_category}

-- ---- one category

flag_kept : (b : ℕ) → b ≤ 1 → flag_byte (b + 256 * 0 == 1) ≡ b
flag_kept zero few = refl
flag_kept (suc zero) few = refl
flag_kept (suc (suc n)) few = absurd (omega (arith, few))

-- the category at the start and the bytes after it, if the numbers of the category are within their
-- bounds
pub first_here : (a b c d : ℕ) (rest : List ℕ) (n : ℕ) → n ≡ d → a ≤ 1 → b ≤ 1 → c ≤ 15 → 1 ≤ d → d ≤ 255 → 4 + n ≤ length (a ∷ b ∷ c ∷ d ∷ rest) → IsUtf8 (take (4 + n - 4) rest)
    → StartsWithCategory (a ∷ b ∷ c ∷ d ∷ rest) × (take (length (a ∷ b ∷ c ∷ d ∷ rest) - (4 + n)) (drop (4 + n) (a ∷ b ∷ c ∷ d ∷ rest)) ≡ after_first_category (a ∷ b ∷ c ∷ d ∷ rest))
first_here a b c d rest n same invoke group few some short within text =
    let bytes = a ∷ b ∷ c ∷ d ∷ rest in
    let m = number_at 1 bytes 3 in
    let m_is : m ≡ n = omega (arith, same) in
    let k_is : 4 + m - 4 ≡ m = omega arith in
    let long : length (take (4 + m - 4) rest) ≡ d = length-take-le (4 + m - 4) rest (omega (arith, within, same)) ∙ omega (arith, same) in
    let tail : drop (4 + m) bytes ≡ drop (4 + m - 4) rest = sym (drop-drop m 4 bytes) ∙ ap (λ (i : ℕ). drop i rest) (sym k_is) in
    let whole : rest ≡ take (4 + m - 4) rest ++ drop (4 + m) bytes = sym (take-append-drop (4 + m - 4) rest) ∙ ap (λ (xs : List ℕ). take (4 + m - 4) rest ++ xs) (sym tail) in
    let fa = flag_kept a invoke in
    let fb = flag_kept b group in
    let fc : c + 256 * 0 ≡ c = omega arith in (
      record {
        storable = record {
          length_within = omega arith;
          name_some = omega arith;
          name_short = omega arith;
          name_is_text = subst (λ (i : ℕ). IsUtf8 (take (4 + i - 4) rest)) (sym m_is) text;
        };
        front = cc;
      },
      take_all (length bytes - (4 + n)) (drop (4 + n) bytes) (omega (arith, length-drop (4 + n) bytes)) ∙ ap (λ (i : ℕ). drop (4 + i) bytes) (sym m_is),
    )

pub category_there : (bytes : List ℕ) (n : ℕ) → 4 ≤ length bytes → n ≡ get_or bytes 3 0 → get_or bytes 0 0 ≤ 1 → get_or bytes 1 0 ≤ 1 → get_or bytes 2 0 ≤ 15 → 1 ≤ get_or bytes 3 0 → get_or bytes 3 0 < 2 ^ 8 → 4 + n ≤ length bytes → IsUtf8 (take (4 + n - 4) (drop 4 bytes))
    → StartsWithCategory bytes × (take (length bytes - (4 + n)) (drop (4 + n) bytes) ≡ after_first_category bytes)
category_there [] n four same invoke group few some short within text = absurd (omega (arith, four))
category_there (a ∷ []) n four same invoke group few some short within text = absurd (omega (arith, four))
category_there (a ∷ b ∷ []) n four same invoke group few some short within text = absurd (omega (arith, four))
category_there (a ∷ b ∷ c ∷ []) n four same invoke group few some short within text = absurd (omega (arith, four))
category_there (a ∷ b ∷ c ∷ d ∷ rest) n four same invoke group few some short within text = first_here a b c d rest n same invoke group few some (omega (arith, short)) within text

-- ---- more than one

category_length : (c : NamedCategory) → length (category_bytes c) ≡ 4 + length c.name
category_length c = omega arith

pub more_in : (n : ℕ) (bytes : List ℕ) → StartsWithCategory bytes → AreCategories n (after_first_category bytes) → AreCategories (suc n) bytes
more_in n bytes begins rest = record {
  storable = All-cons IsStorable (first_category bytes) (categories_in n (after_first_category bytes)) begins.storable rest.storable;
  fill = begins.front ∙ ap (λ (tail : List ℕ). category_bytes (first_category bytes) ++ tail) rest.fill;
}

-- the bytes after the first category, if the bytes are a category and a tail
after_is : (bytes tail : List ℕ) → bytes ≡ category_bytes (first_category bytes) ++ tail → after_first_category bytes ≡ tail
after_is bytes tail fill =
    let first = first_category bytes in
    let n : number_at 1 bytes 3 ≡ length first.name + 256 * 0 = ap (λ (bs : List ℕ). number_at 1 bs 3) fill in
    let long : length (category_bytes first) ≡ 4 + number_at 1 bytes 3 = category_length first ∙ omega (arith, n) in
    ap (drop (4 + number_at 1 bytes 3)) fill ∙ drop_at (category_bytes first) tail (4 + number_at 1 bytes 3) long

pub more_out : (n : ℕ) (bytes : List ℕ) → AreCategories (suc n) bytes → StartsWithCategory bytes × AreCategories n (after_first_category bytes)
more_out n bytes are =
    let first = first_category bytes in
    let others = categories_in n (after_first_category bytes) in
    let after = after_is bytes (flat_map category_bytes others) are.fill in (
      record { storable = All-head IsStorable first others are.storable; front = are.fill ∙ ap (λ (tail : List ℕ). category_bytes first ++ tail) (sym after) },
      record { storable = All-tail IsStorable first others are.storable; fill = after },
    )

-- ---- in the form of the loop

pub empty_list : (xs : List ℕ) → length xs ≡ 0 → xs ≡ []
empty_list [] e = refl
empty_list (x ∷ xs) e = absurd (omega (arith, e))

pub none_left : (bytes : List ℕ) → AreCategories 0 bytes ↔ (bytes ≡ [])
none_left bytes = (λ are. are.fill, λ e. record { storable = All-nil IsStorable; fill = e })

pub first_there : (k : ℕ) (bytes : List ℕ) → 0 < k → AreCategories k bytes → StartsWithCategory bytes
first_there zero bytes some are = absurd (omega (arith, some))
first_there (suc n) bytes some are = (more_out n bytes are).0

pub without_first : (k m : ℕ) (bytes rest : List ℕ) → k ≡ suc m → StartsWithCategory bytes → rest ≡ after_first_category bytes → AreCategories m rest ↔ AreCategories k bytes
without_first k m bytes rest e begins at = (
  λ are. subst (λ (i : ℕ). AreCategories i bytes) (sym e) (more_in m bytes begins (subst (AreCategories m) at are)),
  λ are. subst (AreCategories m) (sym at) (more_out m bytes (subst (λ (i : ℕ). AreCategories i bytes) e are)).1,
)
