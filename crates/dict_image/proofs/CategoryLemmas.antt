-- The positions of categories in their section.
use Rattle.std.proofs.Common.{◌≡◌, ℕ, zero, suc, ◌+◌, ◌<◌, ◌≤◌, List, [], ◌∷◌, ◌++◌, map, length, drop, get_or, Some, sym, ap, ◌∙◌, refl, arith, subst}
use Rattle.std.specs.List.{flat_map, slice_get}
use Rattle.std.proofs.lemmas.List.{append_assoc, length-append, length-map, drop_at, get_or-drop}
use Rattle.mj_model.specs.declared.category.Category.{Category}
use Rattle.mj_model.specs.CharDef.{NamedCategory, IsStorable}
use Rattle.image_format.specs.declared.header.Header.{Header}
use Rattle.image_format.specs.ImageBytes.{number_at, header_of, section}
use Rattle.image_format.specs.ImageMeaning.{image_categories}
use Rattle.image_format.specs.ImageSections.{AreCategories, category_bytes, first_category, categories_in}
use Rattle.dict_image.specs.Categories.{HasFirst, HasCategoriesFirst, bytes_from, listed_categories}
use Rattle.dict_image.specs.Validation.CheckedCategories.{after_first_category}
use Rattle.dict_image.specs.Validation.Outlines.{IsImage}
use Rattle.dict_image.proofs.FormedLemmas.{categories_are, system_of_categories}

-- ---- numbers of one byte

pub byte_at : (bytes : List ℕ) (i : ℕ) → number_at 1 bytes i ≡ get_or bytes i 0
byte_at bytes i =
    let e : i + 0 ≡ i = omega arith in
    let d = get_or-drop i bytes 0 0 in
    let s = ap (λ (k : ℕ). get_or bytes k 0) e in
    omega (arith, d, s)

-- ---- one category after another

pub category_there : (n i : ℕ) (bytes : List ℕ) → i < n → slice_get (categories_in n bytes) i ≡ Some (first_category (bytes_from i bytes))
category_there zero i bytes less = absurd (omega (arith, less))
category_there (suc n) zero bytes less = refl
category_there (suc n) (suc i) bytes less = category_there n i (after_first_category bytes) (omega (arith, less))

pub count_is : (n : ℕ) (bytes : List ℕ) → length (categories_in n bytes) ≡ n
count_is zero bytes = refl
count_is (suc n) bytes = ap suc (count_is n (after_first_category bytes))

-- the first category of a section that consists of categories
pub record IsFront (n : ℕ) (bytes : List ℕ) : Type 0 where
  pub first : HasFirst bytes
  pub storable : IsStorable (first_category bytes)
  pub rest : AreCategories n (after_first_category bytes)

pub prefix_of : (n : ℕ) (bytes : List ℕ) → AreCategories (suc n) bytes → IsFront n bytes
prefix_of n bytes are =
    let c = first_category bytes in
    let rest = flat_map category_bytes (categories_in n (after_first_category bytes)) in
    let fill : bytes ≡ category_bytes c ++ rest = are.fill in
    let counted : number_at 1 bytes 3 ≡ length c.name = byte_at bytes 3 ∙ ap (λ (xs : List ℕ). get_or xs 3 0) fill in
    let whole : length bytes ≡ suc (suc (suc (suc (length c.name)))) + length rest = ap length fill ∙ length-append (category_bytes c) rest in
    let owned : suc (suc (suc (suc (length c.name)))) ≡ 4 + number_at 1 bytes 3 = omega (arith, counted) in
    let following : after_first_category bytes ≡ rest =
    ap (drop (4 + number_at 1 bytes 3)) fill ∙ drop_at (category_bytes c) rest (4 + number_at 1 bytes 3) owned in
    record {
      first = record { numbers = omega (arith, whole); name = omega (arith, whole, counted) };
      storable = are.storable 0 c (omega arith);
      rest = record { storable = λ k d less. are.storable (suc k) d (omega (arith, less)); fill = following };
    }

pub category_prefixes : (n i : ℕ) (bytes : List ℕ) → AreCategories n bytes → i ≤ n → HasCategoriesFirst i bytes
category_prefixes n zero bytes are within = tt
category_prefixes zero (suc i) bytes are within = absurd (omega (arith, within))
category_prefixes (suc n) (suc i) bytes are within = let f = prefix_of n bytes are in (f.first, category_prefixes n i (after_first_category bytes) f.rest (omega (arith, within)))

-- category i lies within the section, and may be stored
pub record IsWhole (bytes : List ℕ) : Type 0 where
  pub first : HasFirst bytes
  pub storable : IsStorable (first_category bytes)

pub whole_there : (n i : ℕ) (bytes : List ℕ) → AreCategories n bytes → i < n → IsWhole (bytes_from i bytes)
whole_there zero i bytes are less = absurd (omega (arith, less))
whole_there (suc n) zero bytes are less = let f = prefix_of n bytes are in record { first = f.first; storable = f.storable }
whole_there (suc n) (suc i) bytes are less = whole_there n i (after_first_category bytes) (prefix_of n bytes are).rest (omega (arith, less))

-- one step further
pub prefix_more : (n m : ℕ) (bytes : List ℕ) → m ≡ suc n → HasCategoriesFirst m bytes → HasFirst bytes × HasCategoriesFirst n (after_first_category bytes)
prefix_more n m bytes e front = subst (λ (k : ℕ). HasCategoriesFirst k bytes) e front

pub from_more : (n m : ℕ) (bytes : List ℕ) → m ≡ suc n → bytes_from m bytes ≡ bytes_from n (after_first_category bytes)
from_more n m bytes e = ap (λ (k : ℕ). bytes_from k bytes) e

-- ---- their contents, one after another

pub category_more : (n m : ℕ) (done : List Category) (first : Category) (bytes rest : List ℕ) → m ≡ suc n → first ≡ (first_category bytes).category → rest ≡ after_first_category bytes
    → (done ++ first ∷ []) ++ listed_categories n rest ≡ done ++ listed_categories m bytes
category_more n m done first bytes rest more is following =
    append_assoc done (first ∷ []) (listed_categories n rest)
    ∙ ap (λ (c : Category). done ++ c ∷ listed_categories n rest) is
    ∙ ap (λ (xs : List ℕ). done ++ (first_category bytes).category ∷ listed_categories n xs) following
    ∙ ap (λ (k : ℕ). done ++ listed_categories k bytes) (sym more)

-- ---- categories of an image

pub count_of_image : (bytes : List ℕ) → length (map (λ (n : NamedCategory). n.category) (image_categories bytes)) ≡ (header_of bytes).categories
count_of_image bytes = length-map (image_categories bytes) (λ (n : NamedCategory). n.category) ∙ count_is (header_of bytes).categories (section bytes 2)

-- category i of an image lies within its section
pub whole_of_image : (bytes : List ℕ) (i : ℕ) → IsImage bytes → i < (header_of bytes).categories → IsWhole (bytes_from i (section bytes 2))
whole_of_image bytes i w less =
    whole_there (header_of bytes).categories i (section bytes 2) (categories_are bytes (system_of_categories bytes i w less) w) less

pub category_prefixes_of_image : (bytes : List ℕ) (i : ℕ) → IsImage bytes → i < (header_of bytes).categories → HasCategoriesFirst i (section bytes 2)
category_prefixes_of_image bytes i w less =
    category_prefixes (header_of bytes).categories i (section bytes 2) (categories_are bytes (system_of_categories bytes i w less) w) (omega (arith, less))

pub below_count : (bytes : List ℕ) (i : ℕ) → i < length (map (λ (n : NamedCategory). n.category) (image_categories bytes)) → i < (header_of bytes).categories
below_count bytes i less = let e = count_of_image bytes in omega (arith, less, e)

pub category_of_image : (bytes : List ℕ) (i : ℕ) → i < (header_of bytes).categories → slice_get (image_categories bytes) i ≡ Some (first_category (bytes_from i (section bytes 2)))
category_of_image bytes i less = category_there (header_of bytes).categories i (section bytes 2) less

-- ---- the list of an image's categories

all_by : (n : ℕ) (bytes : List ℕ) → (0 < n → AreCategories n bytes) → HasCategoriesFirst n bytes
all_by zero bytes are = tt
all_by (suc n) bytes are = category_prefixes (suc n) (suc n) bytes (are (omega arith)) (omega arith)

all_category_prefixes : (bytes : List ℕ) → IsImage bytes → HasCategoriesFirst (header_of bytes).categories (section bytes 2)
all_category_prefixes bytes w = all_by (header_of bytes).categories (section bytes 2) (λ some. categories_are bytes (system_of_categories bytes 0 w some) w)

pub category_prefixes_in : (bytes : List ℕ) (h : Header) (named : List ℕ) → h ≡ header_of bytes → named ≡ section bytes 2 → IsImage bytes → HasCategoriesFirst h.categories named
category_prefixes_in bytes h named same there w =
    subst (λ (xs : List ℕ). HasCategoriesFirst h.categories xs) (sym there) (subst (λ (g : Header). HasCategoriesFirst g.categories (section bytes 2)) (sym same) (all_category_prefixes bytes w))

pub categories_in_image : (bytes : List ℕ) (h : Header) (named : List ℕ) (list : List Category) → h ≡ header_of bytes → named ≡ section bytes 2 → list ≡ listed_categories h.categories named
    → list ≡ listed_categories (header_of bytes).categories (section bytes 2)
categories_in_image bytes h named list same there is =
    is ∙ ap (λ (xs : List ℕ). listed_categories h.categories xs) there ∙ ap (λ (g : Header). listed_categories g.categories (section bytes 2)) same
