-- Categories that were written are read back.
use Rattle.std.proofs.Common.{◌≡◌, ℕ, ◌+◌, ◌-◌, ◌*◌, Bool, true, false, List, [], ◌∷◌, ◌++◌, length, drop, refl, sym, ap, ◌∙◌, subst, arith}
use Rattle.std.specs.Prelude.{All, flat_map, slice_range, ◌==◌}
use Rattle.std.proofs.lemmas.List.{take_at, drop_at}
use Rattle.mj_model.specs.CharDef.{NamedCategory, IsStorable}
use Rattle.image_format.specs.ImageBytes.{number_at}
use Rattle.image_format.specs.ImageSections.{category_bytes, categories_in, first_category, flag_byte}
use Rattle.char_def.specs.Categories.{CharCategories}
use Rattle.image_writer.specs.StoredTables.{AreCategoriesOf}

byte_back : (x : ℕ) → x + 256 * 0 ≡ x
byte_back x = omega (arith)

flag_back : (b : Bool) → (flag_byte b + 256 * 0 == 1) ≡ b
flag_back true = refl
flag_back false = refl

-- the first category, followed by others
first_back : (c : NamedCategory) (rest : List ℕ) → first_category (category_bytes c ++ rest) ≡ c
first_back c rest =
    let n : number_at 1 (category_bytes c ++ rest) 3 ≡ length c.name = byte_back (length c.name) in
    let name : slice_range (category_bytes c ++ rest) 4 (4 + number_at 1 (category_bytes c ++ rest) 3) ≡ c.name =
    take_at c.name rest (4 + number_at 1 (category_bytes c ++ rest) 3 - 4) (omega (arith, n)) in
    λ i. record {
      name = name i;
      category = record { invoke = flag_back c.category.invoke i; group = flag_back c.category.group i; length = byte_back c.category.length i };
    }

rest_back : (c : NamedCategory) (rest : List ℕ) → drop (4 + number_at 1 (category_bytes c ++ rest) 3) (category_bytes c ++ rest) ≡ rest
rest_back c rest =
    let n : number_at 1 (category_bytes c ++ rest) 3 ≡ length c.name = byte_back (length c.name) in
    ap (λ m. drop (4 + m) (category_bytes c ++ rest)) n ∙ drop_at (category_bytes c) rest (4 + length c.name) (omega (arith))

pub categories_back : (cs : List NamedCategory) → categories_in (length cs) (flat_map category_bytes cs) ≡ cs
categories_back [] = refl
categories_back (c ∷ cs) = λ i. first_back c (flat_map category_bytes cs) i
    ∷ (ap (categories_in (length cs)) (rest_back c (flat_map category_bytes cs)) ∙ categories_back cs) i

pub categories_are : (t : CharCategories) (bytes : List ℕ) → All IsStorable t.categories → bytes ≡ flat_map category_bytes t.categories → AreCategoriesOf t bytes
categories_are t bytes storable is =
    let back : categories_in (length t.categories) bytes ≡ t.categories = ap (categories_in (length t.categories)) is ∙ categories_back t.categories in
    record {
      formed = record { storable = subst (All IsStorable) (sym back) storable; fill = is ∙ ap (flat_map category_bytes) (sym back) };
      categories = back;
    }
