-- The fields of a template, and of features that fit it.
use Rattle.std.proofs.Common.{◌≡◌, ℕ, ◌+◌, ◌<◌, Bool, true, List, [], ◌∷◌, ◌++◌, length, take, get_or, refl, sym, ap, ◌∙◌, Option, Some, None, inl, inr, add-one}
use Rattle.std.proofs.Math.Seq.{take-suc}
use Rattle.std.proofs.lemmas.Option.{slice_get-map, slice_get_read, slice_get_within, get_or_from_slice_get}
use Rattle.std.specs.Prelude.{slice_get, is_some, map, option_map, string_bytes, unwrap_or, String}
use Rattle.std.specs.declared.alloc.Global.{Global}
use Rattle.mj_model.specs.Fields.{AreFields}
use Rattle.mj_model.proofs.ReadingLemmas.{fields_are_one}
use Rattle.lex_source.specs.Results.{GrowsByField, IsField}
use Rattle.dictc_lib.specs.Templates.{FitsField, IsAny}

-- the search for field `n` finds the same as indexing all fields
pub field_is : (text : List ℕ) (fields : List (List ℕ)) (n : ℕ) (found : Option (List ℕ)) → AreFields text fields → IsField text n found → found ≡ slice_get fields n
field_is text fields n found are is = is.2 ∙ ap (λ (gs : List (List ℕ)). slice_get gs n) (fields_are_one text fields is.0 are is.1)

-- the first `n` fields and the next one are the first `n + 1` fields
pub one_more : (fields firsts : List (List ℕ)) (n : ℕ) (field : List ℕ) → firsts ≡ take n fields → Some field ≡ slice_get fields n → firsts ++ field ∷ [] ≡ take (n + 1) fields
one_more fields firsts n field are is =
    let there : slice_get fields n ≡ Some field = sym is in
    let within : n < length fields = slice_get_within fields n field there in
    let here : get_or fields n [] ≡ field = get_or_from_slice_get fields n field [] there in
    ap (λ (xs : List (List ℕ)). xs ++ field ∷ []) are ∙ ap (λ (f : List ℕ). take n fields ++ f ∷ []) (sym here)
    ∙ sym (take-suc fields n [] within) ∙ ap (λ (k : ℕ). take k fields) (sym (add-one n))

-- the field that was found is the one that was appended to the output
found_is : (found : Option (List ℕ)) (out : List ℕ) → true ≡ is_some found → out ≡ unwrap_or found [] → found ≡ Some out
found_is None out e h = absurd (cc)
found_is (Some x) out e h = ap Some (sym h)

module _ (n : ℕ) (wanted feature out : List ℕ) (there : Bool) (no_any : IsAny wanted → ⊥) (grows : GrowsByField feature n there [] out) where
  -- the wanted field was found
  found_wanted : IsField feature n (Some wanted) → Some wanted ≡ slice_get grows.0 n
  found_wanted is = field_is feature grows.0 n (Some wanted) grows.1 is

  -- a field that exists fits if it equals the wanted one
  pub fits_if : there ≡ true → out ≡ wanted → FitsField n wanted feature
  fits_if is same = inr (grows.0, grows.1, sym (found_is (slice_get grows.0 n) out (sym is ∙ grows.2) grows.3 ∙ ap Some same))

  pub same_if : there ≡ true → FitsField n wanted feature → out ≡ wanted
  same_if is (inl any) = absurd (no_any any)
  same_if is (inr field) =
      let e : Some wanted ≡ Some out = found_wanted field ∙ found_is (slice_get grows.0 n) out (sym is ∙ grows.2) grows.3 in
      cc

  -- a field that does not exist does not fit
  pub there_if : FitsField n wanted feature → there ≡ true
  there_if (inl any) = absurd (no_any any)
  there_if (inr field) = grows.2 ∙ ap is_some (sym (found_wanted field))

-- the fields of a template by index
pub template_at : (items : List (String Global)) (n : ℕ) (item : String Global) → n < length items → item ≡ get_or items n item → slice_get (map string_bytes items) n ≡ Some (string_bytes item)
template_at items n item within is =
    slice_get-map string_bytes items n ∙ ap (option_map string_bytes) (slice_get_read items (length items) n item refl within is)
