-- The entries of a dictionary in the order of their numbers.
use Rattle.std.proofs.Common.{◌≡◌, ℕ, ◌+◌, List, [], ◌∷◌, ◌++◌, map, sym, ap, ◌∙◌, append_assoc, arith}
use Rattle.std.proofs.lemmas.List.{map-append}
use Rattle.std.proofs.lemmas.List.FromFn.{map-range_with_len_more}
use Rattle.std.specs.List.{range_with_len}
use Rattle.image_format.specs.ImageMeaning.{image_token}
use Rattle.mj_model.specs.Tables.{Token}
use Rattle.dict_image.specs.declared.entry_ref.EntryRef.{EntryRef}
use Rattle.dict_image.specs.Views.{token_view}

pub listed_more : (image : List ℕ) (before after : List EntryRef) (start : List Token) (i : ℕ) (entry : EntryRef)
    → map token_view before ≡ start ++ map (image_token image) (range_with_len 0 i) → token_view entry ≡ image_token image i → after ≡ before ++ entry ∷ []
    → map token_view after ≡ start ++ map (image_token image) (range_with_len 0 (i + 1))
listed_more image before after start i entry are is pushed =
    let token : ℕ → Token = image_token image in
    let here : 0 + i ≡ i = omega arith in
    ap (λ (xs : List EntryRef). map token_view xs) pushed ∙ map-append token_view before (entry ∷ [])
    ∙ ap (λ (xs : List Token). xs ++ token_view entry ∷ []) are
    ∙ ap (λ (t : Token). (start ++ map token (range_with_len 0 i)) ++ t ∷ []) is
    ∙ append_assoc start (map token (range_with_len 0 i)) (token i ∷ [])
    ∙ ap (λ (xs : List Token). start ++ xs) (sym (map-range_with_len_more token 0 i i here))
