-- A token that is appended to others is read back, and the others do not change.
use Rattle.std.proofs.Common.{◌≡◌, ℕ, ◌+◌, ◌*◌, ◌<◌, ◌≤◌, List, [], ◌∷◌, ◌++◌, length, Some, ◌⊎◌, inl, inr, sym, ap, ◌∙◌, refl, arith, subst}
use Rattle.std.specs.Prelude.{slice_get, IsUtf8}
use Rattle.std.specs.Int.{w16, cast_signed, cast_unsigned}
use Rattle.std.proofs.lemmas.Bool.{cases_lt}
use Rattle.std.proofs.lemmas.Int.{to_z-of_z}
use Rattle.std.proofs.Math.Facts.{Fits-of_z}
use Rattle.std.proofs.lemmas.List.{length_push, length-append, get_or_append_left, get_or_push}
use Rattle.std.proofs.lemmas.Option.{get_or_from_slice_get, slice_get-get_or, slice_get_past, none-some}
use Rattle.byteorder.specs.Endian.{little_bytes}
use Rattle.image_format.specs.ImageBytes.{number_at, signed_2_at}
use Rattle.image_format.specs.ImageSections.{StoredToken, stored_token, HasFeature, stored_feature, feature_end}
use Rattle.mj_model.specs.Lexicon.{Row}
use Rattle.mj_model.specs.Tables.{Token}
use Rattle.image_writer.specs.Sections.{IsTokenOf, HoldTokens, HasTextAt}
use Rattle.image_writer.specs.TokenBytes.{FitsBytes, stored_bytes}
use Rattle.image_format.proofs.NumberLemmas.{number_kept, number_after, number_back, range_kept}

-- ---- one token

-- the token at the start of its bytes
token_back : (t : StoredToken) → FitsBytes t → stored_token (stored_bytes t) 0 ≡ t
token_back t fits =
    let two = little_bytes 2 t.left in
    let b = little_bytes 2 t.right in
    let c = little_bytes 2 (cast_unsigned w16 t.cost) in
    let d = little_bytes 2 t.spare in
    let e = little_bytes 4 t.feature_start in
    let f = little_bytes 4 t.feature_length in
    let left : number_at 2 (stored_bytes t) 0 ≡ t.left = number_back 2 t.left (b ++ c ++ d ++ e ++ f) fits.left in
    let right : number_at 2 (stored_bytes t) 2 ≡ t.right = number_back 2 t.right (c ++ d ++ e ++ f) fits.right in
    let cost : signed_2_at (stored_bytes t) 4 ≡ t.cost = ap (cast_signed w16) (number_back 2 (cast_unsigned w16 t.cost) (d ++ e ++ f) (Fits-of_z fits.cost).fits) ∙ to_z-of_z w16 t.cost fits.cost in
    let spare : number_at 2 (stored_bytes t) 6 ≡ t.spare = number_back 2 t.spare (e ++ f) (let z = fits.spare in omega (arith, z)) in
    let place : number_at 4 (stored_bytes t) 8 ≡ t.feature_start = number_back 4 t.feature_start f fits.place in
    let long : number_at 4 (stored_bytes t) 12 ≡ t.feature_length = number_back 4 t.feature_length [] fits.long in
    (λ j. record { left = left j; right = right j; cost = cost j; spare = spare j; feature_start = place j; feature_length = long j })

-- tokens do not change when bytes are appended
token_kept : (tokens more : List ℕ) (i : ℕ) → 16 * i + 16 ≤ length tokens → stored_token (tokens ++ more) i ≡ stored_token tokens i
token_kept tokens more i within =
    let left = number_kept 2 (16 * i) tokens more (omega (arith, within)) in
    let right = number_kept 2 (16 * i + 2) tokens more (omega (arith, within)) in
    let cost = ap (cast_signed w16) (number_kept 2 (16 * i + 4) tokens more (omega (arith, within))) in
    let spare = number_kept 2 (16 * i + 6) tokens more (omega (arith, within)) in
    let place = number_kept 4 (16 * i + 8) tokens more (omega (arith, within)) in
    let long = number_kept 4 (16 * i + 12) tokens more (omega (arith, within)) in
    (λ j. record { left = left j; right = right j; cost = cost j; spare = spare j; feature_start = place j; feature_length = long j })

-- a token after others is the first one of its bytes
token_after : (tokens more : List ℕ) (i : ℕ) → length tokens ≡ 16 * i → stored_token (tokens ++ more) i ≡ stored_token more 0
token_after tokens more i fill =
    let left = number_after 2 0 tokens more (16 * i) (omega (arith, fill)) in
    let right = number_after 2 2 tokens more (16 * i + 2) (omega (arith, fill)) in
    let cost = ap (cast_signed w16) (number_after 2 4 tokens more (16 * i + 4) (omega (arith, fill))) in
    let spare = number_after 2 6 tokens more (16 * i + 6) (omega (arith, fill)) in
    let place = number_after 4 8 tokens more (16 * i + 8) (omega (arith, fill)) in
    let long = number_after 4 12 tokens more (16 * i + 12) (omega (arith, fill)) in
    (λ j. record { left = left j; right = right j; cost = cost j; spare = spare j; feature_start = place j; feature_length = long j })

-- ---- tokens and features

-- a stored token as an entry
abbrev with_number : ℕ → StoredToken → List ℕ → Token
with_number i t feature = record { number = i; left = t.left; right = t.right; cost = t.cost; feature = feature }

-- the token of a row does not change
still_token : (row : Row) (tokens features more_tokens more_features : List ℕ) (i : ℕ) → 16 * i + 16 ≤ length tokens → IsTokenOf row tokens features i
    → IsTokenOf row (tokens ++ more_tokens) (features ++ more_features) i
still_token row tokens features more_tokens more_features i within is =
    let t : StoredToken = stored_token tokens i in
    let same : stored_token (tokens ++ more_tokens) i ≡ t = token_kept tokens more_tokens i within in
    let ends : feature_end t ≤ length features = is.feature.within in
    let feature : stored_feature (features ++ more_features) t ≡ stored_feature features t = range_kept features more_features t.feature_start (feature_end t) (omega arith) ends in
    record {
      token = ap (λ (u : StoredToken). with_number i u (stored_feature (features ++ more_features) u)) same ∙ ap (with_number i t) feature ∙ is.token;
      spare = ap (λ (u : StoredToken). u.spare) same ∙ is.spare;
      feature = subst (HasFeature (features ++ more_features)) (sym same) (record {
        within = let e = length-append features more_features in omega (arith, e, ends);
        is_text = subst IsUtf8 (sym feature) is.feature.is_text;
      });
    }

-- the stored token of a row
abbrev pub stored_of : Row → ℕ → StoredToken
stored_of row place = record { left = row.left; right = row.right; cost = row.cost; spare = 0; feature_start = place; feature_length = length row.feature }

new_token : (row : Row) (tokens features : List ℕ) (i place : ℕ) → length tokens ≡ 16 * i → FitsBytes (stored_of row place) → HasTextAt features row.feature place → IsUtf8 row.feature
    → IsTokenOf row (tokens ++ stored_bytes (stored_of row place)) features i
new_token row tokens features i place fill fits is_stored text =
    let t : StoredToken = stored_of row place in
    let same : stored_token (tokens ++ stored_bytes t) i ≡ t = token_after tokens (stored_bytes t) i fill ∙ token_back t fits in
    record {
      token = ap (λ (u : StoredToken). with_number i u (stored_feature features u)) same ∙ ap (with_number i t) is_stored.is;
      spare = ap (λ (u : StoredToken). u.spare) same;
      feature = subst (HasFeature features) (sym same) (record { within = is_stored.within; is_text = subst IsUtf8 (sym is_stored.is) text });
    }

-- an element of a list with one more
pub in_pushed : {X : Type 0} (xs : List X) (x : X) (i : ℕ) (y : X) → slice_get (xs ++ x ∷ []) i ≡ Some y → ((i < length xs) × (slice_get xs i ≡ Some y)) ⊎ ((i ≡ length xs) × (x ≡ y))
in_pushed xs x i y h = elim (cases_lt i (length xs)) [
  | inl less ↦
      inl (less, slice_get-get_or xs i y less ∙ ap Some (sym (get_or_append_left xs (x ∷ []) y i less) ∙ get_or_from_slice_get (xs ++ x ∷ []) i y y h))
  | inr past ↦ elim (cases_lt i (length xs + 1)) [
    | inl last ↦ let e : length xs ≡ i = omega (arith, past, last) in inr (sym e, sym (get_or_push xs x y i e) ∙ get_or_from_slice_get (xs ++ x ∷ []) i y y h)
    | inr out ↦ absurd (none-some y (sym (slice_get_past (xs ++ x ∷ []) i (let e = length_push xs x in omega (arith, e, out))) ∙ h))
  ]
]

-- a row more
pub hold_more : (rows : List Row) (row : Row) (tokens features more : List ℕ) (place : ℕ) → HoldTokens rows tokens features → FitsBytes (stored_of row place)
    → HasTextAt (features ++ more) row.feature place → IsUtf8 row.feature
    → HoldTokens (rows ++ row ∷ []) (tokens ++ stored_bytes (stored_of row place)) (features ++ more)
hold_more rows row tokens features more place hold fits is_stored text =
    let bytes : List ℕ = stored_bytes (stored_of row place) in
    record {
      fill = length-append tokens bytes ∙ (let f = hold.fill in let n = length_push rows row in let b : length bytes ≡ 16 = refl in omega (arith, f, n, b));
      each = λ i r at. elim (in_pushed rows row i r at) [
        | inl old ↦ still_token r tokens features bytes more i (let f = hold.fill in let less = old.0 in omega (arith, f, less)) (hold.each i r old.1)
        | inr new ↦
            subst (λ (x : Row). IsTokenOf x (tokens ++ bytes) (features ++ more) i) new.1
            (new_token row tokens (features ++ more) i place (hold.fill ∙ ap (λ (n : ℕ). 16 * n) (sym new.0)) fits is_stored text)
      ];
    }
