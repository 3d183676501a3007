-- Distinct texts: the effect of one more text, and their length in bytes.
use Rattle.std.proofs.Common.{◌≡◌, ℕ, ◌+◌, ◌<◌, ◌≤◌, Bool, true, false, cond, not, ◌||◌, inl, inr, List, [], ◌∷◌, ◌++◌, length, map, filter, get_or, Some, None, sym, ap, ◌∙◌, refl, arith, subst, append_assoc}
use Rattle.std.specs.Prelude.{bytes_eq, slice_get, sum_by}
use Rattle.std.specs.List.{concat, list_any, enumerate_from}
use Rattle.std.proofs.lemmas.List.Concat.{concat_is, length-flat_map}
use Rattle.std.proofs.lemmas.List.{append-nil, length_push, length-append, map-append}
use Rattle.std.proofs.lemmas.List.Elements.{filter-append}
use Rattle.std.proofs.lemmas.List.Folds.{list_any_at}
use Rattle.std.proofs.lemmas.List.Sums.{sum_by_push}
use Rattle.std.proofs.lemmas.Option.{get_or_from_slice_get}
use Rattle.std.proofs.lemmas.Slice.Eq.{bytes_eq-Decides}
use Rattle.image_format.specs.ImageBounds.{each_once, feature_bytes, feature_bytes_end}
use Rattle.mj_model.specs.Lexicon.{Row}
use Rattle.mj_model.specs.Tables.{Token}
use Rattle.mj_model.specs.UnkDef.{token_of}
use Rattle.image_writer.specs.declared.feature_place.FeaturePlace.{FeaturePlace}
use Rattle.image_writer.specs.declared.features.FeatureStore.{FeatureStore}
use Rattle.image_writer.specs.Compact.{features_once}
use Rattle.image_writer.specs.Entries.{tokens_of}
use Rattle.image_writer.specs.Sections.{HasPlace, HoldsTexts, HoldsOneMore, IsNextUse, IsPlaced, HasTextAt, features_in, features_of, place_after, IsTooLarge}
use Rattle.image_format.proofs.NumberLemmas.{range_kept, range_after}
use Rattle.image_writer.proofs.FirstUseLemmas.{beyond, within}
use Rattle.image_writer.proofs.TokenLemmas.{in_pushed}

-- ---- each text once

-- one text more
abbrev once_with : List (List ℕ) → List ℕ → Bool → List (List ℕ)
once_with once x there = cond there once (once ++ x ∷ [])

filtered_last : (x y : List ℕ) → filter (λ other. not (bytes_eq other y)) (x ∷ []) ≡ cond (bytes_eq x y) [] (x ∷ [])
filtered_last x y = by (bytes_eq x y)
  where
    by : (b : Bool) → cond (not b) (x ∷ []) [] ≡ cond b [] (x ∷ [])
    by true = refl
    by false = refl

under_cons : (y x : List ℕ) (once : List (List ℕ)) (there same : Bool) → y ∷ cond there (filter (λ other. not (bytes_eq other y)) once) (filter (λ other. not (bytes_eq other y)) once ++ cond same [] (x ∷ []))
    ≡ once_with (y ∷ filter (λ other. not (bytes_eq other y)) once) x (same || there)
under_cons y x once true true = refl
under_cons y x once true false = refl
under_cons y x once false true = ap (λ (zs : List (List ℕ)). y ∷ zs) (append-nil (filter (λ other. not (bytes_eq other y)) once))
under_cons y x once false false = refl

filter_once : (p : List ℕ → Bool) (once : List (List ℕ)) (x : List ℕ) (there : Bool) → filter p (once_with once x there) ≡ cond there (filter p once) (filter p once ++ filter p (x ∷ []))
filter_once p once x true = refl
filter_once p once x false = filter-append p once (x ∷ [])

pub each_once_more : (xs : List (List ℕ)) (x : List ℕ) → each_once (xs ++ x ∷ []) ≡ once_with (each_once xs) x (list_any (bytes_eq x) xs)
each_once_more [] x = refl
each_once_more (y ∷ ys) x =
    let p : List ℕ → Bool = λ other. not (bytes_eq other y) in
    ap (λ (zs : List (List ℕ)). y ∷ filter p zs) (each_once_more ys x)
    ∙ ap (λ (zs : List (List ℕ)). y ∷ zs) (filter_once p (each_once ys) x (list_any (bytes_eq x) ys))
    ∙ ap (λ (zs : List (List ℕ)). y ∷ cond (list_any (bytes_eq x) ys) (filter p (each_once ys)) (filter p (each_once ys) ++ zs)) (filtered_last x y)
    ∙ under_cons y x (each_once ys) (list_any (bytes_eq x) ys) (bytes_eq x y)

sum_once : (f : List ℕ → ℕ) (once : List (List ℕ)) (x : List ℕ) (there : Bool) → sum_by f (once_with once x there) ≡ sum_by f once + cond there 0 (f x)
sum_once f once x true = omega arith
sum_once f once x false = sum_by_push f once x

-- a new text adds its size
pub sum_once_more : (f : List ℕ → ℕ) (xs : List (List ℕ)) (x : List ℕ) → sum_by f (each_once (xs ++ x ∷ [])) ≡ sum_by f (each_once xs) + cond (list_any (bytes_eq x) xs) 0 (f x)
sum_once_more f xs x = ap (sum_by f) (each_once_more xs x) ∙ sum_once f (each_once xs) x (list_any (bytes_eq x) xs)

-- more texts have no fewer bytes
pub sum_once_rises : (f : List ℕ → ℕ) (xs ys : List (List ℕ)) → sum_by f (each_once xs) ≤ sum_by f (each_once (xs ++ ys))
sum_once_rises f xs [] = subst (λ (zs : List (List ℕ)). sum_by f (each_once xs) ≤ sum_by f (each_once zs)) (sym (append-nil xs)) (omega arith)
sum_once_rises f xs (y ∷ ys) =
    let one = sum_once_more f xs y in
    let rest = sum_once_rises f (xs ++ y ∷ []) ys in
    subst (λ (zs : List (List ℕ)). sum_by f (each_once xs) ≤ sum_by f (each_once zs)) (append_assoc xs (y ∷ []) ys)
    (omega (arith, one, rest))

-- ---- the concatenation of texts

concat_more : (texts : List (List ℕ)) (text : List ℕ) → concat texts ++ text ≡ concat (texts ++ text ∷ [])
concat_more [] text = sym (append-nil text)
concat_more (t ∷ texts) text = append_assoc t (concat texts) text ∙ ap (λ (bytes : List ℕ). t ++ bytes) (concat_more texts text)

pub size_of : (texts : List (List ℕ)) (store : FeatureStore) → HoldsTexts texts store → length (features_in store) ≡ sum_by length (each_once texts)
size_of texts store holds = ap length (holds.bytes ∙ concat_is (each_once texts)) ∙ length-flat_map (λ (text : List ℕ). text) (each_once texts)

-- ---- the store

appears_more : (bytes more text : List ℕ) (place : ℕ) → HasTextAt bytes text place → HasTextAt (bytes ++ more) text place
appears_more bytes more text place is_stored = record {
  within = let w = is_stored.within in let e = length-append bytes more in omega (arith, w, e);
  is = range_kept bytes more place (place + length text) (omega arith) is_stored.within ∙ is_stored.is;
}

appears_after : (bytes text : List ℕ) → HasTextAt (bytes ++ text) text (length bytes)
appears_after bytes text = record { within = let e = length-append bytes text in omega (arith, e); is = range_after bytes text }

-- a text that was stored before
pub found_placed : (texts : List (List ℕ)) (text : List ℕ) (store : FeatureStore) (first : ℕ) (place : FeaturePlace) → HoldsTexts texts store → IsNextUse texts text first
    → slice_get store.places.items first ≡ Some place → IsPlaced texts text store store place
found_placed texts text store first place holds next at =
    let less : first < length texts = let w = within store.places.items first place at in let l = holds.long in omega (arith, w, l) in
    let there = next.there less in
    let any : list_any (bytes_eq text) texts ≡ true = list_any_at (bytes_eq text) texts first text less ((bytes_eq-Decides text (get_or texts first text)).1 (sym (get_or_from_slice_get texts first text text there))) in
    record {
      bytes = holds.bytes ∙ ap concat (sym (each_once_more texts text ∙ ap (once_with (each_once texts) text) any));
      is_stored = holds.places first text place there at;
      same_places = refl;
      more = [];
      kept = sym (append-nil (features_in store));
    }

-- a new one, which is added at the end
pub added_placed : (texts : List (List ℕ)) (text : List ℕ) (old new : FeatureStore) (first : ℕ) → HoldsTexts texts old → IsNextUse texts text first
    → slice_get old.places.items first ≡ None → features_in new ≡ features_in old ++ text → new.places.items ≡ old.places.items
    → IsPlaced texts text old new (place_after (features_in old) text)
added_placed texts text old new first holds next none added kept =
    let absent = next.new (let b = beyond old.places.items first none in let l = holds.long in omega (arith, b, l)) in
    record {
      bytes = added ∙ ap (λ (bytes : List ℕ). bytes ++ text) holds.bytes ∙ concat_more (each_once texts) text
          ∙ ap concat (sym (each_once_more texts text ∙ ap (once_with (each_once texts) text) absent));
      is_stored = record { is_stored = subst (λ (bytes : List ℕ). HasTextAt bytes text (length (features_in old))) (sym added) (appears_after (features_in old) text); long = refl };
      same_places = kept;
      more = text;
      kept = added;
    }

-- if a new text does not fit, the texts are too large
pub no_room : (texts : List (List ℕ)) (text : List ℕ) (store : FeatureStore) (first : ℕ) → HoldsTexts texts store → IsNextUse texts text first
    → slice_get store.places.items first ≡ None
    → feature_bytes_end ≤ length (features_in store) + length text → feature_bytes_end ≤ sum_by length (each_once (texts ++ text ∷ []))
no_room texts text store first holds next none full =
    let absent = next.new (let b = beyond store.places.items first none in let l = holds.long in omega (arith, b, l)) in
    let sum : sum_by length (each_once (texts ++ text ∷ [])) ≡ sum_by length (each_once texts) + length text =
    sum_once_more length texts text ∙ ap (λ (b : Bool). sum_by length (each_once texts) + cond b 0 (length text)) absent in
    let size = size_of texts store holds in
    omega (arith, sum, size, full)

-- its position is stored
pub place_recorded : (texts : List (List ℕ)) (text : List ℕ) (old placed new : FeatureStore) (place : FeaturePlace) → HoldsTexts texts old → IsPlaced texts text old placed place
    → features_in new ≡ features_in placed → new.places.items ≡ placed.places.items ++ place ∷ [] → HoldsOneMore texts text old new place
place_recorded texts text old placed new place holds is same recorded =
    let places : new.places.items ≡ old.places.items ++ place ∷ [] = recorded ∙ ap (λ (ps : List FeaturePlace). ps ++ place ∷ []) is.same_places in
    let kept = same ∙ is.kept in
    let is_stored = subst (λ (bytes : List ℕ). HasPlace bytes text place) (sym same) is.is_stored in
    let long = holds.long in
    record {
      holds = record {
        bytes = same ∙ is.bytes;
        long = ap length places ∙ length_push old.places.items place ∙ ap (λ (n : ℕ). n + 1) long ∙ sym (length_push texts text);
        places = λ i t p there at. elim (in_pushed texts text i t there) [
          | inl before ↦ elim (in_pushed old.places.items place i p (ap (λ (ps : List FeaturePlace). slice_get ps i) (sym places) ∙ at)) [
            | inl its ↦
                let has = holds.places i t p before.1 its.1 in
                record { is_stored = subst (λ (bytes : List ℕ). HasTextAt bytes t p.start) (sym kept) (appears_more (features_in old) is.more t p.start has.is_stored); long = has.long }
            | inr last ↦ let low = before.0 in let e = last.0 in absurd (omega (arith, low, e, long))
          ]
          | inr now ↦ elim (in_pushed old.places.items place i p (ap (λ (ps : List FeaturePlace). slice_get ps i) (sym places) ∙ at)) [
            | inl its ↦ let low = its.0 in let e = now.0 in absurd (omega (arith, low, e, long))
            | inr last ↦ subst (λ (x : FeaturePlace). HasPlace (features_in new) t x) last.1 (subst (λ (x : List ℕ). HasPlace (features_in new) x place) now.1 is_stored)
          ]
        ];
      };
      is_stored = is_stored;
      more = is.more;
      kept = kept;
    }

-- ---- the features of rows

features_numbered : (n : ℕ) (rows : List Row) → map (λ (t : Token). t.feature) (map token_of (enumerate_from n rows)) ≡ features_of rows
features_numbered n [] = refl
features_numbered n (row ∷ rows) = ap (λ (texts : List (List ℕ)). row.feature ∷ texts) (features_numbered (n + 1) rows)

pub feature_bytes_of : (rows : List Row) → feature_bytes (tokens_of rows) ≡ sum_by length (each_once (features_of rows))
feature_bytes_of rows = ap (λ (texts : List (List ℕ)). sum_by length (each_once texts)) (features_numbered 0 rows)

pub features_once_of : (rows : List Row) → features_once (tokens_of rows) ≡ concat (each_once (features_of rows))
features_once_of rows = ap (λ (texts : List (List ℕ)). concat (each_once texts)) (features_numbered 0 rows)

pub too_large : (rows : List Row) → feature_bytes_end ≤ sum_by length (each_once (features_of rows)) → IsTooLarge rows
too_large rows h = let e = feature_bytes_of rows in omega (arith, e, h)

-- with more rows they stay too large
pub still_too_large : (rows more : List Row) → IsTooLarge rows → IsTooLarge (rows ++ more)
still_too_large rows more large =
    let e = feature_bytes_of rows in
    let rises = sum_once_rises length (features_of rows) (features_of more) in
    too_large (rows ++ more) (subst (λ (texts : List (List ℕ)). feature_bytes_end ≤ sum_by length (each_once texts)) (sym (map-append (λ (row : Row). row.feature) rows more)) (omega (arith, e, large, rises)))
