-- The starts of listed keys, key by key.
use Rattle.std.proofs.Common.{◌≡◌, ◌≢◌, ℕ, zero, suc, ◌+◌, ◌-◌, ◌<◌, ◌≤◌, List, [], ◌∷◌, ◌++◌, length, drop, take, ◌⊎◌, inl, inr, sym, ap, ◌∙◌, refl, arith, subst}
use Rattle.std.specs.Prelude.{slice_index}
use Rattle.std.specs.Cmp.Lexicographic.{slice_cmp}
use Rattle.std.specs.Ordering.{nat_cmp}
use Rattle.std.specs.declared.cmp.Ordering.TheVariants.{Less}
use Rattle.std.proofs.lemmas.Bool.{cases_eq}
use Rattle.std.proofs.lemmas.List.{drop-drop, drop_all, length-append, length-drop, length-take-le}
use Rattle.std.proofs.Math.ListN.{get_or-append}
use Rattle.std.proofs.Math.Seq.{get_or-append_seam}
use Rattle.mj_model.specs.declared.image_fault.ImageFault.TheVariants.{BadKey, BadSection}
use Rattle.image_format.specs.declared.layout.KeyForm.TheVariants as key
use Rattle.image_format.specs.ImageFaults.{IsFirstFault, key_tests}
use Rattle.image_format.specs.OlderSections.{StartWithKey, IsListedKey, first_key_in, first_key_length, keys_from, listed_key}
use Rattle.dict_image.specs.Validation.Checks.{PassAt}
use Rattle.dict_image.specs.Validation.KeyPlaces.{AreListedUpTo, IsKeyAbove, key_before}

-- the length of a key is the 2-byte number before it
key_length : (bytes : List ℕ) → StartWithKey bytes → length (first_key_in bytes) ≡ first_key_length bytes
key_length bytes begin =
    let n = first_key_length bytes in
    let within = begin.within in
    let following = length-drop 2 bytes in
    let e : 2 + n - 2 ≡ n = omega arith in
    ap (λ (k : ℕ). length (take k (drop 2 bytes))) e ∙ length-take-le n (drop 2 bytes) (omega (arith, within, following))

-- ---- one key more

above_of : (bytes : List ℕ) (n : ℕ) → IsListedKey bytes n → slice_cmp nat_cmp (key_before bytes n) (listed_key bytes n) ≡ Less
above_of bytes zero is = first_above (listed_key bytes zero) (let some = is.here.some in let e = key_length bytes is.here in omega (arith, some, e))
  where
    first_above : (xs : List ℕ) → 1 ≤ length xs → slice_cmp nat_cmp [] xs ≡ Less
    first_above [] some = absurd (omega (arith, some))
    first_above (x ∷ xs) some = refl
above_of bytes (suc n) is = is.above n refl

-- a listed key is greater than the key before it
pub listed_above : (bytes : List ℕ) (n : ℕ) → IsListedKey bytes n → IsKeyAbove (keys_from n bytes) (key_before bytes n)
listed_above bytes n is = (is.here, above_of bytes n is)

pub above_listed : (bytes : List ℕ) (n : ℕ) → IsKeyAbove (keys_from n bytes) (key_before bytes n) → IsListedKey bytes n
above_listed bytes n is = record {
  here = is.0;
  above = λ j e. subst (λ (k : ℕ). slice_cmp nat_cmp (key_before bytes k) (listed_key bytes n) ≡ Less) e is.1;
}

-- ---- the starts so far

get_first : (xs : List ℕ) (y i : ℕ) → i < length xs → slice_index (xs ++ y ∷ []) i ≡ slice_index xs i
get_first xs y i less = get_or-append xs (y ∷ []) 0 i less

get_last : (xs : List ℕ) (y : ℕ) → slice_index (xs ++ y ∷ []) (length xs) ≡ y
get_last xs y = get_or-append_seam xs y [] 0

module _ (bytes : List ℕ) (n : ℕ) (starts : List ℕ) (at : ℕ) (before : List ℕ) (so_far : AreListedUpTo bytes n starts at before) where
  abbrev rest : List ℕ
  rest = drop at bytes

  here_above : IsKeyAbove rest before → IsKeyAbove (keys_from n bytes) (key_before bytes n)
  here_above above = subst (λ (xs : List ℕ). IsKeyAbove (keys_from n bytes) xs) so_far.before_is (subst (λ (xs : List ℕ). IsKeyAbove xs before) so_far.rest above)

  pub next_listed : IsKeyAbove rest before → IsListedKey bytes n
  next_listed above = above_listed bytes n (here_above above)

  -- if no key greater than the one before follows, there is no key `n`
  pub not_listed : (IsKeyAbove rest before → ⊥) → IsListedKey bytes n → ⊥
  not_listed none is =
      none (subst (λ (xs : List ℕ). IsKeyAbove xs before) (sym so_far.rest) (subst (λ (xs : List ℕ). IsKeyAbove (keys_from n bytes) xs) (sym so_far.before_is) (listed_above bytes n is)))

  from_by : (i : ℕ) → i < suc n → (i ≡ n) ⊎ (i ≢ n) → drop (slice_index (starts ++ at ∷ []) i) bytes ≡ keys_from i bytes
  from_by i less (inl same) =
      let e : i ≡ length starts = same ∙ sym so_far.starts_are.many in
      ap (λ (k : ℕ). drop k bytes) (ap (slice_index (starts ++ at ∷ [])) e ∙ get_last starts at) ∙ so_far.rest ∙ ap (λ (k : ℕ). keys_from k bytes) (sym same)
  from_by i less (inr other) =
      let many = so_far.starts_are.many in
      ap (λ (k : ℕ). drop k bytes) (get_first starts at i (omega (arith, less, other, many))) ∙ so_far.starts_are.from i (omega (arith, less, other))

  listed_by : IsListedKey bytes n → (i : ℕ) → i < suc n → (i ≡ n) ⊎ (i ≢ n) → IsListedKey bytes i
  listed_by is i less (inl same) = subst (IsListedKey bytes) (sym same) is
  listed_by is i less (inr other) = so_far.starts_are.listed i (omega (arith, less, other))

  -- one key more
  pub one_more : (key : List ℕ) → IsKeyAbove rest before → key ≡ first_key_in rest → AreListedUpTo bytes (suc n) (starts ++ at ∷ []) (at + (2 + length key)) key
  one_more key above is =
      let begin = above.0 in
      let long : length key ≡ first_key_length rest = ap (length {A = ℕ}) is ∙ key_length rest begin in
      let many = so_far.starts_are.many in
      let more = length-append starts (at ∷ []) in
      let inside = so_far.within in
      let left = length-drop at bytes in
      let fits = begin.within in
      let place : at + (2 + length key) ≡ at + (2 + first_key_length rest) = omega (arith, long) in
      record {
        starts_are = record {
          many = omega (arith, many, more);
          from = λ i less. from_by i less (cases_eq i n);
          listed = λ i less. listed_by (next_listed above) i less (cases_eq i n);
        };
        within = omega (arith, inside, left, fits, long);
        rest = ap (λ (k : ℕ). drop k bytes) place ∙ sym (drop-drop (2 + first_key_length rest) at bytes) ∙ ap (λ (xs : List ℕ). drop (2 + first_key_length xs) xs) so_far.rest;
        before_is = is ∙ ap first_key_in so_far.rest;
      }

-- ---- all keys

-- no bytes follow the last key
pub all_listed : (bytes : List ℕ) (groups : ℕ) (starts : List ℕ) (at : ℕ) (before : List ℕ) → AreListedUpTo bytes groups starts at before → at ≡ length bytes → PassAt groups bytes starts
all_listed bytes groups starts at before so_far end =
    let nothing : keys_from groups bytes ≡ [] = sym so_far.rest ∙ drop_all at bytes (omega (arith, end)) in
    ((so_far.starts_are.listed, (nothing, tt)), so_far.starts_are)

-- bytes follow the last key
pub some_after : (bytes : List ℕ) (groups : ℕ) (starts : List ℕ) (at : ℕ) (before : List ℕ) → AreListedUpTo bytes groups starts at before → at ≢ length bytes → IsFirstFault (key_tests key.Listed groups bytes) (BadSection 5)
some_after bytes groups starts at before so_far other =
    inr (
      so_far.starts_are.listed,
      inl (
        (λ nothing.
            let none : length (drop at bytes) ≡ 0 = ap (length {A = ℕ}) (so_far.rest ∙ nothing) in
            let left = length-drop at bytes in
            let within = so_far.within in
            other (omega (arith, none, left, within))),
        refl,
      ),
    )

-- the first key that breaks its rule is reported
pub reported_key : (bytes : List ℕ) (groups n : ℕ) (starts : List ℕ) (at : ℕ) (before : List ℕ) → AreListedUpTo bytes n starts at before → n < groups → (IsKeyAbove (drop at bytes) before → ⊥)
    → IsFirstFault (key_tests key.Listed groups bytes) (BadKey n)
reported_key bytes groups n starts at before so_far less none =
    inl (n, record { below = less; before = so_far.starts_are.listed; without = not_listed bytes n starts at before so_far none }, refl)
