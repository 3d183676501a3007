-- Listed keys increase, so no two of them are equal, and each key has exactly one number.
use Rattle.std.proofs.Common.{◌≡◌, ◌≢◌, ℕ, zero, suc, ◌+◌, ◌-◌, ◌<◌, ◌≤◌, Bool, true, false, cond, List, [], ◌∷◌, ◌++◌, Some, None, inl, inr, sym, ap, ◌∙◌, refl, arith, subst}
use Rattle.std.specs.Prelude.{IsUtf8}
use Rattle.std.specs.Cmp.Lexicographic.{slice_cmp, nat_list_cmp_total}
use Rattle.std.specs.List.{find, range_with_len}
use Rattle.std.specs.Ordering.{nat_cmp, is_eq, is_lt, ordering_then}
use Rattle.std.specs.Str.{bytes_eq}
use Rattle.std.specs.declared.cmp.Ordering.{Ordering}
use Rattle.std.specs.declared.cmp.Ordering.TheVariants.{Less, Equal, Greater}
use Rattle.std.proofs.lemmas.Bool.{cases_eq, cases_order, false_from_ne_true}
use Rattle.std.specs.Cmp.{nat_cmp_is}
use Rattle.std.proofs.lemmas.Map.Text.{is_eq-slice_cmp}
use Rattle.std.proofs.lemmas.Option.{same_Some}
use Rattle.std.proofs.lemmas.Slice.Eq.{bytes_eq-Decides}
use Rattle.image_format.specs.OlderSections.{IsListedKey, listed_key, listed_number}
use Rattle.dict_image.specs.Groups.{AreGroups}

-- ---- the first number that passes

by_test : (P : ℕ → Bool) (a n g : ℕ) (b : Bool) → P a ≡ b → cond b (Some a) (find P (range_with_len (a + 1) n)) ≡ Some g
    → (find P (range_with_len (a + 1) n) ≡ Some g → (a + 1 ≤ g) × (g < a + 1 + n) × (P g ≡ true)) → (a ≤ g) × (g < a + suc n) × (P g ≡ true)
by_test P a n g true test h later = let e = same_Some a g h in (omega (arith, e), omega (arith, e), subst (λ (i : ℕ). P i ≡ true) e test)
by_test P a n g false test h later = let r = later h in let low = r.0 in let high = r.1 in (omega (arith, low), omega (arith, high), r.2)

-- a number that is found is among them, and passes
pub found_number : (P : ℕ → Bool) (a n g : ℕ) → find P (range_with_len a n) ≡ Some g → (a ≤ g) × (g < a + n) × (P g ≡ true)
found_number P a zero g h = absurd (cc)
found_number P a (suc n) g h = by_test P a n g (P a) refl h (found_number P (a + 1) n g)

-- the first one that passes is found
pub first_number : (P : ℕ → Bool) (a n g : ℕ) → a ≤ g → g < a + n → P g ≡ true → ((i : ℕ) → a ≤ i → i < g → P i ≡ false) → find P (range_with_len a n) ≡ Some g
first_number P a zero g low high passes before = absurd (omega (arith, low, high))
first_number P a (suc n) g low high passes before = elim (cases_eq a g) [
  | inl same ↦ ap (λ (b : Bool). cond b (Some a) (find P (range_with_len (a + 1) n))) (subst (λ (i : ℕ). P i ≡ true) (sym same) passes) ∙ ap Some same
  | inr other ↦
      ap (λ (b : Bool). cond b (Some a) (find P (range_with_len (a + 1) n))) (before a (omega arith) (omega (arith, low, other)))
      ∙ first_number P (a + 1) n g (omega (arith, low, other)) (omega (arith, high)) passes (λ i from below. before i (omega (arith, from)) below)
]

-- none is found if none passes
pub no_number : (P : ℕ → Bool) (a n : ℕ) → ((i : ℕ) → i < a + n → P i ≡ false) → find P (range_with_len a n) ≡ None
no_number P a zero none = refl
no_number P a (suc n) none =
    ap (λ (b : Bool). cond b (Some a) (find P (range_with_len (a + 1) n))) (none a (omega arith)) ∙ no_number P (a + 1) n (λ i below. none i (omega (arith, below)))

-- ---- the order of texts

abbrev pub order : List ℕ → List ℕ → Ordering
order = slice_cmp nat_cmp

-- a text before another one is another text
pub before_is_other : (xs ys : List ℕ) → order xs ys ≡ Less → bytes_eq xs ys ≡ false
before_is_other xs ys less = sym (is_eq-slice_cmp xs ys) ∙ ap is_eq less

-- ---- the keys of a list

module _ (groups : ℕ) (keys : List ℕ) (are : (i : ℕ) → i < groups → IsListedKey keys i) where
  -- a later key is greater
  pub key_rises : (i n : ℕ) → i + suc n < groups → order (listed_key keys i) (listed_key keys (i + suc n)) ≡ Less
  key_rises i zero within =
      let e : i + suc zero ≡ suc i = omega arith in
      (are (i + suc zero) within).above i e
  key_rises i (suc n) within =
      let e : i + suc (suc n) ≡ suc (i + suc n) = omega arith in
      nat_list_cmp_total.trans (listed_key keys i) (listed_key keys (i + suc n)) (listed_key keys (i + suc (suc n)))
      (key_rises i n (omega (arith, within))) ((are (i + suc (suc n)) within).above (i + suc n) e)

  pub key_above : (i j : ℕ) → i < j → j < groups → order (listed_key keys i) (listed_key keys j) ≡ Less
  key_above i j less within =
      let e : i + suc (j - suc i) ≡ j = omega (arith, less) in
      subst (λ (k : ℕ). order (listed_key keys i) (listed_key keys k) ≡ Less) e (key_rises i (j - suc i) (omega (arith, less, within)))

  -- the groups of a list, with their keys
  pub groups_of_list : AreGroups groups (listed_key keys) (listed_number groups keys)
  groups_of_list = record {
    below = λ text g h. let f = found_number (λ (i : ℕ). bytes_eq (listed_key keys i) text) 0 groups g h in let l = f.1 in omega (arith, l);
    has_key = λ g less.
        first_number (λ (i : ℕ). bytes_eq (listed_key keys i) (listed_key keys g)) 0 groups g (omega arith) (omega (arith, less)) ((bytes_eq-Decides (listed_key keys g) (listed_key keys g)).1 refl)
        (λ i low below. before_is_other (listed_key keys i) (listed_key keys g) (key_above i g below less));
    key_is = λ text g h. let f = found_number (λ (i : ℕ). bytes_eq (listed_key keys i) text) 0 groups g h in (bytes_eq-Decides (listed_key keys g) text).0 f.2;
  }

  -- the key of a group is text
  pub text_of_list : (g : ℕ) → g < groups → IsUtf8 (listed_key keys g)
  text_of_list g less = (are g less).here.is_text

-- ---- a text among the keys

lt_less : (o : Ordering) → is_lt o ≡ true → o ≡ Less
lt_less Less h = refl
lt_less Equal h = absurd (cc)
lt_less Greater h = absurd (cc)

pub is_less : (xs ys : List ℕ) (o : Ordering) → o ≡ order xs ys → is_lt o ≡ true → order xs ys ≡ Less
is_less xs ys o is h = sym is ∙ lt_less o h

pub not_less : (xs ys : List ℕ) (o : Ordering) → o ≡ order xs ys → is_lt o ≡ false → order xs ys ≢ Less
not_less xs ys o is h less = let t : is_lt o ≡ true = ap is_lt (is ∙ less) in absurd (cc)

module _ (groups : ℕ) (keys : List ℕ) (are : (i : ℕ) → i < groups → IsListedKey keys i) (text : List ℕ) where
  -- all keys before a key that is less than a text are less than the text
  pub below_up_to : (i j : ℕ) → i ≤ j → j < groups → order (listed_key keys j) text ≡ Less → order (listed_key keys i) text ≡ Less
  below_up_to i j up within below = elim (cases_eq i j) [
    | inl same ↦ subst (λ (k : ℕ). order (listed_key keys k) text ≡ Less) (sym same) below
    | inr other ↦ nat_list_cmp_total.trans (listed_key keys i) (listed_key keys j) text (key_above groups keys are i j (omega (arith, up, other)) within) below
  ]

  -- the number of the text, if the first key not less than it is the text
  pub number_here : (at : ℕ) → at < groups → ((i : ℕ) → i < at → order (listed_key keys i) text ≡ Less) → listed_key keys at ≡ text → listed_number groups keys text ≡ Some at
  number_here at within below is =
      first_number (λ (i : ℕ). bytes_eq (listed_key keys i) text) 0 groups at (omega arith) (omega (arith, within)) ((bytes_eq-Decides (listed_key keys at) text).1 is)
      (λ i low less. before_is_other (listed_key keys i) text (below i less))

  -- a later key is another one
  later_is_other : (at i : ℕ) → at < i → i < groups → order (listed_key keys at) text ≢ Less → listed_key keys i ≡ text → ⊥
  later_is_other at i later within others is = others (subst (λ (xs : List ℕ). order (listed_key keys at) xs ≡ Less) is (key_above groups keys are at i later within))

  other_here : (at i : ℕ) → ((k : ℕ) → k < at → order (listed_key keys k) text ≡ Less) → ((k : ℕ) → at ≤ k → k < groups → order (listed_key keys k) text ≢ Less) → (at < groups → listed_key keys at ≡ text → ⊥)
      → i < groups → listed_key keys i ≡ text → ⊥
  other_here at i below others not_here within is = elim (cases_order i at) [
    | inl same ↦ not_here (subst (λ (k : ℕ). k < groups) same within) (subst (λ (k : ℕ). listed_key keys k ≡ text) same is)
    | inr (inl before) ↦
        let other = before_is_other (listed_key keys i) text (below i before) in
        let same : bytes_eq (listed_key keys i) text ≡ true = (bytes_eq-Decides (listed_key keys i) text).1 is in
        absurd (cc)
    | inr (inr following) ↦ later_is_other at i following within (others at (omega arith) (omega (arith, following, within))) is
  ]

  -- no key is the text, if the first key not less than it is another one or there is none
  pub number_nowhere : (at : ℕ) → ((i : ℕ) → i < at → order (listed_key keys i) text ≡ Less) → ((i : ℕ) → at ≤ i → i < groups → order (listed_key keys i) text ≢ Less) → (at < groups → listed_key keys at ≡ text → ⊥)
      → listed_number groups keys text ≡ None
  number_nowhere at below others not_here =
      no_number (λ (i : ℕ). bytes_eq (listed_key keys i) text) 0 groups
      (λ i within. false_from_ne_true (bytes_eq (listed_key keys i) text) (λ h. other_here at i below others not_here (omega (arith, within)) ((bytes_eq-Decides (listed_key keys i) text).0 h)))

-- a longer text is not less
pub longer_not_below : (front more : List ℕ) → order (front ++ more) front ≢ Less
longer_not_below [] [] = λ e. absurd (cc)
longer_not_below [] (b ∷ more) = λ e. absurd (cc)
longer_not_below (f ∷ fs) more =
    λ e. longer_not_below fs more (subst (λ (o : Ordering). ordering_then o (order (fs ++ more) fs) ≡ Less) (sym (nat_cmp_is f f Equal refl)) e)
