-- Sorted uses of features determine the first use of each: uses of one feature are adjacent, in the
-- order of their entries.
use Rattle.std.proofs.Common.{◌≡◌, ◌≢◌, inl, inr, ℕ, zero, suc, ◌+◌, ◌-◌, ◌<◌, ◌≤◌, Bool, true, false, List, [], ◌∷◌, ◌++◌, length, take, get_or, Some, None, sym, ap, ◌∙◌, refl, arith, subst, true≢false}
use Rattle.std.specs.Prelude.{All, IsPermutation, bytes_eq, slice_get, slice_index, slice_set}
use Rattle.std.specs.List.{list_any, range_with_len}
use Rattle.std.specs.Cmp.{IsStrictWeakOrder, IsTotalOrder}
use Rattle.std.specs.Cmp.Lexicographic.{slice_cmp}
use Rattle.std.specs.declared.cmp.Ordering.{Ordering}
use Rattle.std.specs.declared.cmp.Ordering.TheVariants.{Less, Equal, Greater}
use Rattle.std.specs.Ordering.{MatchOrdering, is_eq, is_lt, nat_cmp, ordering_reverse, ordering_then}
use Rattle.std.proofs.lemmas.Bool.{cases_eq, cases_lt}
use Rattle.std.proofs.lemmas.Cmp.{nat_cmp_total, nat_list_cmp_total, on_total, then_total, ranked, tied_itself}
use Rattle.std.proofs.lemmas.List.{get_or-map, get_or-set_other, get_or-set_same, get_or-take, get_or_default, length-map, length-take, map-append, map_more, length-append}
use Rattle.std.proofs.lemmas.List.Folds.{Any-from_list_any}
use Rattle.std.proofs.lemmas.List.FromFn.{get_or-range_with_len}
use Rattle.std.proofs.lemmas.List.Sorted.{All-permutation, Contains-permutation, IsPermutation-map, length_permutation, ranks_by, sorted_far}
use Rattle.std.proofs.lemmas.Map.Text.{is_eq-slice_cmp}
use Rattle.std.proofs.lemmas.Option.{none-some, same_Some, slice_get-get_or, slice_get_past}
use Rattle.std.proofs.lemmas.Slice.Eq.{bytes_eq-Decides}
use Rattle.mj_model.specs.declared.entry.Record.{Record}
use Rattle.mj_model.specs.Lexicon.{Row, row_of, rows_of}
use Rattle.image_writer.specs.declared.feature_use.FeatureUse.{FeatureUse}
use Rattle.image_writer.specs.FirstUses.{AreFirstUses, AreNumbered, AreSortedUses, AreUses, IsFirstUse, IsWithin, entries_of, features_used, use_order}
use Rattle.image_writer.specs.Marks.{mark_of_bytes}
use Rattle.image_writer.specs.Sections.{features_of}

abbrev pub no_use : FeatureUse
no_use = record { mark = mark_of_bytes []; feature = record { ref_ptr = (0, 0); now = [] }; entry = 0; marked = refl }

-- ---- the order of uses

-- by hashes and features alone
heads : FeatureUse → FeatureUse → Ordering
heads a b = ordering_then (nat_cmp a.mark b.mark) (slice_cmp nat_cmp a.feature.now b.feature.now)

order_total : IsTotalOrder use_order
order_total =
    then_total (on_total (λ (u : FeatureUse). u.mark) nat_cmp_total)
    (then_total (on_total (λ (u : FeatureUse). u.feature.now) nat_list_cmp_total) (on_total (λ (u : FeatureUse). u.entry) nat_cmp_total))

heads_total : IsTotalOrder heads
unfolding heads
heads_total = then_total (on_total (λ (u : FeatureUse). u.mark) nat_cmp_total) (on_total (λ (u : FeatureUse). u.feature.now) nat_list_cmp_total)

abbrev pub is_use_below : FeatureUse → FeatureUse → Bool
is_use_below a b = is_lt (use_order a b)

pub is_use_below_order : IsStrictWeakOrder is_use_below
is_use_below_order = ranks_by order_total (λ (u : FeatureUse). u)

-- a use that is not below another is not below it by hash and feature
heads_not_below : (p q r : Ordering) → is_lt (ordering_then p (ordering_then q r)) ≡ false → is_lt (ordering_then p q) ≡ false
heads_not_below Less q r h = h
heads_not_below Equal Less r h = h
heads_not_below Equal Equal r h = refl
heads_not_below Equal Greater r h = refl
heads_not_below Greater q r h = refl

same_mark : (a b : FeatureUse) → a.feature.now ≡ b.feature.now → a.mark ≡ b.mark
same_mark a b same = a.marked ∙ ap mark_of_bytes same ∙ sym b.marked

same_heads : (a b c : FeatureUse) → a.feature.now ≡ b.feature.now → heads a c ≡ heads b c
unfolding heads
same_heads a b c same =
    ap (λ (m : ℕ). ordering_then (nat_cmp m c.mark) (slice_cmp nat_cmp a.feature.now c.feature.now)) (same_mark a b same)
    ∙ ap (λ (f : List ℕ). ordering_then (nat_cmp b.mark c.mark) (slice_cmp nat_cmp f c.feature.now)) same

-- of uses of one feature the entries decide
entries_decide : (a b : FeatureUse) → a.feature.now ≡ b.feature.now → use_order a b ≡ nat_cmp a.entry b.entry
entries_decide a b same =
    let marks : nat_cmp a.mark b.mark ≡ Equal = ap (nat_cmp a.mark) (sym (same_mark a b same)) ∙ tied_itself nat_cmp_total a.mark in
    let features : slice_cmp nat_cmp a.feature.now b.feature.now ≡ Equal = ap (slice_cmp nat_cmp a.feature.now) (sym same) ∙ tied_itself nat_list_cmp_total a.feature.now in
    ap (λ (o : Ordering). ordering_then o (ordering_then (slice_cmp nat_cmp a.feature.now b.feature.now) (nat_cmp a.entry b.entry))) marks
    ∙ ap (λ (o : Ordering). ordering_then o (nat_cmp a.entry b.entry)) features

not_less : (x y : ℕ) (o : Ordering) → MatchOrdering o (x < y) (x ≡ y) (y < x) → is_lt o ≡ false → y ≤ x
not_less x y Less m h = absurd (true≢false h)
not_less x y Equal m h = omega (arith, m)
not_less x y Greater m h = omega (arith, m)

neither_below : (o : Ordering) → is_lt o ≡ false → is_lt (ordering_reverse o) ≡ false → o ≡ Equal
neither_below Less h k = absurd (true≢false h)
neither_below Equal h k = refl
neither_below Greater h k = absurd (true≢false k)

both_equal : (p q : Ordering) → ordering_then p q ≡ Equal → is_eq q ≡ true
both_equal Less q e = absurd (true≢false (sym (ap is_eq e)))
both_equal Equal q e = ap is_eq e
both_equal Greater q e = absurd (true≢false (sym (ap is_eq e)))

-- a use between two uses of a feature is a use of it
between : (a b c : FeatureUse) → is_use_below b a ≡ false → is_use_below c b ≡ false → a.feature.now ≡ c.feature.now → c.feature.now ≡ b.feature.now
unfolding heads
between a b c low high same =
    let one : is_lt (heads b a) ≡ false = heads_not_below (nat_cmp b.mark a.mark) (slice_cmp nat_cmp b.feature.now a.feature.now) (nat_cmp b.entry a.entry) low in
    let two : is_lt (heads c b) ≡ false = heads_not_below (nat_cmp c.mark b.mark) (slice_cmp nat_cmp c.feature.now b.feature.now) (nat_cmp c.entry b.entry) high in
    let back : is_lt (ordering_reverse (heads b a)) ≡ false = ap is_lt (sym (heads_total.antisymm a b) ∙ same_heads a c b same) ∙ two in
    let equal : heads b a ≡ Equal = neither_below (heads b a) one back in
    let bytes : bytes_eq b.feature.now a.feature.now ≡ true = sym (is_eq-slice_cmp b.feature.now a.feature.now) ∙ both_equal (nat_cmp b.mark a.mark) (slice_cmp nat_cmp b.feature.now a.feature.now) equal in
    sym same ∙ sym ((bytes_eq-Decides b.feature.now a.feature.now).0 bytes)

-- ---- sorted uses

-- if there is an element, its number is below the length, otherwise it is not
pub within : {X : Type 0} (xs : List X) (i : ℕ) (x : X) → slice_get xs i ≡ Some x → i < length xs
within xs i x there = elim (cases_lt i (length xs)) [
  | inl less ↦ less
  | inr past ↦ absurd (none-some x (sym (slice_get_past xs i past) ∙ there))
]

pub beyond : {X : Type 0} (xs : List X) (i : ℕ) → slice_get xs i ≡ None → length xs ≤ i
beyond xs i none = elim (cases_lt i (length xs)) [
  | inl less ↦ absurd (none-some _ (sym none ∙ (slice_get_some xs i less).1))
  | inr past ↦ past
]
  where
    slice_get_some : {X : Type 0} (xs : List X) (i : ℕ) → i < length xs → (x : X) × (slice_get xs i ≡ Some x)
    slice_get_some [] i less = absurd (omega (arith, less))
    slice_get_some (x ∷ xs) i less = (get_or (x ∷ xs) i x, slice_get-get_or (x ∷ xs) i x less)

module _ (texts : List (List ℕ)) (uses : List FeatureUse) (are : AreUses texts uses) where
  at : ℕ → FeatureUse
  at k = get_or uses k no_use

  entry_at : (k : ℕ) → k < length uses → slice_index (entries_of uses) k ≡ (at k).entry
  unfolding at
  entry_at k less = get_or-map (λ (u : FeatureUse). u.entry) uses k no_use 0 less

  text_at : (k : ℕ) → k < length uses → slice_get texts (at k).entry ≡ Some (at k).feature.now
  unfolding at
  text_at k less = are.each k no_use less

  pub entries_within : All (IsWithin (length uses)) uses
  entries_within k d less = let w = within texts (get_or uses k d).entry (get_or uses k d).feature.now (are.each k d less) in let l = are.long in omega (arith, w, l)

  module _ (up : AreSortedUses uses) where
    in_order : (i j : ℕ) → i ≤ j → j < length uses → is_use_below (at j) (at i) ≡ false
    unfolding at
    in_order i j low high = sorted_far is_use_below is_use_below_order uses up i j no_use low high

    -- the use of text j
    not_before : (k : ℕ) → k < length uses → (0 < k → (at k).feature.now ≢ (at (k - 1)).feature.now)
        → (p : ℕ) → p < length uses → (at p).feature.now ≡ (at k).feature.now → (at k).entry ≤ (at p).entry
    not_before k less new p low same = elim (cases_lt p k) [
      | inl before ↦
          let some : 0 < k = omega (arith, before) in
          absurd (new some (between (at p) (at (k - 1)) (at k) (in_order p (k - 1) (omega (arith, before)) (omega (arith, less))) (in_order (k - 1) k (omega arith) less) same))
      | inr following ↦
          not_less (at p).entry (at k).entry (nat_cmp (at p).entry (at k).entry) (ranked (at p).entry (at k).entry (nat_cmp (at p).entry (at k).entry) refl)
          (ap is_lt (sym (entries_decide (at p) (at k) same)) ∙ in_order k p following low)
    ]

    -- if the use before is of another feature
    begins : (k : ℕ) → k < length uses → (0 < k → (at k).feature.now ≢ (at (k - 1)).feature.now) → IsFirstUse texts (at k).entry (at k).entry
    begins k less new = record {
      same = refl;
      least = λ j there.
          let text : slice_get texts j ≡ Some (at k).feature.now = there ∙ text_at k less in
          let found = are.every j (within texts j (at k).feature.now text) in
          let p = found.0 in
          let long = length-map uses (λ (u : FeatureUse). u.entry) in
          let low : p < length uses = let l = found.1 in omega (arith, l, long) in
          let entry : (at p).entry ≡ j = sym (entry_at p low) ∙ get_or_default (entries_of uses) p 0 j found.1 ∙ found.2 in
          let feature : (at p).feature.now ≡ (at k).feature.now =
          same_Some (at p).feature.now (at k).feature.now (sym (text_at p low) ∙ ap (slice_get texts) entry ∙ text) in
          let le = not_before k less new p low feature in
          omega (arith, le, entry);
    }

    -- if the use before is of the same feature
    goes_on : (k before : ℕ) → 0 < k → k < length uses → (at k).feature.now ≡ (at (k - 1)).feature.now → IsFirstUse texts before (at (k - 1)).entry → IsFirstUse texts before (at k).entry
    goes_on k before some less same first =
        let texts_same : slice_get texts (at (k - 1)).entry ≡ slice_get texts (at k).entry = text_at (k - 1) (omega (arith, less)) ∙ ap (λ (f : List ℕ). Some f) (sym same) ∙ sym (text_at k less) in
        record { same = first.same ∙ texts_same; least = λ j there. first.least j (there ∙ sym texts_same) }

    pub first_is : (k before : ℕ) → k < length uses → (0 < k → IsFirstUse texts before (slice_index (entries_of uses) (k - 1)))
        → (0 < k → (get_or uses k no_use).feature.now ≢ (get_or uses (k - 1) no_use).feature.now) → IsFirstUse texts (get_or uses k no_use).entry (slice_index (entries_of uses) k)
    unfolding at
    first_is k before less first new = subst (IsFirstUse texts (at k).entry) (sym (entry_at k less)) (begins k less new)

    pub first_stays : (k before : ℕ) → 0 < k → k < length uses → IsFirstUse texts before (slice_index (entries_of uses) (k - 1))
        → (get_or uses k no_use).feature.now ≡ (get_or uses (k - 1) no_use).feature.now → IsFirstUse texts before (slice_index (entries_of uses) k)
    unfolding at
    first_stays k before some less first same =
        subst (IsFirstUse texts before) (sym (entry_at k less))
        (goes_on k before some less same (subst (IsFirstUse texts before) (entry_at (k - 1) (omega (arith, less))) first))

-- ---- first uses, one after another

-- the first uses of the features of the first k uses are stored, and `first` is that of the last of
-- them
pub record AreFirstUpTo (texts : List (List ℕ)) (uses : List FeatureUse) (k first : ℕ) (firsts : List ℕ) : Type 0 where
  pub recorded : (j : ℕ) → j < k → IsFirstUse texts (slice_index firsts (slice_index (entries_of uses) j)) (slice_index (entries_of uses) j)
  pub last : 0 < k → IsFirstUse texts first (slice_index (entries_of uses) (k - 1))

-- one more first use is stored
pub first_recorded : (texts : List (List ℕ)) (uses : List FeatureUse) (k before first entry : ℕ) (firsts : List ℕ) → entry ≡ slice_index (entries_of uses) k → entry < length firsts
    → AreFirstUpTo texts uses k before firsts → IsFirstUse texts first (slice_index (entries_of uses) k) → AreFirstUpTo texts uses (k + 1) first (slice_set firsts entry first)
first_recorded texts uses k before first entry firsts is less up one = record {
  recorded = λ j low.
      let e = slice_index (entries_of uses) j in
      elim (cases_eq e entry) [
        | inl same ↦
            subst (λ (f : ℕ). IsFirstUse texts f e) (sym (ap (slice_index (slice_set firsts entry first)) same ∙ get_or-set_same firsts entry first 0 less))
            (subst (IsFirstUse texts first) (sym (same ∙ is)) one)
        | inr other ↦
            let before_k : j < k = elim (cases_lt j k) [
              | inl l ↦ l
              | inr p ↦ let j_is : j ≡ k = omega (arith, low, p) in absurd (other (ap (slice_index (entries_of uses)) j_is ∙ sym is))
            ] in
            subst (λ (f : ℕ). IsFirstUse texts f e) (sym (get_or-set_other firsts entry e first 0 other)) (up.recorded j before_k)
      ];
  last = λ some. let k_is : k ≡ k + 1 - 1 = omega arith in subst (λ (n : ℕ). IsFirstUse texts first (slice_index (entries_of uses) n)) k_is one;
}

pub all_recorded : (texts : List (List ℕ)) (uses : List FeatureUse) (k first : ℕ) (firsts : List ℕ) → AreUses texts uses → length uses ≤ k → length firsts ≡ length uses
    → AreFirstUpTo texts uses k first firsts → AreFirstUses texts firsts
all_recorded texts uses k first firsts are past long up = record {
  long = long ∙ are.long;
  each = λ i less.
      let found = are.every i less in
      let p = found.0 in
      let l = length-map uses (λ (u : FeatureUse). u.entry) in
      let low : p < k = let w = found.1 in omega (arith, w, l, past) in
      let is : slice_index (entries_of uses) p ≡ i = get_or_default (entries_of uses) p 0 i found.1 ∙ found.2 in
      subst (λ (n : ℕ). IsFirstUse texts (slice_index firsts n) n) is (up.recorded p low);
}

-- ---- uses before they are sorted

pub numbered_more : (uses : List FeatureUse) (one : FeatureUse) → one.entry ≡ length uses → AreNumbered uses → AreNumbered (uses ++ one ∷ [])
numbered_more uses one is numbered =
    let l = length-append uses (one ∷ []) in
    let long : length uses + 1 ≡ length (uses ++ one ∷ []) = omega (arith, l) in
    let entry : one.entry ≡ 0 + length uses = omega (arith, is) in
    map-append (λ (u : FeatureUse). u.entry) uses (one ∷ [])
    ∙ ap (λ (es : List ℕ). es ++ one.entry ∷ []) numbered
    ∙ ap (λ (e : ℕ). range_with_len 0 (length uses) ++ e ∷ []) entry
    ∙ range_more 0 (length uses) ∙ ap (range_with_len 0) long
  where
    range_more : (a n : ℕ) → range_with_len a n ++ (a + n) ∷ [] ≡ range_with_len a (n + 1)
    range_more a zero = ap (λ (e : ℕ). e ∷ []) (omega arith)
    range_more a (suc n) =
        let moved : a + suc n ≡ a + 1 + n = omega arith in
        let long : suc (n + 1) ≡ suc n + 1 = omega arith in
        ap (λ (e : ℕ). a ∷ range_with_len (a + 1) n ++ e ∷ []) moved ∙ ap (λ (es : List ℕ). a ∷ es) (range_more (a + 1) n) ∙ ap (range_with_len a) long

-- the features of one record more
pub features_more : (records : List Record) (i : ℕ) (r : Record) → i < length records → r ≡ get_or records i r
    → features_of (rows_of (take (i + 1) records)) ≡ features_of (rows_of (take i records)) ++ r.entry.feature.now ∷ []
features_more records i r less at =
    ap features_of (map_more row_of records i r less)
    ∙ map-append (λ (row : Row). row.feature) (rows_of (take i records)) (row_of (get_or records i r) ∷ [])
    ∙ ap (λ (x : Record). features_of (rows_of (take i records)) ++ x.entry.feature.now ∷ []) (sym at)

pub uses_of_numbered : (uses : List FeatureUse) → AreNumbered uses → AreUses (features_used uses) uses
uses_of_numbered uses numbered =
    let entry_is : (k d : ℕ) → k < length uses → get_or (entries_of uses) k d ≡ k =
    λ k d less. ap (λ (es : List ℕ). get_or es k d) numbered ∙ get_or-range_with_len 0 (length uses) k d less ∙ omega arith in
    let long = length-map uses (λ (u : FeatureUse). u.feature.now) in
    let entries_long = length-map uses (λ (u : FeatureUse). u.entry) in
    record {
      long = sym long;
      each = λ k d less.
          ap (slice_get (features_used uses)) (sym (get_or-map (λ (u : FeatureUse). u.entry) uses k d 0 less) ∙ entry_is k 0 less)
          ∙ slice_get-get_or (features_used uses) k [] (omega (arith, less, long))
          ∙ ap (λ (f : List ℕ). Some f) (get_or-map (λ (u : FeatureUse). u.feature.now) uses k d [] less);
      every = λ i less. let low : i < length uses = omega (arith, less, long) in (i, omega (arith, low, entries_long), entry_is i i low);
    }

-- in another order
pub uses_moved : (texts : List (List ℕ)) (uses moved : List FeatureUse) → IsPermutation uses moved → AreUses texts uses → AreUses texts moved
uses_moved texts uses moved permutation are = record {
  long = length_permutation uses moved permutation ∙ are.long;
  each = All-permutation (λ (u : FeatureUse). slice_get texts u.entry ≡ Some u.feature.now) uses moved permutation are.each;
  every = λ i less. Contains-permutation _ _ i (IsPermutation-map (λ (u : FeatureUse). u.entry) uses moved permutation) (are.every i less);
}

-- ---- a text that comes next

-- if the first use of text i precedes it, the texts are equal; if it is i, no earlier text is equal
pub first_before : (texts : List (List ℕ)) (text : List ℕ) (i first : ℕ) → IsFirstUse texts first i → slice_get texts i ≡ Some text → first < i → slice_get (take i texts) first ≡ Some text
first_before texts text i first use_is there less =
    let low = within texts i text there in
    let long = length-take i texts in
    slice_get-get_or (take i texts) first text (omega (arith, less, long, low))
    ∙ ap (λ (t : List ℕ). Some t) (get_or-take i texts first text less)
    ∙ sym (slice_get-get_or texts first text (omega (arith, less, low))) ∙ use_is.same ∙ there

pub none_before : (texts : List (List ℕ)) (text : List ℕ) (i first : ℕ) → IsFirstUse texts first i → slice_get texts i ≡ Some text → i ≤ first → list_any (bytes_eq text) (take i texts) ≡ false
none_before texts text i first use_is there past = by (list_any (bytes_eq text) (take i texts)) refl
  where
    by : (b : Bool) → list_any (bytes_eq text) (take i texts) ≡ b → b ≡ false
    by false e = refl
    by true e =
        let found = Any-from_list_any (bytes_eq text) (take i texts) e in
        let j = found.0 in
        let low = found.2 in
        let long = length-take i texts in
        let inside = within texts i text there in
        let less : j < i = omega (arith, low, long, inside) in
        let same : found.1 ≡ text = sym ((bytes_eq-Decides text found.1).0 found.4) in
        let is : slice_get texts j ≡ Some text =
        slice_get-get_or texts j found.1 (omega (arith, less, inside)) ∙ ap (λ (t : List ℕ). Some t) (sym (get_or-take i texts j found.1 less) ∙ found.3 ∙ same) in
        let le = use_is.least j (is ∙ sym there) in
        absurd (omega (arith, le, less, past))
