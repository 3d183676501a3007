-- Surfaces compare as their prefixes do, and as the surfaces if these are equal. Records sorted
-- with their prefixes are sorted.
use Rattle.std.proofs.Common.{◌≡◌, ◌⊎◌, inl, inr, ℕ, zero, suc, ◌+◌, ◌<◌, Bool, List, [], ◌∷◌, length, get_or, map, sym, ap, ◌∙◌, refl, arith, subst}
use Rattle.std.specs.Cow.{cow_str_bytes}
use Rattle.std.specs.Prelude.{IsPermutation, IsSortedBy}
use Rattle.std.specs.Cmp.{IsStrictWeakOrder}
use Rattle.std.specs.Cmp.Lexicographic.{nat_list_cmp_total}
use Rattle.std.specs.List.Sorted.{ties, IsStableBy}
use Rattle.std.specs.declared.cmp.Ordering.{Ordering}
use Rattle.std.specs.declared.cmp.Ordering.TheVariants.{Less, Equal, Greater}
use Rattle.std.specs.Ordering.{MatchOrdering, nat_cmp, ordering_then}
use Rattle.std.proofs.lemmas.Cmp.{ranked}
use Rattle.std.proofs.lemmas.List.{get_or-map, length-map}
use Rattle.std.proofs.lemmas.List.Sorted.{IsPermutation-map, ranks_by}
use Rattle.mj_model.specs.declared.entry.Record.{Record}
use Rattle.mj_model.specs.Dictionary.{IsInOrder}
use Rattle.mj_model.specs.Lexicon.{row_of, rows_of}
use Rattle.lex_source.specs.declared.prefixed_record.PrefixedRecord.{PrefixedRecord}
use Rattle.lex_source.specs.PrefixedRecords.{without_prefix}
use Rattle.lex_source.specs.SurfacePrefixes.{prefix_of_bytes}
use Rattle.lex_source.proofs.SortedRows.{filter_map_is, is_below, order, rows_in_order, rows_stable}

-- ---- prefixes

-- the first n bytes, padded with bytes of 0
padded : ℕ → List ℕ → List ℕ
padded zero xs = []
padded (suc n) [] = 0 ∷ padded n []
padded (suc n) (x ∷ xs) = x ∷ padded n xs

head_is : (xs : List ℕ) → prefix_of_bytes xs ≡ padded 8 xs
unfolding padded
head_is [] = refl
head_is (a ∷ []) = refl
head_is (a ∷ b ∷ []) = refl
head_is (a ∷ b ∷ c ∷ []) = refl
head_is (a ∷ b ∷ c ∷ d ∷ []) = refl
head_is (a ∷ b ∷ c ∷ d ∷ e ∷ []) = refl
head_is (a ∷ b ∷ c ∷ d ∷ e ∷ f ∷ []) = refl
head_is (a ∷ b ∷ c ∷ d ∷ e ∷ f ∷ g ∷ []) = refl
head_is (a ∷ b ∷ c ∷ d ∷ e ∷ f ∷ g ∷ h ∷ xs) = refl

-- prefixes compare as the texts do, or are equal
Agrees : Ordering → Ordering → Type 0
Agrees heads texts = (heads ≡ Equal) ⊎ (heads ≡ texts)

then_agrees : (o heads texts : Ordering) → Agrees heads texts → Agrees (ordering_then o heads) (ordering_then o texts)
unfolding Agrees
then_agrees Less heads texts a = inr refl
then_agrees Equal heads texts a = a
then_agrees Greater heads texts a = inr refl

zero_first : (y : ℕ) (o rest : Ordering) → MatchOrdering o (0 < y) (0 ≡ y) (y < 0) → Agrees rest Less → Agrees (ordering_then o rest) Less
unfolding Agrees
zero_first y Less rest m a = inr refl
zero_first y Equal rest m a = a
zero_first y Greater rest m a = absurd (omega (arith, m))

zero_last : (x : ℕ) (o rest : Ordering) → MatchOrdering o (x < 0) (x ≡ 0) (0 < x) → Agrees rest Greater → Agrees (ordering_then o rest) Greater
unfolding Agrees
zero_last x Less rest m a = absurd (omega (arith, m))
zero_last x Equal rest m a = a
zero_last x Greater rest m a = inr refl

-- after its end a text has bytes of 0, which are the least
end_below : (n : ℕ) (ys : List ℕ) → Agrees (order (padded n []) (padded n ys)) Less
unfolding padded Agrees
end_below zero ys = inl refl
end_below (suc n) [] = end_below n []
end_below (suc n) (y ∷ ys) = zero_first y (nat_cmp 0 y) (order (padded n []) (padded n ys)) (ranked 0 y (nat_cmp 0 y) refl) (end_below n ys)

end_above : (n : ℕ) (xs : List ℕ) → Agrees (order (padded n xs) (padded n [])) Greater
unfolding padded Agrees
end_above zero xs = inl refl
end_above (suc n) [] = end_above n []
end_above (suc n) (x ∷ xs) = zero_last x (nat_cmp x 0) (order (padded n xs) (padded n [])) (ranked x 0 (nat_cmp x 0) refl) (end_above n xs)

heads_agree : (n : ℕ) (xs ys : List ℕ) → Agrees (order (padded n xs) (padded n ys)) (order xs ys)
unfolding padded Agrees
heads_agree zero xs ys = inl refl
heads_agree (suc n) [] [] = heads_agree n [] []
heads_agree (suc n) [] (y ∷ ys) = end_below (suc n) (y ∷ ys)
heads_agree (suc n) (x ∷ xs) [] = end_above (suc n) (x ∷ xs)
heads_agree (suc n) (x ∷ xs) (y ∷ ys) = then_agrees (nat_cmp x y) (order (padded n xs) (padded n ys)) (order xs ys) (heads_agree n xs ys)

-- unequal prefixes compare as their texts do
pub reported_by_heads : (xs ys heads_of_xs heads_of_ys : List ℕ) (o : Ordering) → heads_of_xs ≡ prefix_of_bytes xs → heads_of_ys ≡ prefix_of_bytes ys
    → o ≡ order heads_of_xs heads_of_ys → (o ≡ Equal → ⊥) → o ≡ order xs ys
unfolding Agrees
reported_by_heads xs ys hx hy o e f by other =
    let same : o ≡ order (padded 8 xs) (padded 8 ys) = by ∙ ap (λ (h : List ℕ). order h hy) (e ∙ head_is xs) ∙ ap (order (padded 8 xs)) (f ∙ head_is ys) in
    elim (heads_agree 8 xs ys) [
      | inl equal ↦ absurd (other (same ∙ equal))
      | inr reported ↦ same ∙ reported
    ]

-- ---- records sorted with their prefixes

abbrev pub is_headed_below : PrefixedRecord → PrefixedRecord → Bool
is_headed_below a b = is_below (without_prefix a) (without_prefix b)

pub is_headed_below_order : IsStrictWeakOrder is_headed_below
is_headed_below_order = ranks_by nat_list_cmp_total (λ (h : PrefixedRecord). cow_str_bytes h.row.surface)

pub sorted_alone : (hs : List PrefixedRecord) → IsSortedBy is_headed_below hs → IsSortedBy is_below (map without_prefix hs)
sorted_alone [] up k d low high = absurd (omega arith)
sorted_alone (h ∷ hs) up k d low high =
    let all = h ∷ hs in
    let long = length-map all without_prefix in
    let less : k + 1 < length all = omega (arith, long, high) in
    let a : get_or (map without_prefix all) (k + 1) d ≡ without_prefix (get_or all (k + 1) h) = get_or-map without_prefix all (k + 1) h d less in
    let b : get_or (map without_prefix all) k d ≡ without_prefix (get_or all k h) = get_or-map without_prefix all k h d (omega (arith, less)) in
    ap (λ (x : Record). is_below x (get_or (map without_prefix all) k d)) a ∙ ap (is_below (without_prefix (get_or all (k + 1) h))) b ∙ up k h low less

pub stable_alone : (given sorted : List PrefixedRecord) → IsStableBy is_headed_below given sorted → IsStableBy is_below (map without_prefix given) (map without_prefix sorted)
stable_alone given sorted stable x =
    let headed : PrefixedRecord = record { head = prefix_of_bytes (cow_str_bytes x.surface); row = x; front = refl } in
    filter_map_is without_prefix (ties is_below x) sorted ∙ ap (map without_prefix) (stable headed) ∙ sym (filter_map_is without_prefix (ties is_below x) given)

pub order_alone : (records ordered : List Record) (given sorted : List PrefixedRecord) → map without_prefix given ≡ records → ordered ≡ map without_prefix sorted
    → IsPermutation given sorted → IsSortedBy is_headed_below sorted → IsStableBy is_headed_below given sorted → IsInOrder (rows_of records) (rows_of ordered)
order_alone records ordered given sorted started done permutation up stable =
    subst (λ (xs : List Record). IsInOrder (rows_of xs) (rows_of ordered)) started
    (subst (λ (xs : List Record). IsInOrder (rows_of (map without_prefix given)) (rows_of xs)) (sym done)
    (record {
      same_rows = IsPermutation-map row_of _ _ (IsPermutation-map without_prefix _ _ permutation);
      by_surface = rows_in_order _ (sorted_alone sorted up);
      in_source_order = rows_stable _ _ (stable_alone given sorted stable);
    }))
