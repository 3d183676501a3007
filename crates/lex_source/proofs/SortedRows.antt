-- Records sorted by their surfaces, seen as rows: they are in the byte order of the surfaces, and
-- rows with equal surfaces keep their order. Stability is known of each record; nothing needs a
-- proof for a row that ties with no record.
use Rattle.std.proofs.Common.{◌≡◌, ℕ, ◌+◌, ◌<◌, Bool, true, false, cond, List, [], ◌∷◌, length, get_or, map, sym, ap, ◌∙◌, refl, arith}
use Rattle.std.specs.Cow.{cow_str_bytes}
use Rattle.std.specs.Prelude.{not, ◌&&◌, filter, IsSortedBy, IsSortedByKey}
use Rattle.std.specs.Cmp.Lexicographic.{slice_cmp, nat_list_cmp_total}
use Rattle.std.specs.List.Sorted.{ties, IsStableBy, IsStableByKey}
use Rattle.std.specs.declared.cmp.Ordering.{Ordering}
use Rattle.std.specs.declared.cmp.Ordering.TheVariants.{Less, Equal, Greater}
use Rattle.std.specs.Ordering.{is_lt, nat_cmp, ordering_reverse}
use Rattle.std.proofs.lemmas.Cmp.{alike_right}
use Rattle.std.proofs.lemmas.List.{get_or-map, length-map}
use Rattle.std.proofs.lemmas.List.Elements.{filter_agree}
use Rattle.mj_model.specs.declared.entry.Record.{Record}
use Rattle.mj_model.specs.Dictionary.{surface_of}
use Rattle.mj_model.specs.Lexicon.{Row, row_of, rows_of}

-- the order of surfaces
abbrev pub order : List ℕ → List ℕ → Ordering
order = slice_cmp nat_cmp

abbrev pub is_below : Record → Record → Bool
is_below a b = is_lt (order (cow_str_bytes a.surface) (cow_str_bytes b.surface))

-- ---- in order

pub rows_in_order : (records : List Record) → IsSortedBy is_below records → IsSortedByKey surface_of order (rows_of records)
rows_in_order [] up k d low high = absurd (omega arith)
rows_in_order (r ∷ rs) up k d low high =
    let all = r ∷ rs in
    let long = length-map all row_of in
    let h : k + 1 < length all = omega (arith, long, high) in
    let a : get_or (rows_of all) (k + 1) d ≡ row_of (get_or all (k + 1) r) = get_or-map row_of all (k + 1) r d h in
    let b : get_or (rows_of all) k d ≡ row_of (get_or all k r) = get_or-map row_of all k r d (omega (arith, h)) in
    ap (λ (x : Row). is_lt (order x.surface (get_or (rows_of all) k d).surface)) a
    ∙ ap (λ (x : Row). is_lt (order (cow_str_bytes (get_or all (k + 1) r).surface) x.surface)) b
    ∙ up k r low h

-- ---- stable

is_tie : (a b : Ordering) → a ≡ ordering_reverse b → (not (is_lt a) && not (is_lt b)) ≡ true → a ≡ Equal
is_tie Less b e h = cc
is_tie Equal b e h = refl
is_tie Greater Less e h = cc
is_tie Greater Equal e h = cc
is_tie Greater Greater e h = cc

-- what ties with x ties with all that x ties with
same_ties : (x y z : List ℕ) → (not (is_lt (order x y)) && not (is_lt (order y x))) ≡ true
    → (not (is_lt (order x z)) && not (is_lt (order z x))) ≡ (not (is_lt (order y z)) && not (is_lt (order z y)))
same_ties x y z h =
    let o = nat_list_cmp_total in
    let e : order x y ≡ Equal = is_tie (order x y) (order y x) (o.antisymm x y) h in
    let a : order x z ≡ order y z = o.congr x y z e in
    let b : order z x ≡ order z y = alike_right o x y z e in
    ap (λ (c : Ordering). not (is_lt c) && not (is_lt (order z x))) a ∙ ap (λ (c : Ordering). not (is_lt (order y z)) && not (is_lt c)) b

first_passes_by : {X : Type 0} (p : X → Bool) (y : X) (ys zs : List X) (x : X) (b : Bool) → p y ≡ b → (filter p ys ≡ x ∷ zs → p x ≡ true) → cond b (y ∷ filter p ys) (filter p ys) ≡ x ∷ zs → p x ≡ true
first_passes_by p y ys zs x true e rest h = let same : y ≡ x = cc in ap p (sym same) ∙ e
first_passes_by p y ys zs x false e rest h = rest h

first_passes : {X : Type 0} (p : X → Bool) (xs zs : List X) (x : X) → filter p xs ≡ x ∷ zs → p x ≡ true
first_passes p [] zs x h = cc
first_passes p (y ∷ ys) zs x h = first_passes_by p y ys zs x (p y) refl (first_passes p ys zs x) h

-- a test that agrees with a relation at each element that passes it selects the same from two
-- lists, if the relation does
same_kept_by : {X : Type 0} (p : X → Bool) (q : X → X → Bool) (xs ys : List X) → ((x : X) → p x ≡ true → (z : X) → p z ≡ q x z) → ((x : X) → filter (q x) ys ≡ filter (q x) xs)
    → (us vs : List X) → filter p ys ≡ us → filter p xs ≡ vs → filter p ys ≡ filter p xs
same_kept_by p q xs ys agree same [] [] e f = e ∙ sym f
same_kept_by p q xs ys agree same (u ∷ us) vs e f =
    let a = agree u (first_passes p ys us u e) in
    filter_agree p (q u) a ys ∙ same u ∙ sym (filter_agree p (q u) a xs)
same_kept_by p q xs ys agree same [] (v ∷ vs) e f =
    let a = agree v (first_passes p xs vs v f) in
    filter_agree p (q v) a ys ∙ same v ∙ sym (filter_agree p (q v) a xs)

filter_map_is_by : {X Y : Type 0} (f : X → Y) (p : Y → Bool) (x : X) (xs : List X) (b : Bool) → filter p (map f xs) ≡ map f (filter (λ z. p (f z)) xs)
    → cond b (f x ∷ filter p (map f xs)) (filter p (map f xs)) ≡ map f (cond b (x ∷ filter (λ z. p (f z)) xs) (filter (λ z. p (f z)) xs))
filter_map_is_by f p x xs true h = ap (λ ys. f x ∷ ys) h
filter_map_is_by f p x xs false h = h

pub filter_map_is : {X Y : Type 0} (f : X → Y) (p : Y → Bool) (xs : List X) → filter p (map f xs) ≡ map f (filter (λ x. p (f x)) xs)
filter_map_is f p [] = refl
filter_map_is f p (x ∷ xs) = filter_map_is_by f p x xs (p (f x)) (filter_map_is f p xs)

pub rows_stable : (given sorted : List Record) → IsStableBy is_below given sorted → IsStableByKey surface_of order (rows_of given) (rows_of sorted)
rows_stable given sorted stable x =
    let tie : Row → Bool = λ (y : Row). not (is_lt (order x.surface y.surface)) && not (is_lt (order y.surface x.surface)) in
    let p : Record → Bool = λ (r : Record). tie (row_of r) in
    let agree : (r : Record) → p r ≡ true → (z : Record) → p z ≡ ties is_below r z = λ r h z. same_ties x.surface (cow_str_bytes r.surface) (cow_str_bytes z.surface) h in
    filter_map_is row_of tie sorted
    ∙ ap (map row_of) (same_kept_by p (ties is_below) given sorted agree stable (filter p sorted) (filter p given) refl refl)
    ∙ sym (filter_map_is row_of tie given)
