-- Entries in the byte order of their surfaces: those of one surface are adjacent.
use Rattle.std.proofs.Common.{◌≡◌, ◌≢◌, ℕ, zero, suc, ◌+◌, ◌-◌, ◌<◌, ◌≤◌, ◌⊎◌, inl, inr, true, false, List, [], ◌∷◌, ◌++◌, length, get_or, Some, None, sym, ap, ◌∙◌, refl, arith, subst, true≢false}
use Rattle.std.specs.Prelude.{IsSortedByKey, bytes_eq}
use Rattle.std.specs.Cmp.Lexicographic.{slice_cmp}
use Rattle.std.specs.Ordering.{nat_cmp, is_lt, is_eq, ordering_reverse}
use Rattle.std.specs.declared.cmp.Ordering.{Ordering}
use Rattle.std.specs.declared.cmp.Ordering.TheVariants.{Less, Equal, Greater}
use Rattle.std.proofs.lemmas.Bool.{cases_Bool, cases_lt}
use Rattle.std.proofs.lemmas.Cmp.{nat_list_cmp_total}
use Rattle.std.proofs.lemmas.List.MinMax.{ranks_by}
use Rattle.std.proofs.lemmas.List.Sorted.{sorted_far}
use Rattle.std.proofs.lemmas.List.{get_or_append_left, get_or_push, get_or_past, get_or_default, length_push}
use Rattle.std.proofs.lemmas.Option.{same_Some, none-some}
use Rattle.std.proofs.lemmas.Slice.Eq.{bytes_eq-Decides}
use Rattle.std.proofs.lemmas.Map.Text.{is_eq-slice_cmp}
use Rattle.mj_model.specs.CellMap.{Cell, value_of, IsMapWith}
use Rattle.mj_model.specs.Dictionary.{surface_of}
use Rattle.mj_model.specs.Lexicon.{Row}
use Rattle.image_writer.specs.Entries.{surface_at, no_row}
use Rattle.image_writer.specs.Groups.{AreGroups, StartsGroup, MapsGroups}

-- two surfaces are one or are not
pub same_or_not : (xs ys : List ℕ) → (xs ≡ ys) ⊎ (xs ≢ ys)
same_or_not xs ys = elim (cases_Bool (bytes_eq xs ys)) [
  | inl e ↦ inl ((bytes_eq-Decides xs ys).0 e)
  | inr e ↦ inr (λ same. true≢false (sym ((bytes_eq-Decides xs ys).1 same) ∙ e))
]

-- ---- the order

-- neither is before the other, so they are one
same_from_both : (xs ys : List ℕ) → is_lt (slice_cmp nat_cmp xs ys) ≡ false → is_lt (slice_cmp nat_cmp ys xs) ≡ false → xs ≡ ys
same_from_both xs ys a b = (bytes_eq-Decides xs ys).0 (sym (is_eq-slice_cmp xs ys) ∙ equal (slice_cmp nat_cmp xs ys) (slice_cmp nat_cmp ys xs) (nat_list_cmp_total.antisymm xs ys) a b)
  where
    equal : (o p : Ordering) → o ≡ ordering_reverse p → is_lt o ≡ false → is_lt p ≡ false → is_eq o ≡ true
    equal Less p h a b = absurd (true≢false a)
    equal Equal p h a b = refl
    equal Greater Less h a b = absurd (true≢false b)
    equal Greater Equal h a b = absurd (cc)
    equal Greater Greater h a b = absurd (cc)

-- a later surface is not before an earlier one
no_later_before : (rows : List Row) → IsSortedByKey surface_of (slice_cmp nat_cmp) rows → (i j : ℕ) → i ≤ j → j < length rows → is_lt (slice_cmp nat_cmp (surface_at rows j) (surface_at rows i)) ≡ false
no_later_before rows sorted i j order less =
    sorted_far (λ (x y : Row). is_lt (slice_cmp nat_cmp x.surface y.surface)) (ranks_by nat_list_cmp_total surface_of) rows sorted i j no_row order less

-- if an entry differs from the one before it, no earlier entry has its surface
pub new_surface : (rows : List Row) → IsSortedByKey surface_of (slice_cmp nat_cmp) rows → (i j : ℕ) → i < length rows → StartsGroup rows i → j < i → surface_at rows j ≢ surface_at rows i
new_surface rows sorted i j less (inl first) before same = absurd (omega (arith, first, before))
new_surface rows sorted i j less (inr differs) before same =
    differs (same_from_both (surface_at rows i) (surface_at rows (i - 1))
    (no_later_before rows sorted (i - 1) i (omega arith) less)
    (subst (λ (s : List ℕ). is_lt (slice_cmp nat_cmp (surface_at rows (i - 1)) s) ≡ false) same (no_later_before rows sorted j (i - 1) (omega (arith, before)) (omega (arith, less)))))

-- ---- groups

pub no_groups : (rows : List Row) → AreGroups rows 0 []
no_groups rows = record {
  first = refl;
  rising = λ g less. absurd (omega (arith, less));
  alike = λ g i less. absurd (omega (arith, less));
  few = omega arith;
}

-- a start does not change when more entries are seen
start_kept : (starts more : List ℕ) (g seen now : ℕ) → g < length starts → get_or (starts ++ more) g now ≡ get_or starts g seen
start_kept starts more g seen now less = get_or_append_left starts more now g less ∙ get_or_default starts g now seen less

-- the next entry starts a group
pub group_started : (rows : List Row) (seen : ℕ) (starts : List ℕ) → AreGroups rows seen starts → AreGroups rows (seen + 1) (starts ++ seen ∷ [])
group_started rows seen starts groups =
    let long = length_push starts seen in
    let was : (g : ℕ) → g ≤ length starts → get_or (starts ++ seen ∷ []) g (seen + 1) ≡ get_or starts g seen = λ g le. elim (cases_lt g (length starts)) [
      | inl less ↦ start_kept starts (seen ∷ []) g seen (seen + 1) less
      | inr past ↦ let e : length starts ≡ g = omega (arith, le, past) in get_or_push starts seen (seen + 1) g e ∙ sym (get_or_past starts g seen past)
    ] in
    record {
      first = was 0 (omega arith) ∙ groups.first;
      rising = λ g less. elim (cases_lt g (length starts)) [
        | inl old ↦ let a = was g (omega (arith, old)) in let b = was (suc g) (omega (arith, old)) in let r = groups.rising g old in omega (arith, a, b, r)
        | inr last ↦
            let e : length starts ≡ g = omega (arith, long, less, last) in
            let a = was g (omega (arith, e)) in
            let c = get_or_past starts g seen last in
            let b = get_or_past (starts ++ seen ∷ []) (suc g) (seen + 1) (omega (arith, long, e)) in
            omega (arith, a, b, c)
      ];
      alike = λ g i less from below. elim (cases_lt g (length starts)) [
        | inl old ↦
            let a = was g (omega (arith, old)) in
            let b = was (suc g) (omega (arith, old)) in
            groups.alike g i old (omega (arith, a, from)) (omega (arith, b, below)) ∙ ap (surface_at rows) (sym a)
        | inr last ↦
            let e : length starts ≡ g = omega (arith, long, less, last) in
            let a = was g (omega (arith, e)) in
            let c = get_or_past starts g seen last in
            let b = get_or_past (starts ++ seen ∷ []) (suc g) (seen + 1) (omega (arith, long, e)) in
            let same : i ≡ get_or (starts ++ seen ∷ []) g (seen + 1) = omega (arith, a, b, c, from, below) in
            ap (surface_at rows) same
      ];
      few = let f = groups.few in omega (arith, long, f);
    }

-- the next entry belongs to the last group
pub group_goes_on : (rows : List Row) (seen : ℕ) (starts : List ℕ) → AreGroups rows seen starts → 0 < seen → surface_at rows seen ≡ surface_at rows (seen - 1) → AreGroups rows (seen + 1) starts
group_goes_on rows seen starts groups some same =
    let was : (g : ℕ) → g < length starts → get_or starts g (seen + 1) ≡ get_or starts g seen = λ g less. get_or_default starts g (seen + 1) seen less in
    let some_group : 0 < length starts = elim (cases_lt 0 (length starts)) [
      | inl less ↦ less
      | inr none ↦ let a = get_or_past starts 0 seen none in let f = groups.first in absurd (omega (arith, a, f, some))
    ] in
    record {
      first = was 0 some_group ∙ groups.first;
      rising = λ g less. elim (cases_lt (suc g) (length starts)) [
        | inl old ↦ let a = was g less in let b = was (suc g) old in let r = groups.rising g less in omega (arith, a, b, r)
        | inr last ↦
            let a = was g less in
            let b = get_or_past starts (suc g) (seen + 1) last in
            let c = get_or_past starts (suc g) seen last in
            let r = groups.rising g less in omega (arith, a, b, c, r)
      ];
      alike = λ g i less from below. elim (cases_lt (suc g) (length starts)) [
        | inl old ↦ let a = was g less in let b = was (suc g) old in groups.alike g i less (omega (arith, a, from)) (omega (arith, b, below)) ∙ ap (surface_at rows) (sym a)
        | inr last ↦
            let a = was g less in
            let b = get_or_past starts (suc g) (seen + 1) last in
            let c = get_or_past starts (suc g) seen last in
            let r = groups.rising g less in
            elim (cases_lt i seen) [
              | inl before ↦ groups.alike g i less (omega (arith, a, from)) (omega (arith, c, before)) ∙ ap (surface_at rows) (sym a)
              | inr now ↦
                  let e : i ≡ seen = omega (arith, b, below, now) in
                  ap (surface_at rows) e ∙ same ∙ groups.alike g (seen - 1) less (omega (arith, r, c, some)) (omega (arith, c, some)) ∙ ap (surface_at rows) (sym a)
            ]
      ];
      few = let f = groups.few in omega (arith, f);
    }

-- ---- the map

pub no_map : (rows : List Row) (cells : List Cell) → ((key : List ℕ) → value_of cells key ≡ None) → MapsGroups rows 0 [] cells
no_map rows cells empty = record {
  there = λ g less. absurd (omega (arith, less));
  only = λ key g found. absurd (none-some g (sym (empty key) ∙ found));
}

pub map_goes_on : (rows : List Row) (seen : ℕ) (starts : List ℕ) (cells : List Cell) → MapsGroups rows seen starts cells → MapsGroups rows (seen + 1) starts cells
map_goes_on rows seen starts cells maps = record {
  there = λ g less. ap (λ (s : ℕ). value_of cells (surface_at rows s)) (get_or_default starts g (seen + 1) seen less) ∙ maps.there g less;
  only = λ key g found. let o = maps.only key g found in (o.0, o.1 ∙ ap (surface_at rows) (get_or_default starts g seen (seen + 1) o.0));
}

-- each group starts before the number of entries seen
start_below : (rows : List Row) (seen : ℕ) (starts : List ℕ) → AreGroups rows seen starts → (n g : ℕ) → g + n ≡ length starts → get_or starts g seen + n ≤ seen
start_below rows seen starts groups zero g e = let p = get_or_past starts g seen (omega (arith, e)) in omega (arith, p)
start_below rows seen starts groups (suc n) g e =
    let r = groups.rising g (omega (arith, e)) in
    let rest = start_below rows seen starts groups n (suc g) (omega (arith, e)) in
    omega (arith, r, rest)

pub starts_below : (rows : List Row) (seen : ℕ) (starts : List ℕ) → AreGroups rows seen starts → (g : ℕ) → g < length starts → get_or starts g seen < seen
starts_below rows seen starts groups g less =
    let b = start_below rows seen starts groups (length starts - g) g (omega (arith, less)) in
    omega (arith, b, less)

pub map_started : (rows : List Row) → IsSortedByKey surface_of (slice_cmp nat_cmp) rows → (seen : ℕ) (starts : List ℕ) (old new : List Cell) → seen < length rows → AreGroups rows seen starts → MapsGroups rows seen starts old → StartsGroup rows seen
    → IsMapWith old new (surface_at rows seen) (length starts) → MapsGroups rows (seen + 1) (starts ++ seen ∷ []) new
map_started rows sorted seen starts old new less groups maps begins with =
    let long = length_push starts seen in
    let was : (g : ℕ) → g < length starts → get_or (starts ++ seen ∷ []) g (seen + 1) ≡ get_or starts g seen = λ g low. start_kept starts (seen ∷ []) g seen (seen + 1) low in
    let last : get_or (starts ++ seen ∷ []) (length starts) (seen + 1) ≡ seen = get_or_push starts seen (seen + 1) (length starts) refl in
    let apart : (g : ℕ) → g < length starts → surface_at rows (get_or starts g seen) ≢ surface_at rows seen = λ g low. new_surface rows sorted seen (get_or starts g seen) less begins (starts_below rows seen starts groups g low) in
    record {
      there = λ g low. elim (cases_lt g (length starts)) [
        | inl older ↦ ap (λ (s : ℕ). value_of new (surface_at rows s)) (was g older) ∙ with.others (surface_at rows (get_or starts g seen)) (apart g older) ∙ maps.there g older
        | inr now ↦
            let e : g ≡ length starts = omega (arith, long, low, now) in
            ap (λ (s : ℕ). value_of new (surface_at rows s)) (ap (λ (h : ℕ). get_or (starts ++ seen ∷ []) h (seen + 1)) e ∙ last) ∙ with.there ∙ ap Some (sym e)
      ];
      only = λ key g found. elim (same_or_not key (surface_at rows seen)) [
        | inl same ↦
            let e : length starts ≡ g = same_Some (length starts) g (sym with.there ∙ ap (value_of new) (sym same) ∙ found) in
            (omega (arith, long, e), same ∙ ap (surface_at rows) (sym (ap (λ (h : ℕ). get_or (starts ++ seen ∷ []) h (seen + 1)) (sym e) ∙ last)))
        | inr differs ↦
            let o = maps.only key g (sym (with.others key differs) ∙ found) in
            let low = o.0 in
            (omega (arith, long, low), o.1 ∙ ap (surface_at rows) (sym (was g o.0)))
      ];
    }
