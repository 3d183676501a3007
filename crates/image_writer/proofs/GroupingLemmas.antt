-- One more entry: whether it starts a group, how many cells its surface may need, and that earlier
-- entries stay in their groups.
use Rattle.std.proofs.Common.{◌≡◌, ◌≢◌, ℕ, ◌+◌, ◌-◌, ◌<◌, ◌≤◌, ◌⊎◌, inl, inr, Bool, true, false, cond, not, List, [], ◌∷◌, ◌++◌, length, map, take, drop, get_or, None, sym, ap, ◌∙◌, refl, arith, subst, true≢false}
use Rattle.std.specs.Prelude.{IsSortedByKey, sum_by, bytes_eq}
use Rattle.std.specs.Cow.{cow_str_bytes}
use Rattle.std.specs.Cmp.Lexicographic.{slice_cmp}
use Rattle.std.specs.List.{list_any, enumerate_from}
use Rattle.std.specs.declared.vec.Vec.{Vec}
use Rattle.std.specs.declared.alloc.Global.{Global}
use Rattle.std.specs.Ordering.{nat_cmp}
use Rattle.std.proofs.lemmas.Bool.{cases_lt, false_from_ne_true}
use Rattle.std.proofs.lemmas.List.{get_or-map, length-map, length-take, get_or-take, take_more, take-append-drop}
use Rattle.std.proofs.lemmas.List.Folds.{list_any_none}
use Rattle.std.proofs.lemmas.Slice.Eq.{bytes_eq-Decides}
use Rattle.mj_model.specs.CellMap.{Cell, value_of, IsMapWith}
use Rattle.image_format.specs.ImageBounds.{each_once, most_cells, cells_max}
use Rattle.mj_model.specs.Dictionary.{surface_of, lexeme_of}
use Rattle.mj_model.specs.declared.entry.Record.{Record}
use Rattle.mj_model.specs.Lexicon.{Row, row_of, rows_of}
use Rattle.mj_model.specs.Tables.{Lexeme}
use Rattle.image_writer.specs.Entries.{surface_at, no_row, lexemes_of}
use Rattle.image_writer.specs.Groups.{AreGroups, StartsGroup, MapsGroups, AreGrouped, most_cells_of}
use Rattle.image_writer.specs.declared.groups.Groups.{Groups}
use Rattle.image_writer.proofs.FeatureLemmas.{sum_once_more, sum_once_rises}
use Rattle.image_writer.proofs.GroupLemmas.{group_started, group_goes_on, map_started, map_goes_on, new_surface, no_groups, no_map, same_or_not}

-- ---- the test for a new group

pub surface_is : (records : List Record) (i : ℕ) (x : Record) → i < length records → surface_at (rows_of records) i ≡ cow_str_bytes (get_or records i x).surface
surface_is records i x less = ap (λ (row : Row). row.surface) (get_or-map row_of records i x no_row less)

pub begins_by_test : (records : List Record) (i : ℕ) (x y : Record) (r : Bool) → i < length records → i ≢ 0 → r ≡ not (bytes_eq (cow_str_bytes (get_or records i x).surface) (cow_str_bytes (get_or records (i - 1) y).surface))
    → (r ≡ true → StartsGroup (rows_of records) i) × (StartsGroup (rows_of records) i → r ≡ true)
begins_by_test records i x y r less some test =
    let this : List ℕ = cow_str_bytes (get_or records i x).surface in
    let before : List ℕ = cow_str_bytes (get_or records (i - 1) y).surface in
    let a = surface_is records i x less in
    let b = surface_is records (i - 1) y (omega (arith, less)) in (
      λ yes. inr (λ same. true≢false (sym yes ∙ test ∙ ap not ((bytes_eq-Decides this before).1 (sym a ∙ same ∙ b)))),
      λ begins. test ∙ ap not (false_from_ne_true (bytes_eq this before) (λ e. elim begins [
        | inl none ↦ some none
        | inr differs ↦ differs (a ∙ (bytes_eq-Decides this before).0 e ∙ sym b)
      ])),
    )

-- an entry that starts no group follows one with its surface
pub goes_on : (rows : List Row) (i : ℕ) → (StartsGroup rows i → ⊥) → (0 < i) × (surface_at rows i ≡ surface_at rows (i - 1))
goes_on rows i none = (above, same (same_or_not (surface_at rows i) (surface_at rows (i - 1)))) where
  above : 0 < i
  above = elim (cases_lt 0 i) [ inl less ↦ less | inr low ↦ absurd (none (inl (omega (arith, low)))) ]

  same : (surface_at rows i ≡ surface_at rows (i - 1)) ⊎ (surface_at rows i ≢ surface_at rows (i - 1)) → surface_at rows i ≡ surface_at rows (i - 1)
  same (inl e) = e
  same (inr differs) = absurd (none (inr differs))

-- ---- how many cells

surfaces_more : (rows : List Row) (i : ℕ) → i < length rows → take (i + 1) (map surface_of rows) ≡ take i (map surface_of rows) ++ surface_at rows i ∷ []
surfaces_more rows i less =
    take_more (map surface_of rows) i [] (let e = length-map rows surface_of in omega (arith, e, less))
    ∙ ap (λ (s : List ℕ). take i (map surface_of rows) ++ s ∷ []) (get_or-map surface_of rows i no_row [] less)

pub most_rises : (rows : List Row) (i : ℕ) → i < length rows → most_cells_of rows i ≤ most_cells_of rows (i + 1)
most_rises rows i less =
    let rises = sum_once_rises (λ surface. length surface + 600) (take i (map surface_of rows)) (surface_at rows i ∷ []) in
    let e = ap (λ (texts : List (List ℕ)). sum_by (λ surface. length surface + 600) (each_once texts)) (surfaces_more rows i less) in
    omega (arith, rises, e)

pub most_started : (rows : List Row) → IsSortedByKey surface_of (slice_cmp nat_cmp) rows → (i : ℕ) → i < length rows → StartsGroup rows i
    → most_cells_of rows (i + 1) ≡ most_cells_of rows i + (length (surface_at rows i) + 600)
most_started rows sorted i less begins =
    let before : List (List ℕ) = take i (map surface_of rows) in
    let e = ap (λ (texts : List (List ℕ)). sum_by (λ surface. length surface + 600) (each_once texts)) (surfaces_more rows i less) in
    let sum = sum_once_more (λ surface. length surface + 600) before (surface_at rows i) in
    let absent : list_any (bytes_eq (surface_at rows i)) before ≡ false = list_any_none (bytes_eq (surface_at rows i)) before (λ k d low. elsewhere k d low) in
    let one = ap (λ (b : Bool). sum_by (λ surface. length surface + 600) (each_once before) + cond b 0 (length (surface_at rows i) + 600)) absent in
    omega (arith, e, sum, one)
  where
    elsewhere : (k : ℕ) (d : List ℕ) → k < length (take i (map surface_of rows)) → bytes_eq (surface_at rows i) (get_or (take i (map surface_of rows)) k d) ≡ false
    elsewhere k d low =
        let t = length-take i (map surface_of rows) in
        let m = length-map rows surface_of in
        let before : k < i = omega (arith, low, t, m, less) in
        let is : get_or (take i (map surface_of rows)) k d ≡ surface_at rows k = get_or-take i (map surface_of rows) k d before ∙ get_or-map surface_of rows k no_row d (omega (arith, before, less)) in
        let texts : List (List ℕ) = take i (map surface_of rows) in
        false_from_ne_true (bytes_eq (surface_at rows i) (get_or texts k d)) (λ e. new_surface rows sorted i k less begins before (sym ((bytes_eq-Decides (surface_at rows i) (get_or texts k d)).0 e ∙ is)))

surfaces_numbered : (n : ℕ) (rows : List Row) → map (λ (e : Lexeme). e.surface) (map lexeme_of (enumerate_from n rows)) ≡ map surface_of rows
surfaces_numbered n [] = refl
surfaces_numbered n (row ∷ rows) = ap (λ (texts : List (List ℕ)). row.surface ∷ texts) (surfaces_numbered (n + 1) rows)

-- those of some entries are no more than those of all
pub most_of_all : (rows : List Row) (i : ℕ) → most_cells_of rows i ≤ most_cells (lexemes_of rows)
most_of_all rows i =
    let rises = sum_once_rises (λ surface. length surface + 600) (take i (map surface_of rows)) (drop i (map surface_of rows)) in
    let whole = ap (λ (texts : List (List ℕ)). sum_by (λ surface. length surface + 600) (each_once texts)) (take-append-drop i (map surface_of rows)) in
    let all = ap (λ (texts : List (List ℕ)). sum_by (λ surface. length surface + 600) (each_once texts)) (surfaces_numbered 0 rows) in
    omega (arith, rises, whole, all)

-- ---- one entry more

pub grouped_started : (rows : List Row) → IsSortedByKey surface_of (slice_cmp nat_cmp) rows → (i : ℕ) (old new : Groups) (surface : List ℕ) → i < length rows → AreGrouped rows i old → StartsGroup rows i
    → surface ≡ surface_at rows i → IsMapWith old.array new.array surface (length old.starts.items) → new.starts.items ≡ old.starts.items ++ i ∷ [] → length new.array ≤ length old.array + length surface + 600
    → AreGrouped rows (i + 1) new
grouped_started rows sorted i old new surface less grouped begins is with starts growth =
    let with_this = subst (λ (s : List ℕ). IsMapWith old.array new.array s (length old.starts.items)) is with in
    record {
      are_groups = subst (AreGroups rows (i + 1)) (sym starts) (group_started rows i old.starts.items grouped.are_groups);
      map = subst (λ (s : List ℕ). MapsGroups rows (i + 1) s new.array) (sym starts) (map_started rows sorted i old.starts.items old.array new.array less grouped.are_groups grouped.map begins with_this);
      most = let m = grouped.most in let e = most_started rows sorted i less begins in let l = ap length is in omega (arith, m, e, growth, l);
    }

pub grouped_on : (rows : List Row) (i : ℕ) (groups : Groups) → i < length rows → AreGrouped rows i groups → (StartsGroup rows i → ⊥) → AreGrouped rows (i + 1) groups
grouped_on rows i groups less grouped none =
    let on = goes_on rows i none in
    record {
      are_groups = group_goes_on rows i groups.starts.items grouped.are_groups on.0 on.1;
      map = map_goes_on rows i groups.starts.items groups.array grouped.map;
      most = let m = grouped.most in let e = most_rises rows i less in omega (arith, m, e);
    }

pub grouped_full : (rows : List Row) → IsSortedByKey surface_of (slice_cmp nat_cmp) rows → (i : ℕ) (groups : Groups) (surface : List ℕ) → i < length rows → AreGrouped rows i groups → StartsGroup rows i
    → surface ≡ surface_at rows i → cells_max < length groups.array + length surface + 600 → cells_max < most_cells (lexemes_of rows)
grouped_full rows sorted i groups surface less grouped begins is full =
    let m = grouped.most in
    let e = most_started rows sorted i less begins in
    let l = ap length is in
    let all = most_of_all rows (i + 1) in
    omega (arith, m, e, l, all, full)

pub key_of_entry : (records : List Record) (i : ℕ) (r : Record) (bytes : List ℕ) → i < length records → bytes ≡ cow_str_bytes (get_or records i r).surface → bytes ≡ surface_at (rows_of records) i
key_of_entry records i r bytes less is = is ∙ sym (surface_is records i r less)

-- before any entry
pub grouped_none : (rows : List Row) (cells : List Cell) → ((key : List ℕ) → value_of cells key ≡ None) → length cells ≤ 600
    → (starts : Vec ℕ Global) → starts.items ≡ [] → AreGrouped rows 0 (record { array = cells; starts = starts })
grouped_none rows cells empty few starts none = record {
  are_groups = subst (AreGroups rows 0) (sym none) (no_groups rows);
  map = subst (λ (s : List ℕ). MapsGroups rows 0 s cells) (sym none) (no_map rows cells empty);
  most = omega (arith, few);
}
