-- The last range that starts at or before a code point.
use Rattle.std.proofs.Common.{◌≡◌, ℕ, zero, suc, ◌+◌, ◌-◌, ◌<◌, ◌≤◌, Bool, true, false, cond, leb, List, [], ◌∷◌, ◌++◌, map, reverse, length, Option, Some, ap, ◌∙◌, arith}
use Rattle.std.specs.List.{find, range_with_len}
use Rattle.std.specs.Option.{option_map_or}
use Rattle.std.proofs.lemmas.Bool.{le-leb, lt-leb}
use Rattle.std.proofs.lemmas.List.{reverse-append}
use Rattle.std.proofs.lemmas.Nat.{le-div}
use Rattle.std.proofs.lemmas.List.FromFn.{map-range_with_len_more}
use Rattle.image_format.specs.ImageSections.{AreRanges, StoredRange, range_at, stored_info, no_info}
use Rattle.dict_image.specs.Ranges.{AreInOrder, IsLastUpTo}
use Rattle.image_format.specs.ImageSections.{range_count}

-- a later range starts no earlier
begins_after : (ranges : List ℕ) (i n : ℕ) → AreInOrder ranges → i + n < range_count ranges → (range_at ranges i).first ≤ (range_at ranges (i + n)).first
begins_after ranges i zero order within =
    let e : i + 0 ≡ i = omega arith in
    let same = ap (λ (k : ℕ). (range_at ranges k).first) e in
    omega (arith, same)
begins_after ranges i (suc n) order within =
    let e : suc (i + n) ≡ i + suc n = omega arith in
    let before = begins_after ranges i n order (omega (arith, within)) in
    let step = order.rising (i + n) (omega (arith, within)) in
    let same = ap (λ (k : ℕ). (range_at ranges k).first) e in
    omega (arith, before, step, same)

-- among the ranges up to a number after it, it is the last one that starts at or before the code
-- point
found_below : (ranges : List ℕ) (code i n : ℕ) → AreInOrder ranges → IsLastUpTo ranges code i → i + suc n ≤ range_count ranges
    → find (λ (range : StoredRange). leb range.first code) (reverse (map (range_at ranges) (range_with_len 0 (i + suc n)))) ≡ Some (range_at ranges i)
found_below ranges code i zero order is within =
    let e : i + suc 0 ≡ i + 1 = omega arith in
    let all : map (range_at ranges) (range_with_len 0 (i + suc 0)) ≡ map (range_at ranges) (range_with_len 0 i) ++ range_at ranges i ∷ [] =
    ap (λ (k : ℕ). map (range_at ranges) (range_with_len 0 k)) e ∙ map-range_with_len_more (range_at ranges) 0 i i (omega arith) in
    let started : leb (range_at ranges i).first code ≡ true = le-leb (range_at ranges i).first code is.started in
    let rest = find (λ (range : StoredRange). leb range.first code) (reverse (map (range_at ranges) (range_with_len 0 i))) in
    ap (λ (rs : List StoredRange). find (λ (range : StoredRange). leb range.first code) (reverse rs)) all
    ∙ ap (find (λ (range : StoredRange). leb range.first code)) (reverse-append (map (range_at ranges) (range_with_len 0 i)) (range_at ranges i ∷ []))
    ∙ ap (λ (b : Bool). cond b (Some (range_at ranges i)) rest) started
found_below ranges code i (suc n) order is within =
    let last = i + suc n in
    let e : i + suc (suc n) ≡ last + 1 = omega arith in
    let all : map (range_at ranges) (range_with_len 0 (i + suc (suc n))) ≡ map (range_at ranges) (range_with_len 0 last) ++ range_at ranges last ∷ [] =
    ap (λ (k : ℕ). map (range_at ranges) (range_with_len 0 k)) e ∙ map-range_with_len_more (range_at ranges) 0 last last (omega arith) in
    let later : code < (range_at ranges last).first =
    let f : suc i + n ≡ last = omega arith in
    let next = is.next (omega (arith, within)) in
    let rises = begins_after ranges (suc i) n order (omega (arith, within)) in
    let same = ap (λ (k : ℕ). (range_at ranges k).first) f in
    omega (arith, next, rises, same) in
    let not_started : leb (range_at ranges last).first code ≡ false = lt-leb (range_at ranges last).first code later in
    let rest = find (λ (range : StoredRange). leb range.first code) (reverse (map (range_at ranges) (range_with_len 0 last))) in
    ap (λ (rs : List StoredRange). find (λ (range : StoredRange). leb range.first code) (reverse rs)) all
    ∙ ap (find (λ (range : StoredRange). leb range.first code)) (reverse-append (map (range_at ranges) (range_with_len 0 last)) (range_at ranges last ∷ []))
    ∙ ap (λ (b : Bool). cond b (Some (range_at ranges last)) rest) not_started
    ∙ found_below ranges code i n order is (omega (arith, within))

-- the categories of a code point are those of that range
pub info_of_last : (ranges : List ℕ) (code i : ℕ) → AreInOrder ranges → IsLastUpTo ranges code i → stored_info ranges code ≡ (range_at ranges i).info
info_of_last ranges code i order is =
    let w = is.within in
    let e : range_count ranges ≡ i + suc (range_count ranges - suc i) = omega (arith, w) in
    ap (λ (k : ℕ). option_map_or (λ (range : StoredRange). range.info) (find (λ (range : StoredRange). leb range.first code) (reverse (map (range_at ranges) (range_with_len 0 k)))) no_info) e
    ∙ ap (λ (found : Option StoredRange). option_map_or (λ (range : StoredRange). range.info) found no_info) (found_below ranges code i (range_count ranges - suc i) order is (omega (arith, w)))

-- ranges of so many categories are in order
pub in_order : (categories : ℕ) (ranges : List ℕ) → categories ≤ 256 → AreRanges categories ranges → AreInOrder ranges
in_order categories ranges few are =
    let some = are.some in
    record {
      some = le-div 1 (length ranges) 8 (omega arith) (omega (arith, some));
      from_zero = are.from_zero;
      rising = are.rising;
      short = λ i less. let f = (are.infos i less).first_below in omega (arith, f, few);
    }
