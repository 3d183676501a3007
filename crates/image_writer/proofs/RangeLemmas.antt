-- Ranges that were written are read back.
use Rattle.std.proofs.Common.{◌≡◌, ℕ, suc, ◌+◌, ◌*◌, ◌/◌, ◌%◌, ◌^◌, ◌<◌, ◌≤◌, Bool, true, false, List, [], ◌∷◌, ◌++◌, append_assoc, length, drop, refl, sym, ap, ◌∙◌, subst, arith}
use Rattle.std.specs.Prelude.{map, flat_map, reverse, find, nat_le}
use Rattle.std.specs.Option.{option_map_or}
use Rattle.std.proofs.Math.Pow.{pow_mono}
use Rattle.std.proofs.lemmas.List.{drop_at, drop-drop, ext_get_or, get_or-map, length-append, length-map, map-append, reverse-append}
use Rattle.std.proofs.lemmas.List.FromFn.{length-map-range_with_len, get_or-map-range_with_len}
use Rattle.byteorder.specs.Endian.{little_bytes, little_number}
use Rattle.byteorder.specs.Numbers.{length-bytes_low_first}
use Rattle.mj_model.specs.declared.category.CharInfo.{CharInfo}
use Rattle.mj_model.specs.CharDef.{IsInfoOf, code_point_max}
use Rattle.char_def.specs.declared.info_range.CategoryRange.{CategoryRange}
use Rattle.char_def.specs.Categories.{CharCategories, IsCategoryTable}
use Rattle.char_def.specs.InfoRanges.{AreRangesOf, no_range, range_by}
use Rattle.image_format.specs.ImageBytes.{number_at}
use Rattle.image_format.specs.ImageSections.{StoredRange, info_of_entry, no_info, range_at, stored_ranges}
use Rattle.image_format.proofs.ItemLemmas.{item_at, items_length}
use Rattle.image_format.proofs.NumberLemmas.{number_back}
use Rattle.image_writer.specs.Ranges.{entry_of, range_bytes}
use Rattle.image_writer.specs.StoredTables.{HoldRangesOf}

-- a range as it is stored
abbrev stored : CategoryRange → StoredRange
stored range = record { first = range.first; info = range.info }

-- its numbers fit the bits that they have
record FitsBits (range : CategoryRange) : Type 0 where
  first : range.first < 2 ^ 32
  bits : range.info.bits < 2 ^ 18
  head : range.info.head < 2 ^ 8

eight_bytes : (range : CategoryRange) → length (range_bytes range) ≡ 8
eight_bytes range =
    let a = length-bytes_low_first 0 4 range.first in
    let b = length-bytes_low_first 0 4 (entry_of range.info) in
    length-append (little_bytes 4 range.first) (little_bytes 4 (entry_of range.info)) ∙ omega (arith, a, b)

entry_back : (info : CharInfo) → info.bits < 2 ^ 18 → info_of_entry (entry_of info) ≡ info
entry_back info few =
    let bits : entry_of info % 2 ^ 18 ≡ info.bits = omega (arith, few) in
    let head : entry_of info / 2 ^ 18 ≡ info.head = omega (arith, few) in
    λ i. record { bits = bits i; head = head i }

-- ---- the categories of a code point

reversed_stored : (ranges : List CategoryRange) → reverse (map stored ranges) ≡ map stored (reverse ranges)
reversed_stored [] = refl
reversed_stored (r ∷ ranges) =
    reverse-append (stored r ∷ []) (map stored ranges)
    ∙ ap (λ (rs : List StoredRange). rs ++ stored r ∷ []) (reversed_stored ranges)
    ∙ sym (map-append stored (reverse ranges) (r ∷ []))
    ∙ ap (map stored) (sym (reverse-append (r ∷ []) ranges))

found_stored : (code : ℕ) (ranges : List CategoryRange)
    → option_map_or (λ (r : StoredRange). r.info) (find (λ (r : StoredRange). nat_le r.first code) (map stored ranges)) no_info
    ≡ option_map_or (λ (r : CategoryRange). r.info) (find (λ (r : CategoryRange). nat_le r.first code) ranges) no_range.info
found_stored code [] = refl
found_stored code (r ∷ ranges) = by (nat_le r.first code) refl (found_stored code ranges)
  where
    by : (b : Bool) → nat_le r.first code ≡ b
        → option_map_or (λ (r : StoredRange). r.info) (find (λ (r : StoredRange). nat_le r.first code) (map stored ranges)) no_info
        ≡ option_map_or (λ (r : CategoryRange). r.info) (find (λ (r : CategoryRange). nat_le r.first code) ranges) no_range.info
        → option_map_or (λ (r : StoredRange). r.info) (find (λ (r : StoredRange). nat_le r.first code) (map stored (r ∷ ranges))) no_info
        ≡ option_map_or (λ (r : CategoryRange). r.info) (find (λ (r : CategoryRange). nat_le r.first code) (r ∷ ranges)) no_range.info
    by true is rest = rw is refl
    by false is rest = rw is rest

-- ---- all ranges

module _ (t : CharCategories) (ranges : List CategoryRange) (formed : IsCategoryTable t) (are : AreRangesOf t ranges) where
  info_is : (i : ℕ) → i < length ranges → IsInfoOf (length t.categories) (range_by ranges i).info
  info_is i less = subst (IsInfoOf (length t.categories)) (sym (are.starts i less)) (formed.infos (range_by ranges i).first)

  fits : (i : ℕ) → i < length ranges → FitsBits (range_by ranges i)
  fits i less =
      let within = are.within i less in
      let info = info_is i less in
      let few = formed.few in
      let most : 2 ^ length t.categories ≤ 2 ^ 18 = pow_mono few in
      let bits = info.set_below in
      let head = info.first_below in
      record { first = omega (arith, within); bits = omega (arith, most, bits); head = omega (arith, few, head) }

  pub few_bits : (i : ℕ) → i < length ranges → (range_by ranges i).info.bits < 2 ^ 18
  few_bits i less = (fits i less).bits

  module _ (bytes : List ℕ) (is : bytes ≡ flat_map range_bytes ranges) where
    long : length bytes ≡ 8 * length ranges
    long = ap length is ∙ items_length range_bytes 8 eight_bytes ranges

    range_back : (i : ℕ) → i < length ranges → range_at bytes i ≡ stored (range_by ranges i)
    range_back i less =
        let range = range_by ranges i in
        let entry = entry_of range.info in
        let rest : List ℕ = little_bytes 4 entry ++ flat_map range_bytes (drop (suc i) ranges) in
        let fit = fits i less in
        let following : drop (8 * i) bytes ≡ little_bytes 4 range.first ++ rest =
        ap (drop (8 * i)) is ∙ item_at range_bytes 8 eight_bytes ranges i no_range less
        ∙ append_assoc (little_bytes 4 range.first) (little_bytes 4 entry) (flat_map range_bytes (drop (suc i) ranges)) in
        let first : number_at 4 bytes (8 * i) ≡ range.first = ap (little_number 4) following ∙ number_back 4 range.first rest fit.first in
        let second : number_at 4 bytes (8 * i + 4) ≡ entry =
        ap (little_number 4) (sym (drop-drop 4 (8 * i) bytes) ∙ ap (drop 4) following ∙ drop_at (little_bytes 4 range.first) rest 4 (length-bytes_low_first 0 4 range.first))
        ∙ number_back 4 entry (flat_map range_bytes (drop (suc i) ranges)) (let bits = fit.bits in let head = fit.head in omega (arith, bits, head)) in
        λ j. record { first = first j; info = (ap info_of_entry second ∙ entry_back range.info fit.bits) j }

    count : length bytes / 8 ≡ length ranges
    count = let l = long in omega (arith, l)

    ranges_back : stored_ranges bytes ≡ map stored ranges
    ranges_back =
        let n = count in
        let m = length-map ranges stored in
        let l = length-map-range_with_len (range_at bytes) 0 (length bytes / 8) in
        ext_get_or (stored no_range) (stored_ranges bytes) (map stored ranges) (omega (arith, l, n, m))
        (λ i less.
        let low : i < length ranges = omega (arith, less, l, n) in
        get_or-map-range_with_len (range_at bytes) 0 (length bytes / 8) i i (stored no_range) (omega (arith, low, n)) (omega (arith))
        ∙ range_back i low ∙ sym (get_or-map stored ranges i no_range (stored no_range) low))

    -- a fact about each range holds for the stored ranges
    each : (P : StoredRange → Type 0) → ((i : ℕ) → i < length ranges → P (stored (range_by ranges i))) → (i : ℕ) → i < length bytes / 8 → P (range_at bytes i)
    each P holds i less = let n = count in let low : i < length ranges = omega (arith, n, less) in subst P (sym (range_back i low)) (holds i low)

    pub ranges_held : HoldRangesOf t bytes
    ranges_held = record {
      formed = record {
        whole = let l = long in omega (arith, l);
        some = let l = long in let s = are.some in omega (arith, l, s);
        from_zero = ap (λ (r : StoredRange). r.first) (range_back 0 are.some) ∙ are.from_zero;
        rising = λ i less.
            let n = count in
            let a = ap (λ (r : StoredRange). r.first) (range_back i (omega (arith, n, less))) in
            let b = ap (λ (r : StoredRange). r.first) (range_back (suc i) (omega (arith, n, less))) in
            let r = are.rising i (omega (arith, n, less)) in
            omega (arith, a, b, r);
        within = each (λ r. r.first ≤ code_point_max) are.within;
        infos = each (λ r. IsInfoOf (length t.categories) r.info) info_is;
      };
      changing = λ i less same.
          let n = count in
          let a = ap (λ (r : StoredRange). r.info) (range_back i (omega (arith, n, less))) in
          let b = ap (λ (r : StoredRange). r.info) (range_back (suc i) (omega (arith, n, less))) in
          are.changing i (omega (arith, n, less)) (sym a ∙ same ∙ b);
      infos = λ code low.
          ap (λ (rs : List StoredRange). option_map_or (λ (r : StoredRange). r.info) (find (λ (r : StoredRange). nat_le r.first code) (reverse rs)) no_info) ranges_back
          ∙ ap (λ (rs : List StoredRange). option_map_or (λ (r : StoredRange). r.info) (find (λ (r : StoredRange). nat_le r.first code) rs) no_info) (reversed_stored ranges)
          ∙ found_stored code (reverse ranges) ∙ are.infos code low;
    }
