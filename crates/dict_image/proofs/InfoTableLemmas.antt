-- The table of the basic plane is filled range by range.
use Rattle.std.proofs.Common.{◌≡◌, ℕ, suc, ◌+◌, ◌*◌, ◌<◌, ◌≤◌, Bool, true, false, cond, List, length, inl, inr, min, slice_index, sym, ap, arith, subst}
use Rattle.std.proofs.lemmas.Bool.{cases_lt, lt-ltb}
use Rattle.mj_model.specs.Tables.{System}
use Rattle.image_format.specs.declared.header.Header.{Header}
use Rattle.image_format.specs.ImageBytes.{header_of, kind_of, number_at, section}
use Rattle.image_format.specs.ImageSections.{range_at, range_count}
use Rattle.image_format.specs.Layouts.{info_form}
use Rattle.dict_image.specs.declared.info_table.InfoTable.{InfoTable}
use Rattle.dict_image.specs.Validation.Outlines.{IsImage}
use Rattle.dict_image.specs.Infos.{AreReadable}
use Rattle.dict_image.specs.InfoTables.{AreFirstEntries, IsEntryOf, IsInfoTable, basic_plane, plane_start}
use Rattle.dict_image.specs.Ranges.{AreInOrder, IsLastUpTo}
use Rattle.dict_image.proofs.InfoLemmas.{readable_infos}
use Rattle.dict_image.proofs.RangeLemmas.{info_of_last}

-- ---- the start of a range in the plane

start_within : (ranges : List ℕ) (i : ℕ) → i < range_count ranges → plane_start ranges i ≡ min (range_at ranges i).first basic_plane
start_within ranges i within = ap (λ (b : Bool). cond b (min (range_at ranges i).first basic_plane) basic_plane) (lt-ltb i (range_count ranges) within)

no_more : (b : Bool) (first : ℕ) → cond b (min first basic_plane) basic_plane ≤ basic_plane
no_more true first = omega arith
no_more false first = omega arith

start_in_plane : (ranges : List ℕ) (i : ℕ) → plane_start ranges i ≤ basic_plane
start_in_plane ranges i = no_more _ (range_at ranges i).first

-- ---- a range more

-- a code point of the plane from the start to the end of a range belongs to the range
of_range : (ranges : List ℕ) (code i : ℕ) → i < range_count ranges → plane_start ranges i ≤ code → code < plane_start ranges (i + 1) → IsLastUpTo ranges code i
of_range ranges code i within from before =
    let most = start_in_plane ranges (i + 1) in
    let start = start_within ranges i within in
    record {
      within = within;
      started = omega (arith, from, before, most, start);
      next = λ more.
          let e : suc i ≡ i + 1 = omega arith in
          let following = start_within ranges (i + 1) (omega (arith, more)) in
          let same = ap (λ (k : ℕ). (range_at ranges k).first) e in
          omega (arith, before, following, same);
    }

-- a range's entry is that of its code points
entry_of : (ranges : List ℕ) (code i : ℕ) → AreInOrder ranges → IsLastUpTo ranges code i → IsEntryOf ranges code (number_at 4 ranges (8 * i + 4))
entry_of ranges code i order is = record { info = sym (info_of_last ranges code i order is); short = order.short i is.within }

pub range_more : (ranges : List ℕ) (i : ℕ) (old new : List ℕ) → AreInOrder ranges → i < range_count ranges → AreFirstEntries ranges (plane_start ranges i) old
    → length new ≡ plane_start ranges (i + 1)
    → ((code : ℕ) → code < plane_start ranges (i + 1) → code < length old → slice_index new code ≡ slice_index old code)
    → ((code : ℕ) → length old ≤ code → code < plane_start ranges (i + 1) → slice_index new code ≡ number_at 4 ranges (8 * i + 4))
    → AreFirstEntries ranges (plane_start ranges (i + 1)) new
range_more ranges i old new order within are many kept filled =
    let old_many = are.many in
    record {
      many = many;
      each = λ code before. elim (cases_lt code (length old)) [
        | inl earlier ↦ subst (IsEntryOf ranges code) (sym (kept code before earlier)) (are.each code (omega (arith, earlier, old_many)))
        | inr later ↦ subst (IsEntryOf ranges code) (sym (filled code later before)) (entry_of ranges code i order (of_range ranges code i within (omega (arith, later, old_many)) before))
      ];
    }

-- ---- the table of an image

pub readable_in : (bytes : List ℕ) (h : Header) (infos : List ℕ) → h ≡ header_of bytes → infos ≡ section bytes 3 → IsImage bytes → kind_of h ≡ System → AreReadable (info_form h.layout) infos
readable_in bytes h infos same there w =
    subst (λ (xs : List ℕ). kind_of h ≡ System → AreReadable (info_form h.layout) xs) (sym there)
    (subst (λ (g : Header). kind_of g ≡ System → AreReadable (info_form g.layout) (section bytes 3)) (sym same) (readable_infos bytes w))

pub table_in : (bytes : List ℕ) (h : Header) (infos : List ℕ) (table : InfoTable) → h ≡ header_of bytes → infos ≡ section bytes 3 → IsInfoTable (kind_of h) (info_form h.layout) infos table
    → IsInfoTable (kind_of (header_of bytes)) (info_form (header_of bytes).layout) (section bytes 3) table
table_in bytes h infos table same there is =
    subst (λ (g : Header). IsInfoTable (kind_of g) (info_form g.layout) (section bytes 3) table) same
    (subst (λ (xs : List ℕ). IsInfoTable (kind_of h) (info_form h.layout) xs table) there is)
