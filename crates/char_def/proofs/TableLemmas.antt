-- The table of the contents of `char.def`.
use Rattle.std.proofs.Common.{◌≡◌, ℕ, true, false, cond, List, [], ◌∷◌, ◌++◌, map, reverse, refl, sym, ◌∙◌, ap, Option, Some, None, inl, inr}
use Rattle.std.specs.Prelude.{option_map, find, Ok, Err}
use Rattle.std.specs.Option.{option_or, option_map_or}
use Rattle.std.proofs.lemmas.List.{reverse-append, map-append}
use Rattle.mj_model.specs.declared.source_fault.SourceFault.{SourceFault}
use Rattle.mj_model.specs.declared.source_fault.SourceKind.TheVariants.{NoDefault, NoSpace}
use Rattle.mj_model.specs.FirstFault.{IsMemoryOr, fault_or, first_fault}
use Rattle.mj_model.specs.CharDef.{NamedCategory, Mapping, CharSource, CharLine, Nothing, Defines, Maps, Bad, mapped_by, covers, info_of_names, char_line, default_name, space_name, first_bad_line, mapping_fault, unless_defined, whole_fault, source_from, source_unless, char_source_from}
use Rattle.char_def.specs.declared.mapped.MappedRange.{MappedRange}
use Rattle.char_def.specs.declared.overlay.CategoryStep.{CategoryStep}
use Rattle.char_def.specs.Mapped.{RangeCategories, range_categories, range_categories_by, applies_to, last_categories, IsCoverage}
use Rattle.char_def.specs.CharLines.{all_range_categories, first_undefined, numbered_mappings}
use Rattle.char_def.specs.Categories.{default_info, info_or, IsTableOf}

-- ---- the mappings with their line numbers

undefined_by : (categories : List NamedCategory) (number : ℕ) (line : CharLine) (others : List (ℕ × Mapping))
    → first_undefined categories (map (λ (m : Mapping). (number, m)) (mapped_by line) ++ others) ≡ fault_or 1 number (mapping_fault categories line) (first_undefined categories others)
undefined_by categories number Nothing others = refl
undefined_by categories number (Defines category) others = refl
undefined_by categories number (Maps mapping) others = refl
undefined_by categories number (Bad kind) others = refl

undefined_in : (categories : List NamedCategory) (lines : List (ℕ × List ℕ)) → first_undefined categories (numbered_mappings lines) ≡ first_fault 1 (λ line. mapping_fault categories (char_line line)) lines
undefined_in categories [] = refl
undefined_in categories (line ∷ lines) = undefined_by categories line.0 (char_line line.1) (numbered_mappings lines) ∙ ap (fault_or 1 line.0 (mapping_fault categories (char_line line.1))) (undefined_in categories lines)

undefined_before : (categories : List NamedCategory) (mappings : List (ℕ × Mapping)) (lines : List (ℕ × List ℕ)) → mappings ≡ numbered_mappings lines
    → first_fault 1 (λ line. mapping_fault categories (char_line line)) lines ≡ first_undefined categories mappings
undefined_before categories mappings lines kept = sym (ap (first_undefined categories) kept ∙ undefined_in categories lines)

stated_by_line : (categories : List NamedCategory) (number : ℕ) (line : CharLine) (others : List (ℕ × Mapping))
    → all_range_categories categories (map (λ (m : Mapping). (number, m)) (mapped_by line) ++ others) ≡ map (range_categories categories) (mapped_by line) ++ all_range_categories categories others
stated_by_line categories number Nothing others = refl
stated_by_line categories number (Defines category) others = refl
stated_by_line categories number (Maps mapping) others = refl
stated_by_line categories number (Bad kind) others = refl

stated_in : (categories : List NamedCategory) (lines : List (ℕ × List ℕ)) → all_range_categories categories (numbered_mappings lines) ≡ map (range_categories categories) (source_from lines).mappings
stated_in categories [] = refl
stated_in categories (line ∷ lines) = stated_by_line categories line.0 (char_line line.1) (numbered_mappings lines)
    ∙ ap (λ (others : List RangeCategories). map (range_categories categories) (mapped_by (char_line line.1)) ++ others) (stated_in categories lines)
    ∙ sym (map-append (range_categories categories) (mapped_by (char_line line.1)) (source_from lines).mappings)

-- ---- the error of the file

-- there is no error before the names of the mappings are checked
record IsFineBefore (lines : List (ℕ × List ℕ)) (categories : List NamedCategory) : Type 0 where
  lines_fine : first_bad_line [] lines ≡ None
  categories_are : categories ≡ (source_from lines).categories
  default_there : unless_defined categories default_name NoDefault ≡ None
  space_there : unless_defined categories space_name NoSpace ≡ None

fault_of_mappings : (lines : List (ℕ × List ℕ)) (categories : List NamedCategory) → IsFineBefore lines categories
    → option_or (first_bad_line [] lines) (whole_fault (source_from lines).categories lines) ≡ first_fault 1 (λ line. mapping_fault categories (char_line line)) lines
fault_of_mappings lines categories f =
    ap (λ (o : Option SourceFault). option_or o (whole_fault (source_from lines).categories lines)) f.lines_fine
    ∙ ap (λ (cs : List NamedCategory). whole_fault cs lines) (sym f.categories_are)
    ∙ ap (λ (o : Option SourceFault). option_or o (option_or (unless_defined categories space_name NoSpace) (first_fault 1 (λ line. mapping_fault categories (char_line line)) lines))) f.default_there
    ∙ ap (λ (o : Option SourceFault). option_or o (first_fault 1 (λ line. mapping_fault categories (char_line line)) lines)) f.space_there

pub mapping_rejected : (lines : List (ℕ × List ℕ)) (categories : List NamedCategory) (mappings : List (ℕ × Mapping)) (fault : SourceFault) → first_bad_line [] lines ≡ None → categories ≡ (source_from lines).categories
    → unless_defined categories default_name NoDefault ≡ None → unless_defined categories space_name NoSpace ≡ None
    → mappings ≡ numbered_mappings lines → IsMemoryOr fault (first_undefined categories mappings ≡ Some fault) → IsMemoryOr fault (char_source_from lines ≡ Err fault)
mapping_rejected lines categories mappings fault fine are d s kept (inl memory) = inl memory
mapping_rejected lines categories mappings fault fine are d s kept (inr cause) =
    inr (ap (λ (o : Option SourceFault). source_unless o (source_from lines))
    (fault_of_mappings lines categories (record { lines_fine = fine; categories_are = are; default_there = d; space_there = s }) ∙ undefined_before categories mappings lines kept ∙ cause))

-- ---- the categories of a code point

reverse-map : {A B : Type 0} (f : A → B) (xs : List A) → reverse (map f xs) ≡ map f (reverse xs)
reverse-map f [] = refl
reverse-map f (x ∷ xs) =
    reverse-append (f x ∷ []) (map f xs) ∙ ap (λ l. l ++ f x ∷ []) (reverse-map f xs) ∙ sym (map-append f (reverse xs) (x ∷ [])) ∙ ap (map f) (sym (reverse-append (x ∷ []) xs))

find-range_categories : (categories : List NamedCategory) (code : ℕ) (ms : List Mapping) → find (applies_to code) (map (range_categories categories) ms) ≡ option_map (range_categories categories) (find (covers code) ms)
find-range_categories categories code [] = refl
find-range_categories categories code (m ∷ ms) = elim (covers code m) as (λ b. cond b (Some (range_categories categories m)) (find (applies_to code) (map (range_categories categories) ms)) ≡ option_map (range_categories categories) (cond b (Some m) (find (covers code) ms))) [
  | true ↦ refl
  | false ↦ find-range_categories categories code ms
]

info_stated : (categories : List NamedCategory) (found : Option Mapping)
    → info_or (default_info categories) (option_map (λ (s : RangeCategories). s.info) (option_map (range_categories categories) found))
    ≡ option_map_or (λ (m : Mapping). info_of_names categories m.first m.others) found (info_of_names categories default_name [])
info_stated categories None = refl
info_stated categories (Some m) = refl

stated_last : (categories : List NamedCategory) (ms : List Mapping) (code : ℕ)
    → info_or (default_info categories) (last_categories (map (range_categories categories) ms) code)
    ≡ option_map_or (λ (m : Mapping). info_of_names categories m.first m.others) (find (covers code) (reverse ms)) (info_of_names categories default_name [])
stated_last categories ms code =
    ap (λ (l : List RangeCategories). info_or (default_info categories) (option_map (λ (s : RangeCategories). s.info) (find (applies_to code) l))) (reverse-map (range_categories categories) ms)
    ∙ ap (λ (o : Option RangeCategories). info_or (default_info categories) (option_map (λ (s : RangeCategories). s.info) o)) (find-range_categories categories code (reverse ms)) ∙ info_stated categories (find (covers code) (reverse ms))

table_of : (lines : List (ℕ × List ℕ)) (categories : List NamedCategory) (mapped : List MappedRange) (steps : List CategoryStep) → categories ≡ (source_from lines).categories
    → map range_categories_by mapped ≡ map (range_categories categories) (source_from lines).mappings → IsCoverage (map range_categories_by mapped) steps → IsTableOf (source_from lines) (record { categories = categories; steps = steps })
table_of lines categories mapped steps are mappings_are covered = record {
  categories = are;
  infos = λ code. ap (info_or (default_info categories)) (covered.agrees code ∙ ap (λ (l : List RangeCategories). last_categories l code) mappings_are) ∙ stated_last categories (source_from lines).mappings code
      ∙ ap (λ (cs : List NamedCategory). option_map_or (λ (m : Mapping). info_of_names cs m.first m.others) (find (covers code) (reverse (source_from lines).mappings)) (info_of_names cs default_name [])) are;
}

pub table_read : (lines : List (ℕ × List ℕ)) (categories : List NamedCategory) (mappings : List (ℕ × Mapping)) (mapped : List MappedRange) (steps : List CategoryStep) → first_bad_line [] lines ≡ None → categories ≡ (source_from lines).categories
    → unless_defined categories default_name NoDefault ≡ None → unless_defined categories space_name NoSpace ≡ None
    → mappings ≡ numbered_mappings lines → first_undefined categories mappings ≡ None → map range_categories_by mapped ≡ all_range_categories categories mappings → IsCoverage (map range_categories_by mapped) steps
    → (source : CharSource) × (char_source_from lines ≡ Ok source) × IsTableOf source (record { categories = categories; steps = steps })
table_read lines categories mappings mapped steps fine are d s kept named all covered = (
  source_from lines,
  ap (λ (o : Option SourceFault). source_unless o (source_from lines))
      (fault_of_mappings lines categories (record { lines_fine = fine; categories_are = are; default_there = d; space_there = s }) ∙ undefined_before categories mappings lines kept ∙ named),
  table_of lines categories mapped steps are (all ∙ ap (all_range_categories categories) kept ∙ stated_in categories lines) covered,
)
