-- The contents of a line of `char.def` as it was read, and the mappings of all lines.
use Rattle.std.specs.Prelude.{ℕ, List, [], ◌∷◌, map, flat_map, Option, None}
use Rattle.mj_model.specs.declared.source_fault.SourceFault.{SourceFault}
use Rattle.mj_model.specs.declared.source_fault.TheConstants.{CHAR_FILE}
use Rattle.mj_model.specs.CharDef.{NamedCategory, Mapping, CharLine, Nothing, Defines, Maps, char_line, mapped_by, mapping_fault}
use Rattle.mj_model.specs.FirstFault.{fault_or}
use Rattle.char_def.specs.declared.char_lines.NumberedMapping.{NumberedMapping}
use Rattle.char_def.specs.declared.line.CharLine.{CharLine as LineRead}
use Rattle.char_def.specs.declared.line.CharLine.TheVariants as read
use Rattle.char_def.specs.declared.line.CategoryLine.{CategoryLine}
use Rattle.char_def.specs.declared.line.MappingLine.{MappingLine}
use Rattle.char_def.specs.Mapped.{RangeCategories, range_categories, range_is}

-- the contents of a category line
abbrev pub category_is : CategoryLine → NamedCategory
category_is line = record { name = line.name.now; category = line.category }

-- the contents of a mapping line
abbrev pub mapping_is : MappingLine → Mapping
mapping_is line = record { range = range_is line.range; first = line.first.now; others = line.others }

-- the contents of a line
abbrev pub line_is : LineRead → CharLine
line_is read.Nothing = Nothing
line_is (read.Category category) = Defines (category_is category)
line_is (read.Mapping mapping) = Maps (mapping_is mapping)

-- ---- mappings with their line numbers

abbrev pub mappings_are : List NumberedMapping → List (ℕ × Mapping)
mappings_are = map (λ (m : NumberedMapping). (m.number, mapping_is m.mapping))

-- the mapping of a numbered line, if it has one
abbrev pub mapped_in : (ℕ × List ℕ) → List (ℕ × Mapping)
mapped_in line = map (λ (m : Mapping). (line.0, m)) (mapped_by (char_line line.1))

-- the mappings of numbered lines
abbrev pub numbered_mappings : List (ℕ × List ℕ) → List (ℕ × Mapping)
numbered_mappings lines = flat_map mapped_in lines

-- the error of the first mapping with an undefined category
abbrev pub first_undefined : List NamedCategory → List (ℕ × Mapping) → Option SourceFault
first_undefined categories [] = None
first_undefined categories (mapping ∷ mappings) = fault_or CHAR_FILE mapping.0 (mapping_fault categories (Maps mapping.1)) (first_undefined categories mappings)

-- the ranges of the mappings with their categories
abbrev pub all_range_categories : List NamedCategory → List (ℕ × Mapping) → List RangeCategories
all_range_categories categories mappings = map (λ (m : ℕ × Mapping). range_categories categories m.1) mappings
