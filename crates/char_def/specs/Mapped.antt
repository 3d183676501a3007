-- Ranges of code points with their categories, in the order of their lines.
use Rattle.std.specs.Prelude.{◌≡◌, ℕ, ◌&&◌, Bool, nat_le, List, find, reverse, Option, option_map}
use Rattle.mj_model.specs.declared.category.CharInfo.{CharInfo}
use Rattle.mj_model.specs.CharDef.{NamedCategory, Range, Mapping, info_of_names}
use Rattle.char_def.specs.declared.code_range.CodeRange.{CodeRange}
use Rattle.char_def.specs.declared.mapped.MappedRange.{MappedRange}
use Rattle.char_def.specs.declared.overlay.CategoryStep.{CategoryStep}
use Rattle.char_def.specs.Steps.{info_by, AreRising}

-- a range of code points, and its categories in a mapping
pub record RangeCategories : Type 0 where
  pub range : Range
  pub info : CharInfo

abbrev pub range_is : CodeRange → Range
range_is r = record { low = r.low; high = r.high }

abbrev pub range_categories_by : MappedRange → RangeCategories
range_categories_by m = record { range = range_is m.range; info = m.info }

-- the range of a mapping with its categories
abbrev pub range_categories : List NamedCategory → Mapping → RangeCategories
range_categories categories m = record { range = m.range; info = info_of_names categories m.first m.others }

abbrev pub applies_to : ℕ → RangeCategories → Bool
applies_to code s = nat_le s.range.low code && nat_le code s.range.high

-- the categories of a code point in the last range that covers it
abbrev pub last_categories : List RangeCategories → ℕ → Option CharInfo
last_categories list code = option_map (λ (s : RangeCategories). s.info) (find (applies_to code) (reverse list))

-- the steps give each code point the categories of the last range that covers it
pub record IsCoverage (list : List RangeCategories) (steps : List CategoryStep) : Type 0 where
  pub rising : AreRising 0 steps
  pub agrees : (code : ℕ) → info_by steps code ≡ last_categories list code
