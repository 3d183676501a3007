-- The results of the readers of `char.def` and `unk.def`.
use Rattle.std.specs.Prelude.{◌≡◌, ◌⊎◌, ℕ, ◌≤◌, ◌++◌, true, false, List, [], ◌∷◌, Option, Some, None, Result, Ok, slice_set, slice_index_or, MatchOption, MatchResult}
use Rattle.std.specs.Borrow.{Bor}
use Rattle.std.specs.List.{list_all}
use Rattle.mj_model.specs.declared.category.CharInfo.{CharInfo}
use Rattle.mj_model.specs.declared.source_fault.SourceFault.{SourceFault}
use Rattle.mj_model.specs.declared.source_fault.SourceKind.{SourceKind}
use Rattle.mj_model.specs.declared.source_fault.SourceKind.TheVariants.{Memory}
use Rattle.mj_model.specs.declared.source_fault.TheConstants.{UNK_FILE}
use Rattle.mj_model.specs.CharDef.{CharLine, NamedCategory, CharSource, char_source, info_of_names, is_defined, is_name, line_fault, range_from, range_of, unless_defined}
use Rattle.mj_model.specs.Lexicon.{Reading, ReadsAs, Row}
use Rattle.mj_model.specs.UnkDef.{rows_by_category, unk_outcome}
use Rattle.lex_source.specs.Steps.{IsRejectedLine}
use Rattle.char_def.specs.declared.code_range.CodeRange.{CodeRange}
use Rattle.char_def.specs.declared.overlay.CategoryStep.{CategoryStep}
use Rattle.char_def.specs.Categories.{CharCategories, IsTableOf}
use Rattle.char_def.specs.Definitions.{HasNumber}
use Rattle.char_def.specs.Mapped.{range_is}
use Rattle.char_def.specs.Steps.{AreRising}

-- ---- `char.def`

-- the table has the contents of the bytes of a `char.def`
abbrev pub IsTableIn : List ℕ → CharCategories → Type 0
IsTableIn bytes table = (source : CharSource) × (char_source bytes ≡ Ok source) × IsTableOf source table

-- the number of the category with this name, if it is defined
abbrev pub IsNumberOf : List NamedCategory → List ℕ → Option ℕ → Type 0
IsNumberOf categories name found = MatchOption found (is_defined categories name ≡ false) (HasNumber categories name)

-- the set of only the category with this name, or an error of this kind if it is not defined
abbrev pub IsInfoResult : List NamedCategory → List ℕ → SourceKind → Result CharInfo SourceFault → Type 0
IsInfoResult categories name kind outcome =
    MatchResult outcome (λ info. (unless_defined categories name kind ≡ None) × (info ≡ info_of_names categories name []))
    (λ fault. unless_defined categories name kind ≡ Some fault)

-- the set of the categories with these names, if all are defined
abbrev pub IsInfoOfNames : List NamedCategory → List ℕ → List (List ℕ) → Option CharInfo → Type 0
IsInfoOfNames categories first others found =
    MatchOption found (list_all (is_defined categories) (first ∷ others) ≡ false)
    (λ info. (list_all (is_defined categories) (first ∷ others) ≡ true) × (info ≡ info_of_names categories first others))

-- the error of a line if the categories `before` are defined before it, or a failed allocation
abbrev pub IsDefinitionError : List NamedCategory → CharLine → SourceKind → Type 0
IsDefinitionError before line kind = (kind ≡ Memory) ⊎ (line_fault before line ≡ Some kind)

-- the word, if it is a valid name
abbrev pub IsNameIn : List ℕ → Option (Bor (List ℕ)) → Type 0
IsNameIn word found = MatchOption found (is_name word ≡ false) (λ name. (is_name word ≡ true) × (name.now ≡ word))

-- the range that a word denotes, if there is one
abbrev pub IsRangeResult : Option CodeRange → List ℕ → Type 0
IsRangeResult found word = MatchOption found (range_of word ≡ None) (λ range. range_of word ≡ Some (range_is range))

abbrev pub IsRangeFromResult : Option CodeRange → ℕ → ℕ → Type 0
IsRangeFromResult found low high = MatchOption found (range_from low high ≡ None) (λ range. range_from low high ≡ Some (range_is range))

-- the start of the first step of two lists, if there is a step
abbrev pub IsFirstOf : List CategoryStep → List CategoryStep → Option ℕ → Type 0
IsFirstOf lower upper found =
    MatchOption found ((lower ≡ []) × (upper ≡ []))
    (λ first. (from : ℕ) → AreRising from lower → AreRising from upper → (from ≤ first) × AreRising first lower × AreRising first upper)

-- ---- `unk.def`

-- the rows of each category in the bytes of an `unk.def`
abbrev pub AreListsIn : List NamedCategory → List ℕ → List (List Row) → Type 0
AreListsIn categories bytes lists =
    (reading : Reading) × ReadsAs (unk_outcome categories) UNK_FILE 0 bytes (Ok reading) × (lists ≡ rows_by_category categories reading.rows)

-- the error of a line after `held` entries, or a failed allocation
abbrev pub IsUnkError : List NamedCategory → ℕ → List ℕ → ℕ → SourceKind → Type 0
IsUnkError categories number line held kind = (kind ≡ Memory) ⊎ IsRejectedLine (unk_outcome categories) number line held kind

-- lists with one more row of a category
abbrev pub with_row : List (List Row) → ℕ → Row → List (List Row)
with_row lists category row = slice_set lists category (slice_index_or lists category [] ++ row ∷ [])
