-- Character categories, as `char.def` defines them and assigns them to code points (MeCab).
-- Category lines are `NAME INVOKE GROUP LENGTH`; mapping lines are `0xHEX CAT ..` or `0xLOW..0xHIGH
-- CAT ..`. What MeCab leaves open is this project's own choice.
use Rattle.std.specs.Prelude.{ℕ, ◌+◌, ◌*◌, ◌^◌, Bool, not, ◌==◌, ◌&&◌, nat_lt, nat_le, if◌then◌else◌, List, [], ◌∷◌, ◌++◌, length, drop, map, fold, flat_map, find, reverse, take_while, Option, Some, None, option_and_then, option_map, Result, Ok, Err, bit_or, bytes_eq, codes, ◌<◌, ◌≤◌, IsUtf8}
use Rattle.std.specs.Char.{is_ascii_hexdigit, digit_value}
use Rattle.std.specs.Int.{IsBitSet}
use Rattle.std.specs.List.{list_any, list_all, starts_with, before_first, after_first, position_or_len}
use Rattle.std.specs.Option.{option_or, option_map_or}
use Rattle.std.specs.Str.{is_utf8}
use Rattle.mj_model.specs.declared.category.Category.{Category}
use Rattle.mj_model.specs.declared.category.CharInfo.{CharInfo}
use Rattle.mj_model.specs.declared.limits.TheConstants.{CATEGORIES_MAX, CATEGORY_LENGTH_MAX, CATEGORY_NAME_MAX, CODE_POINT_MAX}
use Rattle.mj_model.specs.declared.source_fault.TheConstants.{CHAR_FILE}
use Rattle.mj_model.specs.declared.source_fault.SourceFault.{SourceFault}
use Rattle.mj_model.specs.declared.source_fault.SourceKind.{SourceKind}
use Rattle.mj_model.specs.declared.source_fault.SourceKind.TheVariants.{BadLine, BadRange, Twice, TooManyCategories, UndefinedCategory, NoDefault, NoSpace}
use Rattle.mj_model.specs.Bytes.{hash, full_stop}
use Rattle.mj_model.specs.Lines.{numbered_lines}
use Rattle.mj_model.specs.Numbers.{natural_in}
use Rattle.mj_model.specs.Connection.{words_of}
use Rattle.mj_model.specs.FirstFault.{fault_or, first_fault}

-- a category with its name
pub record NamedCategory : Type 0 where
  pub name : List ℕ
  pub category : Category

-- the code points from `low` to `high`, both included
pub record Range : Type 0 where
  pub low : ℕ
  pub high : ℕ

-- a mapping: the code points of a range, the category listed first, and the others
pub record Mapping : Type 0 where
  pub range : Range
  pub first : List ℕ
  pub others : List (List ℕ)

-- the contents of `char.def`: its categories and its mappings, in the order of their lines
pub record CharSource : Type 0 where
  pub categories : List NamedCategory
  pub mappings : List Mapping

-- the contents of a line: nothing, a category, a mapping, or an error
pub data CharLine : Type 0 where
  Nothing : CharLine
  Defines : NamedCategory → CharLine
  Maps : Mapping → CharLine
  Bad : SourceKind → CharLine

-- a word that starts a comment
abbrev pub starts_comment : List ℕ → Bool
starts_comment word = starts_with (λ a b. a == b) word (hash ∷ [])

-- the words of a line before its comment
abbrev pub words_before_comment : List ℕ → List (List ℕ)
words_before_comment line = take_while (λ word. not (starts_comment word)) (words_of line)

-- a valid name of a category: UTF-8 of at most `CATEGORY_NAME_MAX` bytes
abbrev pub is_name : List ℕ → Bool
is_name word = nat_le (length word) CATEGORY_NAME_MAX && is_utf8 word

-- INVOKE or GROUP: 0 or 1
abbrev pub flag : List ℕ → Option Bool
flag word = option_map (λ n. n == 1) (natural_in 1 word)

-- LENGTH: a number up to `CATEGORY_LENGTH_MAX`
abbrev pub category_length : List ℕ → Option ℕ
category_length word = natural_in CATEGORY_LENGTH_MAX word

-- the category with INVOKE, GROUP and LENGTH, if all three are valid
abbrev pub category_of : List ℕ → List ℕ → List ℕ → Option Category
category_of invoke group len =
    option_and_then (λ invokes. option_and_then (λ groups. option_map (λ n.
    record { invoke = invokes; group = groups; length = n })
    (category_length len)) (flag group)) (flag invoke)

abbrev pub category_named : List ℕ → Category → NamedCategory
category_named name category = record { name = name; category = category }

-- the category of a category line; words after the fourth are ignored
abbrev pub category_from : List (List ℕ) → Option NamedCategory
category_from (name ∷ invoke ∷ group ∷ len ∷ more) = if is_name name then option_map (category_named name) (category_of invoke group len) else None
category_from [] = None
category_from (name ∷ []) = None
category_from (name ∷ invoke ∷ []) = None
category_from (name ∷ invoke ∷ group ∷ []) = None

-- the prefix `0x`
abbrev pub hex_prefix : List ℕ
hex_prefix = codes "0x"

abbrev pub starts_with_hex : List ℕ → Bool
starts_with_hex word = starts_with (λ a b. a == b) word hex_prefix

-- the value of hexadecimal digits, in either case
abbrev pub hex_value : List ℕ → ℕ
hex_value digits = fold (λ value c. 16 * value + digit_value c) 0 digits

-- the value of one or more hexadecimal digits
abbrev pub hex_digits : List ℕ → Option ℕ
hex_digits digits = if nat_lt 0 (length digits) && list_all is_ascii_hexdigit digits then Some (hex_value digits) else None

-- the value of `0xHEX`
abbrev pub hexadecimal : List ℕ → Option ℕ
hexadecimal text = if starts_with_hex text then hex_digits (drop (length hex_prefix) text) else None

-- the greatest code point
abbrev pub code_point_max : ℕ
code_point_max = CODE_POINT_MAX

-- the range from `low` to `high`, if it is a range within Unicode
abbrev pub range_from : ℕ → ℕ → Option Range
range_from low high = if nat_le low high && nat_le high code_point_max then Some (record { low = low; high = high }) else None

abbrev pub is_full_stop : ℕ → Bool
is_full_stop c = c == full_stop

-- the high end of a range, which follows the second full stop
abbrev pub high_end : List ℕ → Option ℕ
high_end [] = None
high_end (c ∷ text) = if is_full_stop c then hexadecimal text else None

-- the range that `0xHEX` or `0xLOW..0xHIGH` denotes
abbrev pub range_of : List ℕ → Option Range
range_of word =
    if list_any is_full_stop word
    then option_and_then (λ low. option_and_then (range_from low) (high_end (after_first is_full_stop word))) (hexadecimal (before_first is_full_stop word))
    else option_and_then (λ c. range_from c c) (hexadecimal word)

abbrev pub mapping_or : Option Range → List ℕ → List (List ℕ) → CharLine
mapping_or None first others = Bad BadRange
mapping_or (Some range) first others = Maps (record { range = range; first = first; others = others })

-- the contents of a mapping line: a range, and one or more names
abbrev pub mapping_line : List ℕ → List (List ℕ) → CharLine
mapping_line range [] = Bad BadLine
mapping_line range (first ∷ others) = if list_all is_name (first ∷ others) then mapping_or (range_of range) first others else Bad BadLine

abbrev pub category_or : Option NamedCategory → CharLine
category_or None = Bad BadLine
category_or (Some category) = Defines category

-- the contents of a line with these words
abbrev pub line_from : List (List ℕ) → CharLine
line_from [] = Nothing
line_from (word ∷ words) = if starts_with_hex word then mapping_line word words else category_or (category_from (word ∷ words))

-- the contents of a line, apart from all other lines
abbrev pub char_line : List ℕ → CharLine
char_line line = line_from (words_before_comment line)

-- the category has this name
abbrev pub is_named : List ℕ → NamedCategory → Bool
is_named name category = bytes_eq category.name name

-- one of the categories has this name
abbrev pub is_defined : List NamedCategory → List ℕ → Bool
is_defined categories name = list_any (is_named name) categories

-- the number of the category of this name, counted from 0
abbrev pub category_number : List NamedCategory → List ℕ → ℕ
category_number categories name = position_or_len (is_named name) categories

-- the category that a line defines, if any
abbrev pub defined_by : CharLine → List NamedCategory
defined_by Nothing = []
defined_by (Defines category) = category ∷ []
defined_by (Maps mapping) = []
defined_by (Bad kind) = []

abbrev pub mapped_by : CharLine → List Mapping
mapped_by Nothing = []
mapped_by (Defines category) = []
mapped_by (Maps mapping) = mapping ∷ []
mapped_by (Bad kind) = []

-- the error of a line, if the categories `before` are defined before it
abbrev pub line_fault : List NamedCategory → CharLine → Option SourceKind
line_fault before Nothing = None
line_fault before (Defines category) =
    if is_defined before category.name
    then Some Twice
    else if nat_lt (length before) CATEGORIES_MAX then None else Some TooManyCategories
line_fault before (Maps mapping) = None
line_fault before (Bad kind) = Some kind

-- the error of a mapping, if `categories` are all categories
abbrev pub mapping_fault : List NamedCategory → CharLine → Option SourceKind
mapping_fault categories Nothing = None
mapping_fault categories (Defines category) = None
mapping_fault categories (Maps mapping) = if list_all (is_defined categories) (mapping.first ∷ mapping.others) then None else Some UndefinedCategory
mapping_fault categories (Bad kind) = None

-- the first error of the numbered lines, if the categories `before` are defined before them
abbrev pub first_bad_line : List NamedCategory → List (ℕ × List ℕ) → Option SourceFault
first_bad_line before [] = None
first_bad_line before (line ∷ lines) =
    fault_or CHAR_FILE line.0 (line_fault before (char_line line.1)) (first_bad_line (before ++ defined_by (char_line line.1)) lines)

-- the names of the categories that every `char.def` defines
abbrev pub default_name : List ℕ
default_name = codes "DEFAULT"

abbrev pub space_name : List ℕ
space_name = codes "SPACE"

-- the error of an undefined category, which belongs to the file as a whole
abbrev pub unless_defined : List NamedCategory → List ℕ → SourceKind → Option SourceFault
unless_defined categories name kind = if is_defined categories name then None else Some (record { file = CHAR_FILE; line = 0; kind = kind })

-- the contents of the lines, valid or not
abbrev pub source_from : List (ℕ × List ℕ) → CharSource
source_from lines = record {
  categories = flat_map (λ line. defined_by (char_line line.1)) lines;
  mappings = flat_map (λ line. mapped_by (char_line line.1)) lines;
}

-- the first error that all lines have together, if `categories` are all categories
abbrev pub whole_fault : List NamedCategory → List (ℕ × List ℕ) → Option SourceFault
whole_fault categories lines =
    option_or (unless_defined categories default_name NoDefault)
    (option_or (unless_defined categories space_name NoSpace)
    (first_fault CHAR_FILE (λ line. mapping_fault categories (char_line line)) lines))

abbrev pub source_unless : Option SourceFault → CharSource → Result CharSource SourceFault
source_unless (Some fault) source = Err fault
source_unless None source = Ok source

abbrev pub char_source_from : List (ℕ × List ℕ) → Result CharSource SourceFault
char_source_from lines = source_unless (option_or (first_bad_line [] lines) (whole_fault (source_from lines).categories lines)) (source_from lines)

-- the contents of the bytes of `char.def`, or their first error
abbrev pub char_source : List ℕ → Result CharSource SourceFault
char_source bytes = char_source_from (numbered_lines bytes)

-- the set of the categories of these names: bit i stands for category i
abbrev pub category_bits : List NamedCategory → List (List ℕ) → ℕ
category_bits categories names = fold (λ bits name. bit_or bits (2 ^ category_number categories name)) 0 names

-- the categories of these names, with the one listed first
abbrev pub info_of_names : List NamedCategory → List ℕ → List (List ℕ) → CharInfo
info_of_names categories first others = record { bits = category_bits categories (first ∷ others); head = category_number categories first }

abbrev pub covers : ℕ → Mapping → Bool
covers code mapping = nat_le mapping.range.low code && nat_le code mapping.range.high

-- the categories of a code point: those of the last mapping that covers it, or DEFAULT alone
abbrev pub char_info : CharSource → ℕ → CharInfo
char_info source code =
    option_map_or (λ (mapping : Mapping). info_of_names source.categories mapping.first mapping.others)
    (find (covers code) (reverse source.mappings)) (info_of_names source.categories default_name [])

-- the categories without their names
abbrev pub categories_of : CharSource → List Category
categories_of source = map (λ (c : NamedCategory). c.category) source.categories

-- ---- limits of an image

-- a category that an image may hold
pub record IsStorable (c : NamedCategory) : Type 0 where
  pub length_within : c.category.length ≤ CATEGORY_LENGTH_MAX
  pub name_some : 1 ≤ length c.name
  pub name_short : length c.name ≤ CATEGORY_NAME_MAX
  pub name_is_text : IsUtf8 c.name

-- of this many categories, the first one is in the set, and the set has no others
pub record IsInfoOf (categories : ℕ) (info : CharInfo) : Type 0 where
  pub first_below : info.head < categories
  pub first_in_set : IsBitSet info.bits info.head
  pub set_below : info.bits < 2 ^ categories
