-- An image can hold the contents of an accepted `char.def`: its categories, and the categories of
-- each code point.
use Rattle.std.proofs.Common.{◌≡◌, ℕ, ◌^◌, ◌<◌, ◌≤◌, max, ℤ, pos, negsuc, nat_abs, int_le, Bool, true, false, cond, ◌&&◌, List, [], ◌∷◌, length, flat_map, fold, find, reverse, bit_or, nat_le, nat_lt, sym, refl, ◌∙◌, arith, subst, zero, suc, ◌+◌, not, get_or, ap}
use Rattle.std.specs.Prelude.{Option, Some, None, Ok, IfSome, All, option_and_then, option_map, Result, Err}
use Rattle.std.specs.Int.{bit_at}
use Rattle.std.specs.List.{AllByRecursion, list_all, slice_split, position_or_len}
use Rattle.std.specs.Option.{option_or, option_map_or}
use Rattle.std.specs.Str.{is_utf8}
use Rattle.std.proofs.lemmas.Bool.{and_parts, leb-true, ltb-true}
use Rattle.std.proofs.lemmas.List.Elements.{All-append, All-cons, All-nil, All-take, filter_passes, recursion_from_All}
use Rattle.std.proofs.lemmas.Nat.{bit_set_by_shift, or_lt, pow_below}
use Rattle.std.proofs.lemmas.Nat.Bits.{bit_at-lt, bit_at-pow_same, bit_at_or, shr_and_one}
use Rattle.std.proofs.lemmas.Str.{IsUtf8-from_is_utf8}
use Rattle.mj_model.specs.declared.source_fault.SourceKind.TheVariants.{NoDefault, NoSpace, UndefinedCategory, BadLine}
use Rattle.mj_model.specs.declared.category.Category.{Category}
use Rattle.mj_model.specs.declared.category.CharInfo.{CharInfo}
use Rattle.mj_model.specs.declared.limits.TheConstants.{CATEGORIES_MAX}
use Rattle.mj_model.specs.Bytes.{is_blank}
use Rattle.mj_model.specs.CharDef.{IsInfoOf, IsStorable, NamedCategory, CharSource, Mapping, Range, CharLine, Nothing, Defines, Maps, Bad, starts_with_hex, words_before_comment, char_line, line_from, mapping_line, mapping_or, range_of, category_or, category_from, category_of, category_length, flag, category_named, is_name, defined_by, mapped_by, is_defined, category_number, category_bits, mapping_fault, default_name, space_name, unless_defined, source_from, whole_fault, char_source, first_bad_line, info_of_names, covers, char_info, is_named, source_unless}
use Rattle.mj_model.specs.Connection.{words_of}
use Rattle.mj_model.specs.FirstFault.{first_fault, fault_or}
use Rattle.mj_model.specs.Lines.{numbered_lines}
use Rattle.mj_model.specs.Numbers.{number}
use Rattle.char_def.specs.Categories.{CharCategories, IsCategoryTable, IsTableOf, table_info}
use Rattle.std.proofs.lemmas.List.{reverse-append}
use Rattle.std.proofs.lemmas.List.Folds.{Any-from_list_any}
use Rattle.mj_model.specs.declared.source_fault.SourceFault.{SourceFault}
use Rattle.mj_model.specs.declared.source_fault.SourceKind.{SourceKind}
use Rattle.mj_model.proofs.Basics.{all_append}

-- ---- defined categories have numbers

below_by : (p : NamedCategory → Bool) (c : NamedCategory) (cs : List NamedCategory) (k : ℕ) (x : NamedCategory) (b : Bool) → p c ≡ b → (get_or (c ∷ cs) k x ≡ x) → p x ≡ true
    → ((j : ℕ) → k ≡ suc j → position_or_len p cs < length cs) → cond (not b) (1 + position_or_len p cs) 0 < suc (length cs)
below_by p c cs k x true e at passes rest = omega arith
below_by p c cs zero x false e at passes rest = absurd (let h = ap p at in cc)
below_by p c cs (suc k) x false e at passes rest = let h = rest k refl in omega (arith, h)

below_position : (p : NamedCategory → Bool) (cs : List NamedCategory) (k : ℕ) (x : NamedCategory) → k < length cs → get_or cs k x ≡ x → p x ≡ true → position_or_len p cs < length cs
below_position p [] k x less at passes = absurd (omega arith)
below_position p (c ∷ cs) zero x less at passes = below_by p c cs zero x (p c) refl at passes (λ j e. absurd (omega (arith, e)))
below_position p (c ∷ cs) (suc k) x less at passes = below_by p c cs (suc k) x (p c) refl at passes (λ j e. below_position p cs k x (omega arith) at passes)

pub number_within : (cs : List NamedCategory) (name : List ℕ) → is_defined cs name ≡ true → category_number cs name < length cs
number_within cs name h =
    let a = Any-from_list_any (is_named name) cs h in
    below_position (is_named name) cs a.0 a.1 a.2 a.3 a.4

-- ---- there is no error

defined_by_none : (cs : List NamedCategory) (name : List ℕ) (kind : SourceKind) (b : Bool) → is_defined cs name ≡ b → cond b None (Some (let f : SourceFault = record { file = 1; line = 0; kind = kind } in f)) ≡ None → is_defined cs name ≡ true
defined_by_none cs name kind true e h = e
defined_by_none cs name kind false e h = absurd (cc)

no_fault : (line : ℕ) (kind : Option SourceKind) (others : Option SourceFault) → fault_or 1 line kind others ≡ None → (kind ≡ None) × (others ≡ None)
no_fault line None others h = (refl, h)
no_fault line (Some kind) others h = absurd (cc)

no_or : (a b : Option SourceFault) → option_or a b ≡ None → (a ≡ None) × (b ≡ None)
no_or None b h = (refl, h)
no_or (Some fault) b h = absurd (cc)

abbrev source_or : CharSource → Result CharSource SourceFault → CharSource
source_or s (Ok source) = source
source_or s (Err fault) = s

accepted_by : (fault : Option SourceFault) (read source : CharSource) → source_unless fault read ≡ Ok source → (fault ≡ None) × (read ≡ source)
accepted_by None read source h = (refl, ap (source_or read) h)
accepted_by (Some fault) read source h = absurd (cc)

-- ---- the category of a category line

within_by : (high : ℕ) (z : ℤ) (b : Bool) → (int_le (pos 0) z && int_le z (pos high)) ≡ b → IfSome (option_map nat_abs (cond b (Some z) None)) (λ n. n ≤ high)
within_by high (pos n) true e = leb-true n high (and_parts (int_le (pos 0) (pos n)) (int_le (pos n) (pos high)) e).1
within_by high (negsuc n) true e = absurd (cc)
within_by high z false e = tt

found_within : (high : ℕ) (found : Option ℤ) → IfSome (option_map nat_abs (option_and_then (λ z. cond (int_le (pos 0) z && int_le z (pos high)) (Some z) None) found)) (λ n. n ≤ high)
found_within high None = tt
found_within high (Some z) = within_by high z (int_le (pos 0) z && int_le z (pos high)) refl

length_within : (len : List ℕ) → IfSome (category_length len) (λ n. n ≤ 15)
length_within len = found_within 15 (number len)

storable_one : (name : List ℕ) (category : Category) → nat_lt 0 (length name) ≡ true → is_name name ≡ true → category.length ≤ 15 → IsStorable (category_named name category)
storable_one name category some is low =
    let p = and_parts (nat_le (length name) 255) (is_utf8 name) is in
    record { length_within = low; name_some = ltb-true 0 (length name) some; name_short = leb-true (length name) 255 p.0; name_is_text = IsUtf8-from_is_utf8 name p.1 }

storable_of : (name : List ℕ) (invoke group : Option Bool) (len : Option ℕ) → nat_lt 0 (length name) ≡ true → is_name name ≡ true → IfSome len (λ n. n ≤ 15)
    → IfSome (option_map (category_named name) (option_and_then (λ invokes. option_and_then (λ groups. option_map (λ n. let c : Category = record { invoke = invokes; group = groups; length = n } in c) len) group) invoke)) IsStorable
storable_of name None group len some is low = tt
storable_of name (Some i) None len some is low = tt
storable_of name (Some i) (Some g) None some is low = tt
storable_of name (Some i) (Some g) (Some n) some is low = storable_one name (record { invoke = i; group = g; length = n }) some is low

storable_by : (name invoke group len : List ℕ) (b : Bool) → nat_lt 0 (length name) ≡ true → is_name name ≡ b → IfSome (cond b (option_map (category_named name) (category_of invoke group len)) None) IsStorable
storable_by name invoke group len true some is = storable_of name (flag invoke) (flag group) (category_length len) some is (length_within len)
storable_by name invoke group len false some is = tt

abbrev AreWords : List (List ℕ) → Type 0
AreWords words = AllByRecursion (λ word. nat_lt 0 (length word) ≡ true) words

from_words : (words : List (List ℕ)) → AreWords words → IfSome (category_from words) IsStorable
from_words [] some = tt
from_words (name ∷ []) some = tt
from_words (name ∷ invoke ∷ []) some = tt
from_words (name ∷ invoke ∷ group ∷ []) some = tt
from_words (name ∷ invoke ∷ group ∷ len ∷ more) some = storable_by name invoke group len (is_name name) some.0 refl

-- ---- the category of a line

defined_or : (found : Option NamedCategory) → IfSome found IsStorable → All IsStorable (defined_by (category_or found))
defined_or None h = All-nil IsStorable
defined_or (Some c) h = All-cons IsStorable c [] h (All-nil IsStorable)

none_or : (range : Option Range) (first : List ℕ) (others : List (List ℕ)) → All IsStorable (defined_by (mapping_or range first others))
none_or None first others = All-nil IsStorable
none_or (Some range) first others = All-nil IsStorable

none_by : (range : Option Range) (first : List ℕ) (others : List (List ℕ)) (b : Bool) → All IsStorable (defined_by (cond b (mapping_or range first others) (Bad BadLine)))
none_by range first others true = none_or range first others
none_by range first others false = All-nil IsStorable

none_of_mapping : (range : List ℕ) (names : List (List ℕ)) → All IsStorable (defined_by (mapping_line range names))
none_of_mapping range [] = All-nil IsStorable
none_of_mapping range (first ∷ others) = none_by (range_of range) first others (list_all is_name (first ∷ others))

line_by : (word : List ℕ) (words : List (List ℕ)) (b : Bool) → AreWords (word ∷ words) → All IsStorable (defined_by (cond b (mapping_line word words) (category_or (category_from (word ∷ words)))))
line_by word words true some = none_of_mapping word words
line_by word words false some = defined_or (category_from (word ∷ words)) (from_words (word ∷ words) some)

line_defines : (words : List (List ℕ)) → AreWords words → All IsStorable (defined_by (line_from words))
line_defines [] some = All-nil IsStorable
line_defines (word ∷ words) some = line_by word words (starts_with_hex word) some

words_some : (line : List ℕ) → AreWords (words_before_comment line)
words_some line =
    let P : List ℕ → Type 0 = λ word. nat_lt 0 (length word) ≡ true in
    recursion_from_All P (words_before_comment line)
    (All-take P _ (words_of line) (filter_passes (λ word. nat_lt 0 (length word)) (slice_split is_blank line)))

lines_define : (lines : List (ℕ × List ℕ)) → All IsStorable (source_from lines).categories
lines_define [] = All-nil IsStorable
lines_define (line ∷ lines) =
    All-append IsStorable (defined_by (char_line line.1)) (source_from lines).categories
    (line_defines (words_before_comment line.1) (words_some line.1)) (lines_define lines)

-- an image can hold the categories of an accepted `char.def`
pub storable : (bytes : List ℕ) (source : CharSource) → char_source bytes ≡ Ok source → All IsStorable source.categories
storable bytes source h =
    let lines = numbered_lines bytes in
    let ok = accepted_by (option_or (first_bad_line [] lines) (whole_fault (source_from lines).categories lines)) (source_from lines) source h in
    subst (λ (s : CharSource). All IsStorable s.categories) ok.1 (lines_define lines)

-- ---- the sets of categories

abbrev AreDefined : List NamedCategory → List (List ℕ) → Type 0
AreDefined cs names = AllByRecursion (λ name. is_defined cs name ≡ true) names

names_defined : (cs : List NamedCategory) (names : List (List ℕ)) → list_all (is_defined cs) names ≡ true → AreDefined cs names
names_defined cs [] h = tt
names_defined cs (name ∷ names) h = let p = and_parts (is_defined cs name) (list_all (is_defined cs) names) h in (p.0, names_defined cs names p.1)

abbrev bits_with : List NamedCategory → ℕ → List ℕ → ℕ
bits_with cs bits name = bit_or bits (2 ^ category_number cs name)

bits_below : (cs : List NamedCategory) (names : List (List ℕ)) (bits : ℕ) → bits < 2 ^ length cs → AreDefined cs names → fold (bits_with cs) bits names < 2 ^ length cs
bits_below cs [] bits low defined = low
bits_below cs (name ∷ names) bits low defined =
    bits_below cs names (bits_with cs bits name)
    (or_lt (length cs) bits (2 ^ category_number cs name) low (pow_below (category_number cs name) (length cs) (number_within cs name defined.0))) defined.1

greater_one : (x y : ℕ) → x ≡ 1 → y < 2 → max x y ≡ 1
greater_one x y e low = omega (arith, e)

bit_kept : (cs : List NamedCategory) (names : List (List ℕ)) (bits k : ℕ) → bit_at bits k ≡ 1 → bit_at (fold (bits_with cs) bits names) k ≡ 1
bit_kept cs [] bits k set = set
bit_kept cs (name ∷ names) bits k set =
    let bit = 2 ^ category_number cs name in
    bit_kept cs names (bit_or bits bit) k (bit_at_or bits bit k ∙ greater_one (bit_at bits k) (bit_at bit k) set (bit_at-lt bit k))

info_fits : (cs : List NamedCategory) (first : List ℕ) (others : List (List ℕ)) → AreDefined cs (first ∷ others) → IsInfoOf (length cs) (info_of_names cs first others)
info_fits cs first others defined =
    let k = category_number cs first in
    let below = number_within cs first defined.0 in
    record {
      first_below = below;
      first_in_set = (bit_set_by_shift (category_bits cs (first ∷ others)) k).0
          (shr_and_one (category_bits cs (first ∷ others)) k ∙ bit_kept cs others (2 ^ k) k (bit_at-pow_same k));
      set_below = bits_below cs others (2 ^ k) (pow_below k (length cs) below) defined.1;
    }

-- ---- the mappings of accepted lines

all_reversed : (P : Mapping → Type 0) (xs : List Mapping) → AllByRecursion P xs → AllByRecursion P (reverse xs)
all_reversed P [] h = tt
all_reversed P (x ∷ xs) h = subst (AllByRecursion P) (sym (reverse-append (x ∷ []) xs)) (all_append P (reverse xs) (x ∷ []) (all_reversed P xs h.1) (h.0, tt))

abbrev HasDefined : List NamedCategory → Mapping → Type 0
HasDefined cs m = AreDefined cs (m.first ∷ m.others)

mapping_by : (cs : List NamedCategory) (m : Mapping) (b : Bool) → list_all (is_defined cs) (m.first ∷ m.others) ≡ b → cond b None (Some UndefinedCategory) ≡ None → HasDefined cs m
mapping_by cs m true e h = names_defined cs (m.first ∷ m.others) e
mapping_by cs m false e h = absurd (cc)

line_maps : (cs : List NamedCategory) (line : CharLine) → mapping_fault cs line ≡ None → AllByRecursion (HasDefined cs) (mapped_by line)
line_maps cs Nothing h = tt
line_maps cs (Defines category) h = tt
line_maps cs (Maps m) h = (mapping_by cs m (list_all (is_defined cs) (m.first ∷ m.others)) refl h, tt)
line_maps cs (Bad kind) h = tt

lines_map : (cs : List NamedCategory) (lines : List (ℕ × List ℕ)) → first_fault 1 (λ line. mapping_fault cs (char_line line)) lines ≡ None
    → AllByRecursion (HasDefined cs) (flat_map (λ line. mapped_by (char_line line.1)) lines)
lines_map cs [] h = tt
lines_map cs (line ∷ lines) h =
    let n = no_fault line.0 (mapping_fault cs (char_line line.1)) (first_fault 1 (λ l. mapping_fault cs (char_line l)) lines) h in
    all_append (HasDefined cs) (mapped_by (char_line line.1)) (flat_map (λ l. mapped_by (char_line l.1)) lines)
    (line_maps cs (char_line line.1) n.0) (lines_map cs lines n.1)

-- ---- the categories of a code point

abbrev found_info : List NamedCategory → Option Mapping → CharInfo
found_info cs found = option_map_or (λ (m : Mapping). info_of_names cs m.first m.others) found (info_of_names cs default_name [])

found_by : (cs : List NamedCategory) (m : Mapping) (found : Option Mapping) (b : Bool) → HasDefined cs m → IsInfoOf (length cs) (found_info cs found) → IsInfoOf (length cs) (found_info cs (cond b (Some m) found))
found_by cs m found true defined rest = info_fits cs m.first m.others defined
found_by cs m found false defined rest = rest

found_fits : (cs : List NamedCategory) (code : ℕ) (ms : List Mapping) → is_defined cs default_name ≡ true → AllByRecursion (HasDefined cs) ms → IsInfoOf (length cs) (found_info cs (find (covers code) ms))
found_fits cs code [] default all = info_fits cs default_name [] (default, tt)
found_fits cs code (m ∷ ms) default all = found_by cs m (find (covers code) ms) (covers code m) all.0 (found_fits cs code ms default all.1)

infos_of_lines : (lines : List (ℕ × List ℕ)) (code : ℕ) → whole_fault (source_from lines).categories lines ≡ None → IsInfoOf (length (source_from lines).categories) (char_info (source_from lines) code)
infos_of_lines lines code h =
    let cs = (source_from lines).categories in
    let ones = first_fault 1 (λ line. mapping_fault cs (char_line line)) lines in
    let a = no_or (unless_defined cs default_name NoDefault) (option_or (unless_defined cs space_name NoSpace) ones) h in
    let b = no_or (unless_defined cs space_name NoSpace) ones a.1 in
    found_fits cs code (reverse (source_from lines).mappings) (defined_by_none cs default_name NoDefault (is_defined cs default_name) refl a.0)
    (all_reversed (HasDefined cs) (source_from lines).mappings (lines_map cs lines b.1))

-- an image can hold the categories that an accepted `char.def` gives to a code point
pub infos_fit : (bytes : List ℕ) (source : CharSource) → char_source bytes ≡ Ok source → (code : ℕ) → IsInfoOf (length source.categories) (char_info source code)
infos_fit bytes source h code =
    let lines = numbered_lines bytes in
    let ok = accepted_by (option_or (first_bad_line [] lines) (whole_fault (source_from lines).categories lines)) (source_from lines) source h in
    let none = no_or (first_bad_line [] lines) (whole_fault (source_from lines).categories lines) ok.0 in
    subst (λ (s : CharSource). IsInfoOf (length s.categories) (char_info s code)) ok.1 (infos_of_lines lines code none.1)

-- ---- the table of an accepted `char.def`

pub table_storable : (bytes : List ℕ) (source : CharSource) (table : CharCategories) → char_source bytes ≡ Ok source → IsTableOf source table → All IsStorable table.categories
table_storable bytes source table h is = subst (All IsStorable) (sym is.categories) (storable bytes source h)

pub table_infos_fit : (bytes : List ℕ) (source : CharSource) (table : CharCategories) → char_source bytes ≡ Ok source → IsTableOf source table
    → (code : ℕ) → IsInfoOf (length table.categories) (table_info table code)
table_infos_fit bytes source table h is code =
    subst (λ (i : CharInfo). IsInfoOf (length table.categories) i) (sym (is.infos code))
    (subst (λ (cs : List NamedCategory). IsInfoOf (length cs) (char_info source code)) (sym is.categories) (infos_fit bytes source h code))

-- the invariants of the table
pub table_formed : (bytes : List ℕ) (source : CharSource) (table : CharCategories) → char_source bytes ≡ Ok source → IsTableOf source table → length table.categories ≤ CATEGORIES_MAX → IsCategoryTable table
table_formed bytes source table h is few =
    let infos = table_infos_fit bytes source table h is in
    let low = (infos 0).first_below in
    record { some = omega (arith, low); few = few; storable = table_storable bytes source table h is; infos = infos }
