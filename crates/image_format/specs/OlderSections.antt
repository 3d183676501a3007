-- The meaning of sections 3 and 5 in older layouts.
use Rattle.std.specs.Prelude.{◌≡◌, ℕ, zero, suc, ◌+◌, ◌*◌, ◌<◌, ◌≤◌, if◌then◌else◌, nat_lt, find, List, drop, length, slice_range, bytes_eq, IsUtf8, Option}
use Rattle.std.specs.Cmp.Lexicographic.{slice_cmp}
use Rattle.std.specs.List.{range_with_len}
use Rattle.std.specs.declared.cmp.Ordering.TheVariants.{Less}
use Rattle.std.specs.Ordering.{nat_cmp}
use Rattle.mj_model.specs.CharDef.{IsInfoOf}
use Rattle.mj_model.specs.declared.category.CharInfo.{CharInfo}
use Rattle.image_format.specs.declared.layout.TheConstants.{OWN_ENTRIES}
use Rattle.image_format.specs.ImageBytes.{number_at}
use Rattle.image_format.specs.ImageSections.{info_of_entry}

-- ---- section 3 of layouts 1 and 2

-- the number of entries: one for each code point up to U+FFFE
abbrev pub own_entries : ℕ
own_entries = OWN_ENTRIES

-- the number of a code point's entry; code points from U+FFFF on have the entry of U+0000
abbrev pub entry_number : ℕ → ℕ
entry_number code = if nat_lt code own_entries then code else 0

abbrev pub entry_at : List ℕ → ℕ → CharInfo
entry_at entries i = info_of_entry (number_at 4 entries (4 * i))

-- the categories of a code point
abbrev pub listed_info : List ℕ → ℕ → CharInfo
listed_info entries code = entry_at entries (entry_number code)

-- the section consists of an entry of 4 bytes for each code point up to U+FFFE
abbrev pub AreFilled : List ℕ → Type 0
AreFilled entries = length entries ≡ 4 * own_entries

-- each entry has only categories below the number of categories
abbrev pub AreEntriesOf : ℕ → List ℕ → Type 0
AreEntriesOf categories entries = (i : ℕ) → i < own_entries → IsInfoOf categories (entry_at entries i)

-- a well-formed section 3 for so many categories
pub record AreEntries (categories : ℕ) (entries : List ℕ) : Type 0 where
  pub fill : AreFilled entries
  pub infos : AreEntriesOf categories entries

-- ---- section 5 of layout 1: the surfaces in rising byte order, each after its length in 2 bytes

abbrev pub first_key_length : List ℕ → ℕ
first_key_length keys = number_at 2 keys 0

-- the key at the start of the bytes, and the bytes that follow it
abbrev pub first_key_in : List ℕ → List ℕ
first_key_in keys = slice_range keys 2 (2 + first_key_length keys)

abbrev pub after_key : List ℕ → List ℕ
after_key keys = drop (2 + first_key_length keys) keys

-- the bytes from key `i` on
abbrev pub keys_from : ℕ → List ℕ → List ℕ
keys_from zero keys = keys
keys_from (suc i) keys = after_key (keys_from i keys)

-- key `i`
abbrev pub listed_key : List ℕ → ℕ → List ℕ
listed_key keys i = first_key_in (keys_from i keys)

-- the bytes start with a key after its length; the key has at least 1 byte, and is UTF-8
pub record StartWithKey (keys : List ℕ) : Type 0 where
  pub within : 2 + first_key_length keys ≤ length keys
  pub some : 1 ≤ first_key_length keys
  pub is_text : IsUtf8 (first_key_in keys)

-- key `i` lies within the section, and is greater than the key before it
pub record IsListedKey (keys : List ℕ) (i : ℕ) : Type 0 where
  pub here : StartWithKey (keys_from i keys)
  pub above : (j : ℕ) → i ≡ suc j → slice_cmp nat_cmp (listed_key keys j) (listed_key keys i) ≡ Less

-- the number of a key among the first `groups` keys, if it is one of them
abbrev pub listed_number : ℕ → List ℕ → List ℕ → Option ℕ
listed_number groups keys key = find (λ i. bytes_eq (listed_key keys i) key) (range_with_len 0 groups)
