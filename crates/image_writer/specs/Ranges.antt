-- The bytes of a range.
use Rattle.std.specs.Prelude.{ℕ, ◌+◌, ◌*◌, ◌^◌, List, ◌++◌}
use Rattle.byteorder.specs.Endian.{little_bytes}
use Rattle.mj_model.specs.declared.category.CharInfo.{CharInfo}
use Rattle.char_def.specs.declared.info_range.CategoryRange.{CategoryRange}

-- an entry: the set of categories in its lower 18 bits, the first category above them
abbrev pub entry_of : CharInfo → ℕ
entry_of info = info.bits + 2 ^ 18 * info.head

-- the first code point, and the entry
abbrev pub range_bytes : CategoryRange → List ℕ
range_bytes range = little_bytes 4 range.first ++ little_bytes 4 (entry_of range.info)
