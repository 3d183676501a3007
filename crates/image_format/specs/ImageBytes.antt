-- The bytes of an image: a header, eight sections without gaps, and in layout 3 a SHA-256. Numbers
-- are little-endian. (The layout is this project's own.)
use Rattle.std.specs.Prelude.{ℕ, ◌+◌, ◌*◌, ◌-◌, ℤ, List, take, drop, map, sum, slice_range}
use Rattle.std.specs.Int.{w16, w32, cast_signed}
use Rattle.std.specs.List.{range_with_len}
use Rattle.byteorder.specs.Endian.{little_number}
use Rattle.image_format.specs.declared.header.Header.{Header}
use Rattle.image_format.specs.declared.header.TheConstants.{HEADER_LENGTH, MAGIC}
use Rattle.image_format.specs.DictKinds.{kind_meant, kind_numbered}
use Rattle.image_format.specs.Layouts.{bytes_after_sections}
use Rattle.mj_model.specs.Tables.{Kind}

-- the number in the `n` bytes from offset `at` on; a byte past the end counts as 0
abbrev pub number_at : ℕ → List ℕ → ℕ → ℕ
number_at n bytes at = little_number n (drop at bytes)

-- signed numbers of 2 and of 4 bytes, in two's complement
abbrev pub signed_2_at : List ℕ → ℕ → ℤ
signed_2_at bytes at = cast_signed w16 (number_at 2 bytes at)

abbrev pub signed_4_at : List ℕ → ℕ → ℤ
signed_4_at bytes at = cast_signed w32 (number_at 4 bytes at)

-- the first 8 bytes of every image: `MJDICT`, CR, LF
abbrev pub image_magic : List ℕ
image_magic = MAGIC

abbrev pub header_length : ℕ
header_length = HEADER_LENGTH

-- the header fields: layout; kind; numbers of right and left ids, categories, groups (distinct
-- surfaces), lexicon tokens and unknown tokens; lengths of sections 1 to 8 in bytes
abbrev pub header_of : List ℕ → Header
header_of bytes = record {
  layout = number_at 4 bytes 8;
  kind = kind_numbered (number_at 4 bytes 12);
  sizes = record { right = number_at 4 bytes 16; left = number_at 4 bytes 20 };
  categories = number_at 4 bytes 24;
  groups = number_at 4 bytes 28;
  tokens = number_at 4 bytes 32;
  unknown = number_at 4 bytes 36;
  lengths = map (λ k. number_at 8 bytes (40 + 8 * k)) (range_with_len 0 8);
}

-- the kind in the model; a number that is no kind counts as a system dictionary
abbrev pub kind_of : Header → Kind
kind_of h = kind_meant h.kind

-- the number of all tokens: those of the lexicon and, after them, the unknown tokens
abbrev pub all_tokens : Header → ℕ
all_tokens h = h.tokens + h.unknown

-- the start and end of section `k` as byte offsets, k from 1 to 8
abbrev pub section_start : Header → ℕ → ℕ
section_start h k = header_length + sum (take (k - 1) h.lengths)

abbrev pub section_end : Header → ℕ → ℕ
section_end h k = header_length + sum (take k h.lengths)

-- the bytes of section `k`
abbrev pub section : List ℕ → ℕ → List ℕ
section bytes k = slice_range bytes (section_start (header_of bytes) k) (section_end (header_of bytes) k)

-- the length in bytes that the header requires of the whole image
abbrev pub total_length : Header → ℕ
total_length h = section_end h 8 + bytes_after_sections h.layout
