-- Hashes of texts. (Fowler, Noll and Vo, FNV-1a of 64 bits)
use Rattle.std.specs.Prelude.{ℕ, ◌*◌, ◌%◌, ◌^◌, List, bit_xor}
use Rattle.std.specs.List.{fold}
use Rattle.image_writer.specs.declared.mark.TheConstants.{FACTOR, NO_BYTES}

-- the hash after one more byte
abbrev pub with_byte : ℕ → ℕ → ℕ
with_byte mark byte = bit_xor mark byte * FACTOR % 2 ^ 64

unfoldable pub mark_of_bytes : List ℕ → ℕ
mark_of_bytes bytes = fold with_byte NO_BYTES bytes
