-- Numbers of an image are read back at the offset of their writing, and do not change when more
-- bytes are appended.
use Rattle.std.proofs.Common.{◌≡◌, ℕ, ◌+◌, ◌-◌, ◌^◌, ◌<◌, ◌≤◌, List, ◌++◌, length, drop, take, ap, ◌∙◌, refl, arith}
use Rattle.std.specs.Prelude.{slice_range}
use Rattle.std.proofs.lemmas.List.{drop-append-le, drop_at, length-drop, take-append-le, take_all}
use Rattle.std.proofs.Math.Seq.{drop-append-add}
use Rattle.byteorder.specs.Endian.{little_bytes, little_number}
use Rattle.byteorder.specs.Numbers.{little_from-append, little_number-reads_back}
use Rattle.image_format.specs.ImageBytes.{number_at}

-- appending bytes does not change a number
pub number_kept : (n at : ℕ) (bytes more : List ℕ) → at + n ≤ length bytes → number_at n (bytes ++ more) at ≡ number_at n bytes at
number_kept n at bytes more within =
    ap (little_number n) (drop-append-le at bytes more (omega (arith, within)))
    ∙ little_from-append n (drop at bytes) more (let e = length-drop at bytes in omega (arith, e, within))

-- a number in appended bytes
pub number_after : (n k : ℕ) (bytes more : List ℕ) (at : ℕ) → at ≡ length bytes + k → number_at n (bytes ++ more) at ≡ number_at n more k
number_after n k bytes more at place =
    ap (number_at n (bytes ++ more)) place ∙ ap (little_number n) (drop-append-add bytes more k)

-- a number that is read is the one that was written
pub number_back : (n x : ℕ) (rest : List ℕ) → x < 256 ^ n → little_number n (little_bytes n x ++ rest) ≡ x
number_back n x rest fits = little_number-reads_back n x rest fits

pub range_kept : (bytes more : List ℕ) (a b : ℕ) → a ≤ b → b ≤ length bytes → slice_range (bytes ++ more) a b ≡ slice_range bytes a b
range_kept bytes more a b order within =
    ap (take (b - a)) (drop-append-le a bytes more (omega (arith, order, within)))
    ∙ take-append-le (b - a) (drop a bytes) more (let e = length-drop a bytes in omega (arith, e, order, within))

-- an appended text is read back
pub range_after : (bytes text : List ℕ) → slice_range (bytes ++ text) (length bytes) (length bytes + length text) ≡ text
range_after bytes text =
    ap (take (length bytes + length text - length bytes)) (drop_at bytes text (length bytes) refl)
    ∙ take_all (length bytes + length text - length bytes) text (omega arith)
