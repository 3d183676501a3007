-- Numbers of the source files: an optional sign, one or more decimal digits, then blanks and tabs
-- that are ignored (this project's own choice). Leading zeros are allowed. The value decides the
-- range: `-0` and `+1` are ids.
use Rattle.std.specs.Prelude.{ℕ, ◌+◌, ◌-◌, ◌*◌, ℤ, pos, neg_ℤ, int_le, ◌==◌, ◌&&◌, nat_lt, if◌then◌else◌, List, [], ◌∷◌, length, take, fold, Option, Some, None, option_map, option_and_then, nat_abs}
use Rattle.std.specs.List.{suffix_len}
use Rattle.std.specs.Str.{all_ascii_digits}
use Rattle.mj_model.specs.Bytes.{is_blank, plus, minus}

-- the text without the blanks and tabs at its end
abbrev pub without_trailing_blanks : List ℕ → List ℕ
without_trailing_blanks text = take (length text - suffix_len is_blank text) text

-- the value of decimal digits
abbrev pub digits_value : List ℕ → ℕ
digits_value digits = fold (λ value c. 10 * value + (c - 0x30)) 0 digits

-- the value of a number without a sign
abbrev pub unsigned_number : List ℕ → Option ℕ
unsigned_number digits = if nat_lt 0 (length digits) && all_ascii_digits digits then Some (digits_value digits) else None

-- the value of a number without blanks at its end
abbrev pub signed_number : List ℕ → Option ℤ
signed_number [] = None
signed_number (c ∷ cs) =
    if c == minus then option_map (λ n. neg_ℤ (pos n)) (unsigned_number cs)
    else if c == plus then option_map pos (unsigned_number cs)
    else option_map pos (unsigned_number (c ∷ cs))

abbrev pub number : List ℕ → Option ℤ
number text = signed_number (without_trailing_blanks text)

-- a number from `low` to `high`
abbrev pub number_in : ℤ → ℤ → List ℕ → Option ℤ
number_in low high text = option_and_then (λ z. if int_le low z && int_le z high then Some z else None) (number text)

-- a number from 0 to `high`
abbrev pub natural_in : ℕ → List ℕ → Option ℕ
natural_in high text = option_map nat_abs (number_in (pos 0) (pos high) text)

-- a context id: a number from 0 to 65,535
abbrev pub context_id : List ℕ → Option ℕ
context_id text = natural_in 65535 text

-- a word cost or a connection cost: a signed number of 16 bits
abbrev pub cost : List ℕ → Option ℤ
cost text = number_in (neg_ℤ (pos 32768)) (pos 32767) text
