-- Values of hexadecimal digits up to the greatest code point.
use Rattle.std.specs.Prelude.{ℕ, ◌+◌, ◌*◌, min, if◌then◌else◌, Option, Some, None, option_map}
use Rattle.std.specs.Char.{is_ascii_hexdigit, digit_value}
use Rattle.mj_model.specs.CharDef.{code_point_max}

-- n, or one more than the greatest code point if n is greater
abbrev pub number_up_to_max : ℕ → ℕ
number_up_to_max n = min n (code_point_max + 1)

abbrev pub up_to_max : Option ℕ → Option ℕ
up_to_max found = option_map number_up_to_max found

-- the value with one more digit, or None if the byte is no digit
abbrev pub with_hex_digit : ℕ → ℕ → Option ℕ
with_hex_digit value byte = if is_ascii_hexdigit byte then Some (number_up_to_max (16 * value + digit_value byte)) else None
