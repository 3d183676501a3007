-- Values of digits up to 2^31, the greatest magnitude of a signed 32-bit number.
use Rattle.std.specs.Prelude.{ℕ, ◌+◌, ◌*◌, ◌-◌, ◌^◌, min, nat_le, if◌then◌else◌, Option, Some, None, option_and_then}
use Rattle.std.specs.Char.{is_ascii_digit}

-- n, or 2^31 + 1 if it is greater
abbrev pub saturated : ℕ → ℕ
saturated n = min n (2 ^ 31 + 1)

-- n, if it is at most `most`
abbrev pub within : ℕ → ℕ → Option ℕ
within most n = if nat_le n most then Some n else None

abbrev pub up_to : ℕ → Option ℕ → Option ℕ
up_to most found = option_and_then (within most) found

-- the value with one more digit, or None if the byte is no digit
abbrev pub with_digit : ℕ → ℕ → Option ℕ
with_digit value byte = if is_ascii_digit byte then Some (saturated (10 * value + (byte - 0x30))) else None
