-- Bytes with a meaning in the source files and in texts.
use Rattle.std.specs.Prelude.{ℕ, Bool, ◌||◌, ◌==◌}

abbrev pub line_feed : ℕ
line_feed = 0x0a

abbrev pub carriage_return : ℕ
carriage_return = 0x0d

abbrev pub blank : ℕ
blank = 0x20

abbrev pub tab : ℕ
tab = 0x09

abbrev pub comma : ℕ
comma = 0x2c

abbrev pub quote : ℕ
quote = 0x22

abbrev pub hash : ℕ
hash = 0x23

abbrev pub full_stop : ℕ
full_stop = 0x2e

abbrev pub plus : ℕ
plus = 0x2b

abbrev pub minus : ℕ
minus = 0x2d

abbrev pub is_line_feed : ℕ → Bool
is_line_feed c = c == line_feed

abbrev pub is_comma : ℕ → Bool
is_comma c = c == comma

abbrev pub is_quote : ℕ → Bool
is_quote c = c == quote

-- a blank or a tab
abbrev pub is_blank : ℕ → Bool
is_blank c = c == blank || c == tab
