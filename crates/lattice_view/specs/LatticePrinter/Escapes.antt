-- Surfaces and features, escaped for a cell of a table and for a label of a graph.
use Rattle.std.specs.Prelude.{ℕ, ◌+◌, ◌-◌, ◌/◌, ◌%◌, ◌==◌, ◌&&◌, nat_lt, if◌then◌else◌, List, [], ◌∷◌, ◌++◌, codes, flat_map}
use Rattle.lattice_view.specs.declared.lattice_printer.escapes.Escape.{Escape}
use Rattle.lattice_view.specs.declared.lattice_printer.escapes.Escape.TheVariants.{Cell, Label}
use Rattle.lattice_view.specs.declared.lattice_printer.escapes.PendingBytes.{PendingBytes}
use Rattle.lattice_view.specs.declared.lattice_printer.escapes.PendingBytes.TheVariants.{Nothing, C2, Ef, EfBf}

-- a byte of a cell: a tab, a line feed, a carriage return and a backslash become a backslash and a
-- letter, or two backslashes
abbrev pub in_cell : ℕ → List ℕ
in_cell c =
    if c == 9 then codes "\\t"
    else if c == 10 then codes "\\n"
    else if c == 13 then codes "\\r"
    else if c == 92 then codes "\\\\"
    else c ∷ []

-- a hexadecimal digit
abbrev pub hex_digit : ℕ → ℕ
hex_digit value = if nat_lt value 10 then 0x30 + value else 0x61 + (value - 10)

-- a number below 256 in hexadecimal digits, without leading zeros
abbrev pub hex_digits : ℕ → List ℕ
hex_digits value = if nat_lt value 16 then hex_digit value ∷ [] else hex_digit (value / 16) ∷ hex_digit (value % 16) ∷ []

-- a character as its code point, such as `\u{1b}`, with the backslash escaped by another one
abbrev pub by_code : ℕ → List ℕ
by_code code = codes "\\\\u{" ++ (hex_digits code ++ codes "}")

-- a byte of a label, which is a character or a part of one: a quote and a backslash are escaped by
-- a backslash, an ampersand is written as in HTML, and a control character as its code point
abbrev pub in_label : ℕ → List ℕ
in_label c =
    if c == 34 then codes "\\\""
    else if c == 92 then codes "\\\\"
    else if c == 38 then codes "&amp;"
    else if nat_lt c 32 then by_code c
    else if c == 0x7f then by_code c
    else c ∷ []

-- the bytes that wait for the next byte, because they may be the start of U+0080 to U+009F, U+FFFE
-- or U+FFFF
abbrev pub pending_bytes : PendingBytes → List ℕ
pending_bytes Nothing = []
pending_bytes C2 = 0xc2 ∷ []
pending_bytes Ef = 0xef ∷ []
pending_bytes EfBf = 0xef ∷ 0xbf ∷ []

-- the text for a byte before which no byte waits
abbrev pub unless_pending : ℕ → List ℕ
unless_pending c = if c == 0xc2 then [] else if c == 0xef then [] else in_label c

-- the text for a byte after the waiting bytes
abbrev pub after_pending : PendingBytes → ℕ → List ℕ
after_pending Nothing c = unless_pending c
after_pending C2 c = if nat_lt 0x7f c && nat_lt c 0xa0 then by_code c else 0xc2 ∷ unless_pending c
after_pending Ef c = if c == 0xbf then [] else 0xef ∷ unless_pending c
after_pending EfBf c =
    if c == 0xbe then codes "\\\\u{fffe}"
    else if c == 0xbf then codes "\\\\u{ffff}"
    else 0xef ∷ 0xbf ∷ unless_pending c

-- the bytes that wait after a further byte
abbrev pub pending_after : PendingBytes → ℕ → PendingBytes
pending_after Nothing c = if c == 0xc2 then C2 else if c == 0xef then Ef else Nothing
pending_after C2 c = if c == 0xc2 then C2 else if c == 0xef then Ef else Nothing
pending_after Ef c = if c == 0xbf then EfBf else if c == 0xc2 then C2 else if c == 0xef then Ef else Nothing
pending_after EfBf c = if c == 0xc2 then C2 else if c == 0xef then Ef else Nothing

-- bytes after the waiting ones: control characters, U+FFFE and U+FFFF, which SVG does not allow,
-- become code points
abbrev pub in_label_after : PendingBytes → List ℕ → List ℕ
in_label_after held [] = pending_bytes held
in_label_after held (c ∷ cs) = after_pending held c ++ in_label_after (pending_after held c) cs

-- a text of a label
abbrev pub label_text : List ℕ → List ℕ
label_text = in_label_after Nothing

-- bytes with the escapes of a cell or a label
abbrev pub escaped : Escape → List ℕ → List ℕ
escaped Cell bytes = flat_map in_cell bytes
escaped Label bytes = label_text bytes
