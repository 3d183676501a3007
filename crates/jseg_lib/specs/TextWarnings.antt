-- The warnings about a text, and the search for them while its bytes come in pieces.
use Rattle.std.specs.Prelude.{◌≡◌, ℕ, ◌+◌, ◌-◌, ◌^◌, ◌==◌, min, Bool, true, false, List, [], ◌∷◌, ◌++◌, Option, None, Some, if◌then◌else◌}
use Rattle.mj_model.specs.Bytes.{carriage_return, line_feed}
use Rattle.jseg_lib.specs.declared.mark_scan.MarkScan.{MarkScan}
use Rattle.jseg_lib.specs.declared.mark_scan.MarkScan.TheVariants.{NoByte, OneByte, TwoBytes, Present, Absent}
use Rattle.jseg_lib.specs.declared.return_scan.ReturnScan.{ReturnScan}
use Rattle.jseg_lib.specs.declared.return_scan.ReturnScan.TheVariants.{Open, Found}
use Rattle.jseg_lib.specs.declared.text_scan.TextScan.{TextScan}
use Rattle.jseg_lib.specs.declared.text_scan.Warnings.{Warnings}

-- the UTF-8 encoding of U+FEFF
abbrev pub byte_order_mark : List ℕ
byte_order_mark = 0xef ∷ 0xbb ∷ 0xbf ∷ []

-- the text begins with these bytes
abbrev pub begins_with : List ℕ → List ℕ → Bool
begins_with [] text = true
begins_with (first ∷ more) [] = false
begins_with (first ∷ more) (byte ∷ text) = if byte == first then begins_with more text else false

-- the number after `line`; no number exceeds the greatest u64
abbrev pub next_line : ℕ → ℕ
next_line line = min (line + 1) (2 ^ 64 - 1)

-- the number of the first line that ends with CR, if one does: after CR comes LF or the end of the
-- text. `line` is the number of the first line of the text, and `previous` is the byte before it
abbrev pub first_return : ℕ → ℕ → List ℕ → Option ℕ
first_return line previous [] = if previous == carriage_return then Some line else None
first_return line previous (byte ∷ text) =
    if byte == line_feed
    then if previous == carriage_return then Some line else first_return (next_line line) byte text
    else first_return line byte text

-- the warnings about a text: whether it begins with a byte order mark, and the number of its first
-- line that ends with CR, counted from 1
abbrev pub warnings_of : List ℕ → Warnings
warnings_of text = record { mark = begins_with byte_order_mark text; line = first_return 1 line_feed text }

-- whether a text with the remainder `rest` begins with a byte order mark
abbrev pub mark_from : MarkScan → List ℕ → Bool
mark_from NoByte rest = begins_with byte_order_mark rest
mark_from OneByte rest = begins_with (0xbb ∷ 0xbf ∷ []) rest
mark_from TwoBytes rest = begins_with (0xbf ∷ []) rest
mark_from Present rest = true
mark_from Absent rest = false

-- the number of the first line that ends with CR of a text with the remainder `rest`
abbrev pub return_from : ReturnScan → List ℕ → Option ℕ
return_from (Open line previous) rest = first_return line previous rest
return_from (Found line) rest = Some line

-- the number of the line that is found, if one is
abbrev pub found_return : ReturnScan → Option ℕ
found_return (Open line previous) = None
found_return (Found line) = Some line

-- the warnings about a text with the remainder `rest`
abbrev pub warnings_from : TextScan → List ℕ → Warnings
warnings_from scan rest = record { mark = mark_from scan.mark rest; line = return_from scan.returns rest }

-- the warnings that are due whatever follows
abbrev pub warnings_so_far : TextScan → Warnings
warnings_so_far scan = record { mark = mark_from scan.mark []; line = found_return scan.returns }

-- the scan has read the bytes `read`: it finds the warnings about each text that begins with them
abbrev pub HasScanned : List ℕ → TextScan → Type 0
HasScanned read scan = (rest : List ℕ) → warnings_from scan rest ≡ warnings_of (read ++ rest)
