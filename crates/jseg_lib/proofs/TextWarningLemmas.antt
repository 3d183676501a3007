-- Scanning a text in pieces.
use Rattle.std.proofs.Common.{Bool, Option, ◌≡◌, ◌+◌, ◌<◌, ◌≤◌, ℕ, List, [], ◌∷◌, ◌++◌, length, drop, get_or, sym, ap, ◌∙◌, append_assoc}
use Rattle.std.proofs.lemmas.List.{append-nil, drop_all, drop_more}
use Rattle.jseg_lib.specs.TextWarnings.{HasScanned, mark_from, return_from, warnings_from, warnings_of}
use Rattle.jseg_lib.specs.declared.text_scan.TextScan.{TextScan}
use Rattle.jseg_lib.specs.declared.text_scan.Warnings.{Warnings}

abbrev warnings : Bool → Option ℕ → Warnings
warnings mark line = record { mark = mark; line = line }

-- `found scan text` is what a scan finds with the remaining text. One byte of a piece is scanned
pub scan_next : {S : Type 0} → {F : Type 0} → (found : S → List ℕ → F) (scan next : S) (piece rest : List ℕ) (i : ℕ) → i < length piece
    → ((more : List ℕ) → found scan (get_or piece i 0 ∷ more) ≡ found next more)
    → found scan (drop i piece ++ rest) ≡ found next (drop (i + 1) piece ++ rest)
scan_next found scan next piece rest i within step =
    ap (λ (left : List ℕ). found scan (left ++ rest)) (drop_more piece i 0 within) ∙ step (drop (i + 1) piece ++ rest)

-- no byte of the piece is left
pub scan_end : {S : Type 0} → {F : Type 0} → (found : S → List ℕ → F) (scan : S) (piece rest : List ℕ) (i : ℕ) → length piece ≤ i
    → found scan (drop i piece ++ rest) ≡ found scan rest
scan_end found scan piece rest i past = ap (λ (left : List ℕ). found scan (left ++ rest)) (drop_all i piece past)

-- warnings are equal if their parts are
same_warnings : (mark other_mark : Bool) (line other_line : Option ℕ) → mark ≡ other_mark → line ≡ other_line
    → warnings mark line ≡ warnings other_mark other_line
same_warnings mark other_mark line other_line marks lines = ap (λ (m : Bool). warnings m line) marks ∙ ap (warnings other_mark) lines

-- a scan of the next piece continues the scan of what was read
pub scanned_next : (read piece : List ℕ) (scan next : TextScan) → HasScanned read scan
    → ((rest : List ℕ) → mark_from scan.mark (piece ++ rest) ≡ mark_from next.mark rest)
    → ((rest : List ℕ) → return_from scan.returns (piece ++ rest) ≡ return_from next.returns rest)
    → HasScanned (read ++ piece) next
scanned_next read piece scan next scanned mark returns = λ rest.
    let both : warnings_from scan (piece ++ rest) ≡ warnings_from next rest = same_warnings _ _ _ _ (mark rest) (returns rest) in
    sym both ∙ scanned (piece ++ rest) ∙ ap warnings_of (sym (append_assoc read piece rest))

-- what a scan finds at the end of the text are the warnings about all that was read
pub scanned_all : (read : List ℕ) (scan : TextScan) → HasScanned read scan → warnings_from scan [] ≡ warnings_of read
scanned_all read scan scanned = scanned [] ∙ ap warnings_of (append-nil read)
