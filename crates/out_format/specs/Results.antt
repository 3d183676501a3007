-- The results of the format parser, and what printing appends.
use Rattle.std.specs.Prelude.{◌≡◌, ℕ, ◌++◌, List, slice_get, Option, Some, None, Result, MatchOption, MatchResult, nat_le, if◌then◌else◌}
use Rattle.std.specs.Borrow.{Bor}
use Rattle.mj_model.specs.declared.format_item.FormatItem.{FormatItem}
use Rattle.out_format.specs.declared.items.AllowedIn.{AllowedIn}
use Rattle.mj_model.specs.declared.format_fault.FormatKind.{FormatKind}
use Rattle.mj_model.specs.declared.format_fault.FormatPart.{FormatPart}
use Rattle.mj_model.specs.Numbers.{digits_value}
use Rattle.mj_model.specs.Fields.{AreFields}
use Rattle.out_format.specs.declared.first_piece.FirstPiece.{FirstPiece}
use Rattle.out_format.specs.declared.index.Index.{Index}
use Rattle.out_format.specs.declared.first_item.FirstItem.{FirstItem}
use Rattle.out_format.specs.FirstItems.{HasIndex, HasNoIndex, HasNoField, HasNoItem, HasNoPiece}
use Rattle.out_format.specs.Formats.{Row, ItemPiece, StartsWithPiece}
use Rattle.out_format.specs.Pieces.{piece_of}
use Rattle.out_format.specs.PrintedPaths.{printed_field}

-- a row of the table of items as the code stores it, with the letters in memory
abbrev pub StoredRow : Type 0
StoredRow = Bor (List ℕ) × FormatItem × AllowedIn

-- the row with the letters as values
abbrev pub row_of : StoredRow → Row
row_of (letters, i, texts) = (record { now = letters.now }, i, texts)

-- the index between brackets at the start of the text, if there is one
abbrev pub IsFirstIndex : List ℕ → Option Index → Type 0
IsFirstIndex text first = MatchOption first (HasNoIndex text) (λ index. HasIndex text index.number index.rest.now)

-- the field at the start of a part's text, if there is one
abbrev pub IsFirstField : FormatPart → List ℕ → Option FirstItem → Type 0
IsFirstField part text first = MatchOption first (HasNoField part text) (λ field. StartsWithPiece part (ItemPiece field.item) text field.rest.now)

-- the item at the start of a part's text, if there is one
abbrev pub IsFirstItem : FormatPart → List ℕ → Option FirstItem → Type 0
IsFirstItem part text first = MatchOption first (HasNoItem part text) (λ item. StartsWithPiece part (ItemPiece item.item) text item.rest.now)

-- the piece at the start of a part's text, or the reason why there is none
abbrev pub IsFirstPiece : FormatPart → List ℕ → Result FirstPiece FormatKind → Type 0
IsFirstPiece part text first = MatchResult first (λ piece. StartsWithPiece part (piece_of piece.piece) text piece.rest.now) (HasNoPiece part text)

-- the value of digits, if it is at most 65,535
abbrev pub index_of : List ℕ → Option ℕ
index_of digits = if nat_le (digits_value digits) 65535 then Some (digits_value digits) else None

-- the output grows by the printed field `n` of a feature
abbrev pub GrowsByField : List ℕ → ℕ → List ℕ → List ℕ → Type 0
GrowsByField feature n old new =
    (fields : List (List ℕ)) × AreFields feature fields × (new ≡ old ++ printed_field (slice_get fields n))
