-- What a text starts with: an index between brackets, an item, or no piece.
use Rattle.std.specs.Prelude.{◌≡◌, ℕ, List, ◌++◌, codes}
use Rattle.mj_model.specs.declared.format_item.FormatItem.{FormatItem}
use Rattle.mj_model.specs.declared.format_fault.FormatPart.{FormatPart}
use Rattle.mj_model.specs.declared.format_fault.FormatKind.{FormatKind}
use Rattle.mj_model.specs.declared.format_fault.FormatFault.{FormatFault}
use Rattle.mj_model.specs.declared.format_fault.FormatFault.TheVariants as fault
use Rattle.out_format.specs.Formats.{IsIndex, IsField, Piece, ItemPiece, StartsWithPiece, IsBadAt, bad_kind}

-- the text starts with the index `n` between brackets, and `rest` follows
pub record HasIndex (text : List ℕ) (n : ℕ) (rest : List ℕ) : Type 0 where
  pub digits : List ℕ
  pub is_index : IsIndex digits n
  pub is : text ≡ codes "[" ++ (digits ++ (codes "]" ++ rest))

-- the text does not start with an index
abbrev pub HasNoIndex : List ℕ → Type 0
HasNoIndex text = (n : ℕ) (rest : List ℕ) → HasIndex text n rest → ⊥

-- the text does not start with a field that the part may use
abbrev pub HasNoField : FormatPart → List ℕ → Type 0
HasNoField part text = (i : FormatItem) (front rest : List ℕ) → IsField part i front → text ≡ front ++ rest → ⊥

-- the text does not start with an item that the part may use
abbrev pub HasNoItem : FormatPart → List ℕ → Type 0
HasNoItem part text = (i : FormatItem) (rest : List ℕ) → StartsWithPiece part (ItemPiece i) text rest → ⊥

-- no piece of the part starts the text, and `kind` is the reason
pub record HasNoPiece (part : FormatPart) (text : List ℕ) (kind : FormatKind) : Type 0 where
  pub stuck : (piece : Piece) (rest : List ℕ) → StartsWithPiece part piece text rest → ⊥
  pub is_kind : kind ≡ bad_kind part text

-- an allocation failed, or the text of this part is invalid at this offset
abbrev pub IsFaultOf : FormatPart → List ℕ → FormatFault → Type 0
IsFaultOf part text (fault.Bad where' at kind) = (where' ≡ part) × IsBadAt part text at kind
IsFaultOf part text fault.Memory = Unit {0}
