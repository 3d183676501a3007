-- The pieces of parts: an item is one piece, and a run of bytes is one piece for each byte.
use Rattle.std.specs.Prelude.{ℕ, List, [], ◌∷◌, map, flat_map}
use Rattle.out_format.specs.Formats.{Piece, Byte, ItemPiece}
use Rattle.out_format.specs.declared.first_piece.NextPiece.{NextPiece}
use Rattle.out_format.specs.declared.first_piece.NextPiece.TheVariants as next
use Rattle.out_format.specs.declared.part.Part.{Part}
use Rattle.out_format.specs.declared.part.Part.TheVariants as part

-- the piece that the code holds
abbrev pub piece_of : NextPiece → Piece
piece_of (next.Byte b) = Byte b
piece_of (next.Item i) = ItemPiece i

-- bytes that are printed unchanged
abbrev pub bytes_as_pieces : List ℕ → List Piece
bytes_as_pieces bytes = map (λ (b : ℕ). Byte b) bytes

-- the pieces of one part
abbrev pub pieces_in : Part → List Piece
pieces_in (part.Bytes bytes) = bytes_as_pieces bytes.items
pieces_in (part.Item i) = ItemPiece i ∷ []

-- the pieces of all parts
abbrev pub pieces_of : List Part → List Piece
pieces_of parts = flat_map pieces_in parts
