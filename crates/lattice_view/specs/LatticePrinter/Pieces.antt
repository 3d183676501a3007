-- The texts of the pieces of rows.
use Rattle.std.specs.Prelude.{ℕ, List}
use Rattle.std.specs.Fmt.{decimal, signed_decimal}
use Rattle.lattice_view.specs.declared.lattice_printer.piece.Piece.{Piece}
use Rattle.lattice_view.specs.declared.lattice_printer.piece.Piece.TheVariants as piece
use Rattle.lattice_view.specs.LatticePrinter.Escapes.{escaped}

-- the text of a piece
abbrev pub piece_text : Piece → List ℕ
piece_text (piece.Bytes bytes) = bytes.now
piece_text (piece.Count count) = decimal count
piece_text (piece.Cost cost) = signed_decimal cost
piece_text (piece.Escaped escape bytes) = escaped escape bytes.now
