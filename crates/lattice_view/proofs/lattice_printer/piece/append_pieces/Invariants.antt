use Rattle.std.proofs.Common.{◌≡◌, ◌++◌, take}
use Rattle.std.specs.Prelude.{flat_map}
use Rattle.lattice_view.specs.LatticePrinter.Pieces.{piece_text}
use Rattle.lattice_view.proofs.lattice_printer.piece.append_pieces.Given as goal

abbrev pub invariant-loop-piece : goal.invariant-loop-piece
invariant-loop-piece l = l.out.items ≡ l.initial.out.items ++ flat_map piece_text (take l.piece-index l.pieces)
