-- The pieces of parts that are being built.
use Rattle.std.specs.Prelude.{List, ◌++◌}
use Rattle.out_format.specs.Formats.{Piece}
use Rattle.out_format.specs.declared.building.PartsBuilder.{PartsBuilder}
use Rattle.out_format.specs.Pieces.{bytes_as_pieces, pieces_of}

-- the pieces of the finished parts, and one for each byte of the current run
abbrev pub pieces_so_far : PartsBuilder → List Piece
pieces_so_far parts = pieces_of parts.parts.items ++ bytes_as_pieces parts.run.items
