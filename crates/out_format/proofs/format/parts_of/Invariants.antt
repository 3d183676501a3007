use Rattle.std.proofs.Common.{◌≡◌, map, take}
use Rattle.out_format.specs.Building.{pieces_so_far}
use Rattle.out_format.specs.Pieces.{piece_of}
use Rattle.out_format.proofs.format.parts_of.Given as goal

abbrev pub invariant-loop-piece : goal.invariant-loop-piece
invariant-loop-piece l = pieces_so_far l.parts ≡ map piece_of (take l.piece-index l.pieces)
