use Rattle.std.proofs.Common.{length}
use Rattle.out_format.specs.Building.{pieces_so_far}
use Rattle.out_format.proofs.PieceLemmas.{IsReadUpTo}
use Rattle.out_format.proofs.parsing.parse_part.Given as goal

abbrev pub invariant-loop-rest : goal.invariant-loop-rest
invariant-loop-rest l = IsReadUpTo l.part (pieces_so_far l.parts) l.text l.rest

abbrev pub decreases-loop-rest : goal.decreases-loop-rest
decreases-loop-rest l = length l.rest
