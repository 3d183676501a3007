use Rattle.std.proofs.Common.{sym}
use Rattle.out_format.proofs.PieceLemmas.{begins_escape}
use Rattle.out_format.proofs.first_piece.escape_of_part.Goals as goal

pub returns-in-Some-escaped_byte : goal.returns-in-Some-escaped_byte
returns-in-Some-escaped_byte c = rw c.in-Some.ensures (begins_escape c.args.part _ _ _ (sym c.in-Some-escaped_byte.ensures))
