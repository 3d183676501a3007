use Rattle.std.proofs.Common.{◌≡◌, length}
use Rattle.lex_source.specs.NonblankLines.{nonblank_lines}
use Rattle.lex_source.proofs.nonblank_lines.next_nonblank.Given as goal

abbrev pub invariant-loop-number : goal.invariant-loop-number
invariant-loop-number l = nonblank_lines l.fn.lines ≡ nonblank_lines l.lines

abbrev pub decreases-loop-number : goal.decreases-loop-number
decreases-loop-number l = length l.lines
