use Rattle.image_writer.specs.Written.{HoldsCells}
use Rattle.image_writer.proofs.cell_bytes.write_cells.Given as goal

-- the cells so far are written
abbrev pub invariant-loop-i : goal.invariant-loop-i
invariant-loop-i l = HoldsCells l.array l.i l.bytes.items
