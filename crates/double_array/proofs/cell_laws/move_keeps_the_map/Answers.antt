use Rattle.double_array.proofs.CellMoveLaw.{moves_keep_the_map}
use Rattle.double_array.proofs.cell_laws.move_keeps_the_map.Goals as goal

pub returns : goal.returns
returns c = moves_keep_the_map
