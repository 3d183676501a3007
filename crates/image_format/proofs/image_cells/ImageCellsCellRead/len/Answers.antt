use Rattle.std.proofs.Common.{sym}
use Rattle.image_format.proofs.CellLemmas.{cell_count}
use Rattle.image_format.proofs.image_cells.ImageCellsCellRead.len.Goals as goal

pub returns : goal.returns
returns c = sym (cell_count c.args.self.now.bytes.now)
