use Rattle.std.proofs.Common.{ap, ◌∙◌, sym}
use Rattle.std.specs.Prelude.{Some}
use Rattle.image_format.proofs.CellLemmas.{within, cell_there}
use Rattle.image_format.proofs.image_cells.ImageCellsCellRead.cell.Goals as goal

pub cell_at-requires : goal.cell_at-requires
cell_at-requires c = within c.args.self.now.bytes.now c.args.i c.requires

pub returns : goal.returns
returns c = cell_there c.args.self.now.bytes.now c.args.i c.requires ∙ ap Some (sym c.cell_at.ensures)
