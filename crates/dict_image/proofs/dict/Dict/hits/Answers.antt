use Rattle.std.proofs.Common.{ℕ, List, ap, ◌∙◌}
use Rattle.mj_model.specs.CellMap.{prefixes_of}
use Rattle.image_format.specs.ImageBytes.{header_of, section}
use Rattle.image_format.specs.ImageSections.{stored_cells}
use Rattle.image_format.specs.Layouts.{key_form}
use Rattle.dict_image.proofs.FormedLemmas.{cells_are}
use Rattle.dict_image.proofs.KeyTableLemmas.{hits_of_cells, hits_of_list}
use Rattle.dict_image.proofs.dict.Dict.hits.Goals as goal

pub prefixes-requires : goal.prefixes-requires
prefixes-requires c = rw (c.cells.ensures) (cells_are c.args.self.now c.in-Cells.ensures.formed c.in-Cells.ensures.table)

pub returns-in-Listed-clause-hits : goal.returns-in-Listed-clause-hits
returns-in-Listed-clause-hits c =
    let h = header_of c.args.self.now in
    c.hits.ensures.hits ∙ hits_of_list (key_form h.layout) h.groups (section c.args.self.now 5) c.args.text.now c.in-Listed.keys c.in-Listed.ensures.table.0 c.in-Listed.ensures.table.1

pub returns-in-Cells-clause-hits : goal.returns-in-Cells-clause-hits
returns-in-Cells-clause-hits c =
    let h = header_of c.args.self.now in
    c.prefixes.ensures.hits ∙ ap (λ (keys : List ℕ). prefixes_of (stored_cells keys) c.args.text.now) c.cells.ensures
    ∙ hits_of_cells (key_form h.layout) h.groups (section c.args.self.now 5) c.args.text.now c.in-Cells.ensures.table
