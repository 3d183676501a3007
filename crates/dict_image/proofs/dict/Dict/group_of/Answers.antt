use Rattle.dict_image.proofs.FormedLemmas.{cells_are}
use Rattle.dict_image.proofs.dict.Dict.group_of.Goals as goal

pub get-requires : goal.get-requires
get-requires c = cells_are c.args.self.now c.in-Cells.ensures.formed c.in-Cells.ensures.table
