use Rattle.dict_image.specs.CostRows.{costs_in_row}
use Rattle.dict_image.proofs.CostRowLemmas.{of_image}
use Rattle.dict_image.proofs.dict.Dict.costs_before.Goals as goal

pub returns : goal.returns
returns c = of_image c.args.self.now c.args.left (costs_in_row c.row_before.result) c.row_before.ensures.costs
