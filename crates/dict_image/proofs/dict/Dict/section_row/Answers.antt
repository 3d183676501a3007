use Rattle.dict_image.proofs.FormedLemmas.{costs_are}
use Rattle.dict_image.proofs.dict.Dict.section_row.Goals as goal

pub new-requires-clause-costs : goal.new-requires-clause-costs
new-requires-clause-costs c = rw (c.header.ensures.numbers, c.section.ensures.section) (costs_are c.args.self.now c.requires.system c.section.ensures.formed)
