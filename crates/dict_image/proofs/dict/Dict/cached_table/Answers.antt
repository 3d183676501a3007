use Rattle.dict_image.proofs.FormedLemmas.{costs_are}
use Rattle.dict_image.proofs.dict.Dict.cached_table.Goals as goal

pub cost_cache_of-requires-clause-costs : goal.cost_cache_of-requires-clause-costs
cost_cache_of-requires-clause-costs c = rw (c.header.ensures.numbers, c.section.ensures.section) (costs_are c.args.self.now c.requires.system c.section.ensures.formed)
