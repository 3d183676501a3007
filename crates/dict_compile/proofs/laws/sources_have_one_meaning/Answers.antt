use Rattle.dict_compile.proofs.FirstFaults.{tables_are_one}
use Rattle.dict_compile.proofs.laws.sources_have_one_meaning.Goals as goal

pub returns : goal.returns
returns c = tables_are_one
