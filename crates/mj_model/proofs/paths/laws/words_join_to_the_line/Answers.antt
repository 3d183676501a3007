use Rattle.mj_model.proofs.TextPaths.{words_join}
use Rattle.mj_model.proofs.paths.laws.words_join_to_the_line.Goals as goal

pub returns : goal.returns
returns c = words_join
