use Rattle.mj_model.proofs.TextPaths.{only_blanks_remain}
use Rattle.mj_model.proofs.paths.laws.only_blanks_remain.Goals as goal

pub returns : goal.returns
returns c = only_blanks_remain
