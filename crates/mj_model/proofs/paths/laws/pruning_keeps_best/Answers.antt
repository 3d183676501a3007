use Rattle.mj_model.proofs.Pruning.{pruned_best}
use Rattle.mj_model.proofs.paths.laws.pruning_keeps_best.Goals as goal

pub returns : goal.returns
returns c = λ words kept conn len are pruned path best. pruned_best words kept conn len are pruned path best
