use Rattle.mj_model.proofs.ReversedChainLemmas.{best_is_one}
use Rattle.mj_model.proofs.BestExists.{best_path_exists}
use Rattle.mj_model.proofs.paths.laws.one_best_path.Goals as goal

pub returns : goal.returns
returns c = λ words conn len are.
    let b = best_path_exists words conn len are in
    (b.0, b.1, λ other o. best_is_one words conn len are other b.0 o b.1)
