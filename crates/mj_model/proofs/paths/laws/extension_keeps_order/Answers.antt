use Rattle.mj_model.proofs.ReversedChainLemmas.{before_along, before_without}
use Rattle.mj_model.proofs.paths.laws.extension_keeps_order.Goals as goal

pub returns : goal.returns
returns c = λ words conn len are ps qs rs w. (before_along words conn len are ps qs rs w, before_without words conn len are ps qs rs w)
