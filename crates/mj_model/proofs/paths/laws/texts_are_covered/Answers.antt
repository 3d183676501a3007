use Rattle.mj_model.proofs.CoveredTexts.{is_covered}
use Rattle.mj_model.proofs.paths.laws.texts_are_covered.Goals as goal

pub returns : goal.returns
returns c = is_covered
