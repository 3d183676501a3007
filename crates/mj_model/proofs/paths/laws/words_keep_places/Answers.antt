use Rattle.mj_model.proofs.PlaceWords.{words_keep_places}
use Rattle.mj_model.proofs.paths.laws.words_keep_places.Goals as goal

pub returns : goal.returns
returns c = words_keep_places
