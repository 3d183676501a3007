use Rattle.capi.proofs.TextLemmas.{text_is}
use Rattle.capi.proofs.texts.texts_of_faults.Goals as goal

pub returns : goal.returns
returns c = text_is
