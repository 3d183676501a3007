use Rattle.mj_model.proofs.UnkReading.{one_unk_def}
use Rattle.mj_model.proofs.laws.one_unk_reading.Goals as goal

pub returns : goal.returns
returns c = one_unk_def
