use Rattle.std.proofs.Common.{refl}
use Rattle.mj_model.proofs.sample_sources.sample.Goals as goal

pub returns-clause-chars : goal.returns-clause-chars
unfolding lib.Utf8.encode
returns-clause-chars c = c.as_bytes-2.ensures.value

pub returns-clause-unk : goal.returns-clause-unk
unfolding lib.Utf8.encode
returns-clause-unk c = c.as_bytes-3.ensures.value

pub returns-clause-lexicons : goal.returns-clause-lexicons
unfolding lib.Utf8.encode
returns-clause-lexicons c = refl
