use Rattle.out_format.proofs.AFormat.{one_format}
use Rattle.out_format.proofs.laws.one_format.Goals as goal

pub returns : goal.returns
returns c = one_format
