use Rattle.segmenter.proofs.OneOutput.{one_output}
use Rattle.segmenter.proofs.laws.one_output.Goals as goal

pub returns : goal.returns
returns c = one_output
