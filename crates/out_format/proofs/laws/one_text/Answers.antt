use Rattle.out_format.proofs.OneText.{one_text}
use Rattle.out_format.proofs.laws.one_text.Goals as goal

pub returns : goal.returns
returns c = one_text
