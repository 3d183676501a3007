use Rattle.std.proofs.Common.{arith}
use Rattle.dict_image.proofs.KeyPrefixLemmas.{prefix_more}
use Rattle.dict_image.proofs.validation.key_prefix.KeyPrefix.after.Goals as goal

pub returns : goal.returns
returns c key is = prefix_more key c.args.self c.args.byte c.after.result is (omega arith) c.after.ensures
