use Rattle.dict_image.proofs.KeyPrefixLemmas.{is_text, is_no_text}
use Rattle.std.proofs.Common.{arith, refl}
use Rattle.dict_image.proofs.validation.key_prefix.KeyPrefix.is_key.Goals as goal

pub returns-in-Between : goal.returns-in-Between
returns-in-Between c key is =
    let long = is.long in
    (λ t. (omega arith, is_text key c.args.self is c.in-Between.is), λ both. refl)

pub returns-in_default : goal.returns-in_default
returns-in_default c key is = (λ t. absurd (cc), λ both. absurd (is_no_text key c.args.self is c.in_default.not-Between both.1))
