use Rattle.dict_image.proofs.validation.lexicon.check_tokens.Goals as goal

pub returns-in-None : goal.returns-in-None
returns-in-None c =
    let features = rw c.in-None.is at c.in_ok-token.ensures in
    (c.is_index.ensures.0 c.if-not-is_index.false, (c.if-tokens-count.false, (c.in_default.ensures, (features, tt))))
