use Rattle.std.proofs.Common.{arith, ap}
use Rattle.image_format.specs.declared.header.Header.{Header}
use Rattle.image_format.specs.ImageBytes.{header_of}
use Rattle.dict_image.proofs.NumberedTokens.{lexicon_numbered, numbered_found, numbered_none}
use Rattle.dict_image.proofs.dict.Dict.known_token.Goals as goal

pub returns-then-i-count : goal.returns-then-i-count
returns-then-i-count c =
    let bytes = c.args.self.now in
    let tokens = (ap (λ (h : Header). h.tokens) c.header.ensures.numbers) in
    let less = c.if-i-count.true in
    numbered_found bytes _ 0 (header_of bytes).tokens c.args.i _ (lexicon_numbered bytes c.header.ensures.formed) (omega arith) (omega (arith, less, tokens)) c.token.ensures

pub returns-else-i-count : goal.returns-else-i-count
returns-else-i-count c =
    let bytes = c.args.self.now in
    let tokens = (ap (λ (h : Header). h.tokens) c.header.ensures.numbers) in
    let high = c.if-i-count.false in
    numbered_none bytes _ 0 (header_of bytes).tokens c.args.i (lexicon_numbered bytes c.header.ensures.formed) (λ low less. omega (arith, less, high, tokens))
