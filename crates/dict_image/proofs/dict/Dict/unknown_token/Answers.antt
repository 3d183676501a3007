use Rattle.std.proofs.Common.{arith, ap}
use Rattle.image_format.specs.declared.header.Header.{Header}
use Rattle.image_format.specs.ImageBytes.{header_of}
use Rattle.dict_image.proofs.NumberedTokens.{unknown_numbered, numbered_found, numbered_none}
use Rattle.dict_image.proofs.dict.Dict.unknown_token.Goals as goal
use Rattle.dict_image.proofs.dict.Dict.unknown_token.Goals.{else-known-i-via-then-known-i+else-i-known, else-known-i-via-else-known-i}

pub returns-then-i-known : goal.returns-then-i-known
returns-then-i-known c =
    let bytes = c.args.self.now in
    let tokens = (ap (λ (h : Header). h.tokens) c.header.ensures.numbers) in
    let unknown = (ap (λ (h : Header). h.unknown) c.header-then-known-i.ensures.numbers) in
    let low = c.if-known-i.true in
    let less = c.if-i-known.true in
    numbered_found bytes _ (header_of bytes).tokens (header_of bytes).unknown c.args.i _ (unknown_numbered bytes c.header.ensures.formed) (omega (arith, low, tokens)) (omega (arith, low, less, tokens, unknown)) c.token.ensures

pub returns-else-known-i : goal.returns-else-known-i
returns-else-known-i c =
    let bytes = c.args.self.now in
    let tokens = (ap (λ (h : Header). h.tokens) c.header.ensures.numbers) in
    numbered_none bytes _ (header_of bytes).tokens (header_of bytes).unknown c.args.i (unknown_numbered bytes c.header.ensures.formed) (elim c.else-known-i.branch [
      | else-known-i-via-then-known-i+else-i-known w ↦
          let unknown = (ap (λ (h : Header). h.unknown) w.header-then-known-i.ensures.numbers) in
          let high = w.if-i-known.false in
          λ low less. omega (arith, low, less, high, tokens, unknown)
      | else-known-i-via-else-known-i w ↦ let below = w.if-known-i.false in λ low less. omega (arith, low, below, tokens)
    ])
