use Rattle.std.proofs.Common.{ap, ◌∙◌, ◌-◌, arith, refl}
use Rattle.image_format.specs.ImageBytes.{header_of, section}
use Rattle.image_format.proofs.EndLemmas.{end_after}
use Rattle.image_format.proofs.ends.section_bytes.Goals as goal

pub part-requires-clause-in_order : goal.part-requires-clause-in_order
part-requires-clause-in_order c =
    let h = header_of c.args.bytes.now in
    let start = c.requires.ends.each (c.number-k.result - 1) (let l = c.number-k.ensures.to_eight in omega (arith, l)) in
    let end = c.requires.ends.each c.number-k.result c.number-k.ensures.to_eight in
    let rises = end_after h (c.number-k.result - 1) c.number-k.result (omega (arith)) in
    omega (arith, start, end, rises)

pub part-requires-clause-within : goal.part-requires-clause-within
part-requires-clause-within c =
    let h = header_of c.args.bytes.now in
    let end = c.requires.ends.each c.number-k.result c.number-k.ensures.to_eight in
    let rises = end_after h c.number-k.result 8 c.number-k.ensures.to_eight in
    let w = c.requires.within in
    omega (arith, end, rises, w)

pub returns : goal.returns
returns c =
    let start = c.requires.ends.each (c.number-k.result - 1) (let l = c.number-k.ensures.to_eight in omega (arith, l)) in
    let end = c.requires.ends.each c.number-k.result c.number-k.ensures.to_eight in
    c.part.ensures ∙ rw (start, end) refl ∙ ap (section c.args.bytes.now) c.number-k.ensures.number
