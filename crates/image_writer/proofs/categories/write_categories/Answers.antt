use Rattle.std.proofs.Common.{ap, ◌∙◌, arith}
use Rattle.std.specs.Prelude.{flat_map}
use Rattle.std.proofs.lemmas.List.{take_all}
use Rattle.image_format.specs.ImageSections.{category_bytes}
use Rattle.image_writer.proofs.CategoryLemmas.{categories_are}
use Rattle.image_writer.proofs.categories.write_categories.Goals as goal

pub returns : goal.returns
returns c =
    let ended = c.loop-i-test.false in
    let count = c.count-i-end.ensures.count in
    categories_are c.args.chars.now c.loop-i.bytes.items c.count-i-end.ensures.formed.storable
    (c.loop-i.invariant ∙ ap (flat_map category_bytes) (take_all c.loop-i.i c.args.chars.now.categories (omega (arith, ended, count))))
