use Rattle.image_format.specs.ImageSections.{stored_cells}
use Rattle.dict_image.proofs.KeyLemmas.{key_by_prefix, no_key_there}
use Rattle.dict_image.proofs.validation.keys.has_key.Goals as goal

pub returns-in-Some-clause-has : goal.returns-in-Some-clause-has
returns-in-Some-clause-has c =
    let cells = stored_cells c.args.cells.now.bytes.now in
    let prefix = rw c.in-Some.is at c.in_ok-prefix.ensures.key_prefix in
    key_by_prefix c.requires.cells.0 cells c.args.group c.args.place c.state_before-state.result c.in-Some.prefix c.is_key.result c.requires.cells.1 c.requires.once c.requires.holds c.state_before-state.ensures prefix c.is_key.ensures

pub returns-in-None-clause-has : goal.returns-in-None-clause-has
returns-in-None-clause-has c =
    let cells = stored_cells c.args.cells.now.bytes.now in
    let far = rw c.in-None.is at c.in_ok-prefix.ensures.key_prefix in (
      λ t. absurd (cc),
      λ has. absurd (no_key_there cells c.args.group c.args.place c.state_before-state.result c.requires.once c.requires.holds c.state_before-state.ensures far has),
    )
