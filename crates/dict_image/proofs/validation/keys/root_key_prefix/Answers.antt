use Rattle.std.proofs.Common.{rules, ℕ, Option, replicate, None, ap, ◌∙◌}
use Rattle.image_format.specs.ImageSections.{stored_cells}
use Rattle.dict_image.specs.declared.validation.key_prefix.KeyPrefix.{KeyPrefix}
use Rattle.dict_image.proofs.KeyLemmas.{some_cells}
use Rattle.dict_image.proofs.KeyPrefixLemmas.{prefixes_started}
use Rattle.dict_image.proofs.validation.keys.root_key_prefix.Goals as goal

pub returns : goal.returns
returns c =
    let cells = stored_cells c.args.cells.now.bytes.now in
    prefixes_started cells c.in_ok-prefixes.prefixes.items c.empty.result (some_cells c.requires.cells.0 cells c.requires.cells.1)
    (c.in_ok-prefixes.ensures.items_if_clones_equal (search rules) ∙ ap (λ (n : ℕ). replicate {A = Option KeyPrefix} n None) c.len.ensures) c.empty.ensures
