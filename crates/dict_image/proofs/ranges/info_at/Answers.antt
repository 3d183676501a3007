use Rattle.std.proofs.Common.{sym, ap, ◌∙◌}
use Rattle.image_format.specs.ImageSections.{info_of_entry}
use Rattle.dict_image.proofs.RangeLemmas.{info_of_last}
use Rattle.dict_image.proofs.ranges.info_at.Goals as goal

pub returns-clause-info : goal.returns-clause-info
returns-clause-info c = c.info_of.ensures ∙ ap info_of_entry c.u32_at.ensures ∙ sym (info_of_last c.args.ranges.now c.args.code c.last_with_hint-i.result c.requires c.last_with_hint-i.ensures)
