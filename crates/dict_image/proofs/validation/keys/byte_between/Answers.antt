use Rattle.image_format.specs.ImageSections.{stored_cells}
use Rattle.dict_image.proofs.KeyLemmas.{byte_back}
use Rattle.dict_image.proofs.validation.keys.byte_between.Goals as goal

pub returns : goal.returns
returns c =
    (byte_back c.requires.cells.0 (stored_cells c.args.cells.now.bytes.now) c.args.from c.args.to c.base_at.result c.requires.cells.1 c.requires.to c.requires.named c.base_at.ensures).led
