use Rattle.std.proofs.Common.{ℕ, List, length, ap, sym, ◌∙◌, ◌/◌}
use Rattle.image_format.specs.ImageBytes.{section}
use Rattle.image_format.proofs.CellLemmas.{cell_count}
use Rattle.dict_image.proofs.dict.DictCellRead.len.Goals as goal

pub returns : goal.returns
returns c = ap (λ (bytes : List ℕ). length bytes / 8) c.section.ensures.section ∙ sym (cell_count (section c.args.self.now 5))
