use Rattle.std.proofs.Common.{◌+◌, ◌*◌, ◌∙◌, ℕ, List, ap, arith, slice_range}
use Rattle.dict_image.specs.EntryRows.{stored_row}
use Rattle.dict_image.proofs.EntryRowLemmas.{row_of_image, row_room}
use Rattle.dict_image.proofs.dict.Dict.entry_row.Goals as goal

pub slice_bounds-result-end : goal.slice_bounds-result-end
slice_bounds-result-end c =
    let room = row_room c.args.self.now c.args.row.first c.args.row.count c.section.ensures.formed c.requires in
    rw (c.section.ensures.section) (omega (arith, room))

pub returns : goal.returns
returns c =
    let from = 16 * c.args.row.first in
    ap (λ (tokens : List ℕ). stored_row (slice_range tokens from (from + 16 * c.args.row.count))) c.section.ensures.section
    ∙ row_of_image c.args.self.now c.args.row.first c.args.row.count c.section.ensures.formed c.requires
