use Rattle.std.proofs.Common.{◌≡◌, ℕ, ℤ, ◌+◌, ◌*◌, List, slice_get, slice_range, subst, sym, ap, ◌∙◌}
use Rattle.image_format.specs.ImageBytes.{header_of, kind_of, section}
use Rattle.image_format.specs.declared.header.Header.{Header}
use Rattle.dict_image.specs.CostRows.{AreStoredBefore}
use Rattle.dict_image.specs.CostTables.{IsCostTable, cost_before}
use Rattle.dict_image.proofs.CostRowLemmas.{stored_here}
use Rattle.dict_image.proofs.RowLemmas.{in_row, row_within}
use Rattle.dict_image.proofs.dict.Dict.row_before.Goals as goal

pub row_of-requires : goal.row_of-requires
row_of-requires c =
    let bytes = c.args.self.now in
    let sizes = (header_of bytes).sizes in
    let cost = cost_before sizes (section bytes 1) in
    let are = subst (IsCostTable (kind_of (header_of bytes)) sizes (section bytes 1)) c.in-InRows.is c.cost_table.ensures.table in
    rw (c.from.ensures, c.deref.ensures.value, c.header.ensures.numbers) (row_within cost sizes.right sizes.left c.in-InRows.rows.items c.args.left are c.requires.left)

-- a system dictionary has costs
pub returns-in-OfUser-clause-costs : goal.returns-in-OfUser-clause-costs
returns-in-OfUser-clause-costs c =
    let bytes = c.args.self.now in
    let none = subst (IsCostTable (kind_of (header_of bytes)) (header_of bytes).sizes (section bytes 1)) c.in-OfUser.is c.cost_table.ensures.table in
    λ right less. absurd (none c.requires.system)

pub returns-in-InRows-clause-costs : goal.returns-in-InRows-clause-costs
returns-in-InRows-clause-costs c =
    let bytes = c.args.self.now in
    let sizes = (header_of bytes).sizes in
    let width = sizes.right in
    let cost = cost_before sizes (section bytes 1) in
    let rows = c.in-InRows.rows.items in
    let are = subst (IsCostTable (kind_of (header_of bytes)) sizes (section bytes 1)) c.in-InRows.is c.cost_table.ensures.table in
    let row : c.row_of.result.now ≡ slice_range rows (c.args.left * width) (c.args.left * width + width) =
    c.row_of.ensures
    ∙ ap (λ (h : Header). slice_range c.deref.result.now (c.from.result * h.sizes.right) (c.from.result * h.sizes.right + h.sizes.right)) c.header.ensures.numbers
    ∙ ap (λ (xs : List ℤ). slice_range xs (c.from.result * width) (c.from.result * width + width)) c.deref.ensures.value
    ∙ ap (λ (l : ℕ). slice_range rows (l * width) (l * width + width)) c.from.ensures in
    λ right less. ap (λ (xs : List ℤ). slice_get xs right) row ∙ in_row cost width sizes.left rows c.args.left right are c.requires.left less

pub returns-in-Cache-clause-costs : goal.returns-in-Cache-clause-costs
returns-in-Cache-clause-costs c =
    let bytes = c.args.self.now in
    let here = c.section_row.ensures in
    subst (AreStoredBefore (header_of bytes).sizes (section bytes 1) c.args.left) (sym c.row.ensures.costs) (stored_here bytes c.args.left c.section_row.result here.costs here.sizes here.left)
