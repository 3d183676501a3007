use Rattle.std.proofs.Common.{◌+◌, ◌∙◌, ap, take, arith, false, slice_index_or, ◌<◌}
use Rattle.core.specs.Mem.Slots.{slots_len, slots_items, slots_filled, slots_counts}
use Rattle.cells.proofs.CellLemmas.{filled_more, items_more, same_places}
use Rattle.cells.proofs.row.fill.Goals as goal

pub loop-at-preserved : goal.loop-at-preserved
loop-at-preserved c =
    let at = c.loop-at.at in
    let row = c.loop-at.row in
    let before = c.loop-at.invariant in
    let put = c.put.ensures in
    let counts = slots_counts row in
    let asked = c.requires in
    let less = c.loop-at-test.true in
    let inside : at < slots_len row = let same = before.4.count in omega arith in (
      omega arith,
      omega arith,
      ap (take (at + 1)) put.items ∙ items_more (slots_items row) (take c.args.from (slots_items c.args.row.now)) c.args.from at c.args.pair before.0 (omega arith) before.2,
      λ k low high. ap (λ fs. slice_index_or fs k false) put.filled ∙ filled_more (slots_filled row) at (omega arith) before.3 k low high,
      same_places c.args.row.now row c.put.new.self before.4 put.places,
    )
