use Rattle.std.proofs.Common.{◌≡◌, ◌+◌, length, refl, ◌∙◌, arith, rules}
use Rattle.dict_image.specs.InfoTables.{plane_start}
use Rattle.dict_image.proofs.InfoTableLemmas.{range_more}
use Rattle.dict_image.proofs.info_table.plane_entries.Goals as goal

pub loop-i-preserved : goal.loop-i-preserved
loop-i-preserved c =
    let ranges = c.args.ranges.now in
    let old = c.loop-i.entries.items in
    let new = c.resize.new.self.items in
    let end = c.end_in_plane.ensures in
    let many : length new ≡ plane_start ranges (c.loop-i.i + 1) = search (rules, end) in
    let had : length old ≡ c.loop-i.entries.len = search rules in
    let by = c.in_ok-resize.ensures.by_index in
    let entry = c.u32_at.ensures in
    range_more ranges c.loop-i.i old new c.requires c.loop-i-test.true c.loop-i.invariant many
    (λ code before earlier. by.0 code 0 (omega (arith, before, end)) (omega (arith, earlier, had)))
    (λ code later before. by.1 code 0 refl (omega (arith, later, had)) (omega (arith, before, end)) ∙ entry)
