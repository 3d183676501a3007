use Rattle.std.proofs.Common.{ap, ◌∙◌, sym, subst, ◌++◌, List, [], ℕ, take}
use Rattle.std.specs.Prelude.{flat_map}
use Rattle.std.proofs.lemmas.List.{flat_map_more, take_all, take_more}
use Rattle.char_def.specs.InfoRanges.{AreRangesOf, no_range, range_by}
use Rattle.image_writer.specs.Ranges.{range_bytes}
use Rattle.image_writer.proofs.RangeLemmas.{few_bits, ranges_held}
use Rattle.image_writer.proofs.ranges.write_ranges.Goals as goal

pub append_range-requires : goal.append_range-requires
append_range-requires c =
    few_bits c.args.chars.now c.deref-range-items.result.now c.requires (subst (AreRangesOf c.args.chars.now) (sym c.deref-range-items.ensures.value) c.in_ok-ranges.ensures)
    c.loop-range.range-index c.loop-range-test.true

pub loop-range-preserved : goal.loop-range-preserved
loop-range-preserved c =
    let ranges = c.deref-range-items.result.now in
    let i = c.loop-range.range-index in
    c.in_ok-append_range.ensures ∙ ap (λ (bytes : List ℕ). bytes ++ range_bytes (range_by ranges i)) c.loop-range.invariant
    ∙ flat_map_more range_bytes [] (take i ranges) (range_by ranges i) ∙ ap (flat_map range_bytes) (sym (take_more ranges i no_range c.loop-range-test.true))

pub returns : goal.returns
returns c =
    ranges_held c.args.chars.now c.in_ok-ranges.ranges.items c.requires c.in_ok-ranges.ensures c.loop-range.bytes.items
    (c.loop-range.invariant ∙ ap (flat_map range_bytes) (take_all c.loop-range.range-index c.deref-range-items.result.now c.loop-range-test.false ∙ c.deref-range-items.ensures.value))
