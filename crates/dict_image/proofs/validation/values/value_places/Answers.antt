use Rattle.std.proofs.Common.{◌/◌, arith, length}
use Rattle.std.proofs.lemmas.List.FromFn.{length-map-range_with_len}
use Rattle.image_format.specs.ImageSections.{stored_cell, stored_cells}
use Rattle.dict_image.specs.Validation.Values.{IsRoot, HoldEach}
use Rattle.dict_image.proofs.ValueLemmas.{not_both}
use Rattle.dict_image.proofs.GroupCount.{few_groups}
use Rattle.dict_image.proofs.validation.values.value_places.Goals as goal
use Rattle.dict_image.proofs.validation.values.value_places.Goals.{then-groups-len-via-then-groups-len, then-groups-len-via-else-groups-len+then-not-is_root}

pub returns-then-groups-len : goal.returns-then-groups-len
returns-then-groups-len c are =
    let cells = stored_cells c.args.bytes.now in
    let root : IsRoot cells = record { root_check = are.rules.root_check; root_base = are.rules.root_base } in
    let each : HoldEach c.args.groups cells = record { rules = are.rules; once = are.once } in
    elim c.then-groups-len.branch [
      | then-groups-len-via-then-groups-len w ↦
          let few = few_groups c.args.groups cells root each in
          let long = c.len.ensures in
          let more = w.if-groups-len.true in
          absurd (omega (arith, few, long, more))
      | then-groups-len-via-else-groups-len+then-not-is_root w ↦ let e = w.is_root.ensures in let f = w.if-not-is_root.true in absurd (not_both w.is_root.result (e.1 root) f)
    ]

pub scan-requires-clause-few : goal.scan-requires-clause-few
scan-requires-clause-few c =
    let n = length-map-range_with_len (stored_cell c.args.bytes.now) 0 (length c.args.bytes.now / 8) in
    omega (arith, n)
