use Rattle.std.proofs.Common.{◌≡◌, ◌<◌, ◌+◌, List, length, ap, sym, ◌∙◌, arith, subst, true≢false}
use Rattle.std.proofs.lemmas.List.{length-map}
use Rattle.mj_model.specs.Lexicon.{Row, row_of}
use Rattle.image_writer.specs.Entries.{surface_at}
use Rattle.image_writer.specs.Groups.{AreGrouped, StartsGroup}
use Rattle.image_writer.proofs.GroupingLemmas.{grouped_started, grouped_on, grouped_full, grouped_none, key_of_entry}
use Rattle.image_writer.proofs.Results.{passed_on}
use Rattle.image_writer.proofs.groups.group_entries.Goals as goal
use Rattle.image_writer.proofs.groups.group_entries.Goals.{then-starts_group+in_ok-start_group, else-starts_group}

pub loop-i-init : goal.loop-i-init
loop-i-init c = grouped_none c.args.lexicon.now.rows c.in_ok-new.field-0 c.in_ok-new.ensures.map c.in_ok-new.ensures.few c.new-2.result c.new-2.ensures.items

pub loop-i-preserved : goal.loop-i-preserved
loop-i-preserved c =
    let rows : List Row = c.args.lexicon.now.rows in
    let records = c.records-records.result.now in
    let are = c.records-records.ensures.rows in
    let sorted = c.records-records.ensures.formed.sorted in
    let i = c.loop-i.i in
    let test = c.loop-i-test.true in
    let less : i < length rows = let e = length-map records row_of in let f = ap length are in omega (arith, e, f, test) in
    elim c.if-starts_group.branch [
      | then-starts_group+in_ok-start_group w ↦
          subst (AreGrouped rows (i + 1)) (sym w.groups-is)
          (grouped_started rows sorted i c.loop-i.groups w.start_group.new.self w.as_bytes.result.now less c.loop-i.invariant
          (subst (λ (rs : List Row). StartsGroup rs i) are (c.starts_group.ensures.0 w.if-starts_group.true))
          (key_of_entry records i w.index-records-i.result w.as_bytes.result.now test (w.as_bytes.ensures.value ∙ w.as_str.ensures.value) ∙ ap (λ (rs : List Row). surface_at rs i) are)
          w.in_ok-start_group.ensures.map w.in_ok-start_group.ensures.starts w.in_ok-start_group.ensures.growth)
      | else-starts_group w ↦
          subst (AreGrouped rows (i + 1)) (sym w.groups-is)
          (grouped_on rows i c.loop-i.groups less c.loop-i.invariant
          (λ begins. true≢false (sym (c.starts_group.ensures.1 (subst (λ (rs : List Row). StartsGroup rs i) (sym are) begins)) ∙ w.if-starts_group.false)))
    ]

pub returns-in_err-start_group-clause-full : goal.returns-in_err-start_group-clause-full
returns-in_err-start_group-clause-full c =
    let rows : List Row = c.args.lexicon.now.rows in
    let records = c.records-records.result.now in
    let are = c.records-records.ensures.rows in
    let i = c.loop-i.i in
    let test = c.loop-i-test.true in
    let less : i < length rows = let e = length-map records row_of in let f = ap length are in omega (arith, e, f, test) in
    passed_on c.from_residual-in_err-start_group.result _ c.from_residual-in_err-start_group.ensures.1
    (λ same. grouped_full rows c.records-records.ensures.formed.sorted i c.loop-i.groups c.as_bytes.result.now less c.loop-i.invariant
    (subst (λ (rs : List Row). StartsGroup rs i) are (c.starts_group.ensures.0 c.if-starts_group.true))
    (key_of_entry records i c.index-records-i.result c.as_bytes.result.now test (c.as_bytes.ensures.value ∙ c.as_str.ensures.value) ∙ ap (λ (rs : List Row). surface_at rs i) are)
    (c.in_err-start_group.ensures.full same))

pub returns-clause-grouped : goal.returns-clause-grouped
returns-clause-grouped c =
    let rows : List Row = c.args.lexicon.now.rows in
    let records = c.records-records.result.now in
    let long = length-map records row_of in
    let same = ap length c.records-records.ensures.rows in
    let past = c.loop-i-test.false in
    let all : c.loop-i.i ≡ length rows = omega (arith, long, same, past) in
    subst (λ n. AreGrouped rows n c.loop-i.groups) all c.loop-i.invariant
