use Rattle.std.proofs.Common.{leb, rules, arith}
use Rattle.std.proofs.lemmas.List.Sorted.{IsPartitionPoint-from_clause, IsPartitionedBy-leb}
use Rattle.char_def.proofs.CoverageLemmas.{rising_sorted, no_step, last_step}
use Rattle.char_def.proofs.overlay.find_step.Goals as goal

pub returns-then-following-eq0 : goal.returns-then-following-eq0
returns-then-following-eq0 c =
    let parted = IsPartitionedBy-leb (λ s. s.first) _ c.args.code (rising_sorted 0 c.args.steps.now c.requires) in
    let point = IsPartitionPoint-from_clause (λ s. leb s.first c.args.code) _ _ c.partition_point-following.ensures.partitioned parted (λ a r q k. search rules) in
    no_step c.args.steps.now c.args.code c.partition_point-following.result point c.if-following-eq0.true

pub returns-else-following-eq0 : goal.returns-else-following-eq0
returns-else-following-eq0 c =
    let parted = IsPartitionedBy-leb (λ s. s.first) _ c.args.code (rising_sorted 0 c.args.steps.now c.requires) in
    let point = IsPartitionPoint-from_clause (λ s. leb s.first c.args.code) _ _ c.partition_point-following.ensures.partitioned parted (λ a r q k. search rules) in
    last_step c.args.steps.now c.args.code c.partition_point-following.result point c.partition_point-following.ensures.bound (omega arith) _
