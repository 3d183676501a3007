use Rattle.std.proofs.Common.{arith}
use Rattle.mj_model.proofs.cell_walk.walk.next_hit.Goals as goal

pub value_at-requires-clause-reads : goal.value_at-requires-clause-reads
value_at-requires-clause-reads g c =
    let few = c.in-Some.ensures.room in
    let within = c.in-Some.ensures.walking.within in
    omega (arith, few, within)
