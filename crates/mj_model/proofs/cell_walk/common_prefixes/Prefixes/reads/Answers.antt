use Rattle.std.proofs.Common.{◌+◌, ◌*◌, ◌≤◌, arith, length, subst}
use Rattle.mj_model.specs.HitsView.{HitsView}
use Rattle.mj_model.proofs.WalkLemmas.{few_in_text}
use Rattle.mj_model.proofs.cell_walk.common_prefixes.Prefixes.reads.Goals as goal

pub returns-clause-few : goal.returns-clause-few
returns-clause-few g c =
    let few = few_in_text 0 (g.C.CellRead.cells c.self.inside.cells) c.self.inside.text.now c.self.inside.walk c.self.invariant in
    subst (λ (s : HitsView). c.self.inside.walk.reads ≤ 2 * length s.text + 1) c.self.view_is (omega (arith, few))
