use Rattle.std.proofs.Common.{◌≡◌, ◌+◌, true, false, sym, refl, ◌∙◌}
use Rattle.mj_model.proofs.CellWalks.{step_at}
use Rattle.double_array.proofs.InsertionLemmas.{no_child_no_step}
use Rattle.double_array.proofs.insertion.child.Goals as goal

pub returns-then-is_child : goal.returns-then-is_child
returns-then-is_child c = sym (step_at c.args.pool.now.cells c.args.state c.args.code (c.args.from + c.args.code) c.args.from c.requires.based refl (c.is_child.ensures.0 c.if-is_child.true))

pub returns-else-is_child : goal.returns-else-is_child
returns-else-is_child c =
    sym (no_child_no_step c.args.pool.now.cells c.args.state c.args.from c.args.code c.requires.based (λ named. let t = c.is_child.ensures.1 named in let f : true ≡ false = sym t ∙ c.if-is_child.false in absurd (cc)))
