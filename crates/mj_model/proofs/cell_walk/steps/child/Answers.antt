use Rattle.std.proofs.Common.{◌≡◌, ◌∙◌, arith, of_z, refl, rules, sym, subst, w32}
use mir.Val.{SFits}
use Rattle.std.proofs.lemmas.Int.{to_z-of_z}
use Rattle.mj_model.specs.Steps.{IsChildAt}
use Rattle.mj_model.proofs.StepLemmas.{no_child_there, child_there, other_check}
use Rattle.mj_model.proofs.cell_walk.steps.child.Goals as goal

pub returns-in_err-base-clause-child : goal.returns-in_err-base-clause-child
returns-in_err-base-clause-child g c =
    let cells = g.C.CellRead.cells c.args.cells.now in
    subst (IsChildAt cells c.args.state c.args.i) (sym c.from_residual.ensures) (no_child_there cells c.args.i c.args.state c.in_err-base.ensures.cell)

pub returns-then-cast_unsigned-state-clause-child : goal.returns-then-cast_unsigned-state-clause-child
returns-then-cast_unsigned-state-clause-child g c =
    let base_fits : SFits w32 c.in_ok-base.base = search rules in
    let check_fits : SFits w32 c.in_ok-base.check = search rules in
    let bits : c.cast_unsigned.result ≡ of_z w32 c.in_ok-base.check = grind (arith, to_z-of_z) in
    let there = child_there (g.C.CellRead.cells c.args.cells.now) c.args.i c.args.state c.in_ok-base.base c.in_ok-base.check c.requires.cells c.in_ok-base.ensures.cell
    (sym bits ∙ c.if-cast_unsigned-state.true) c.requires.state base_fits check_fits in
    (there.0, there.1, refl)

pub returns-else-cast_unsigned-state-clause-child : goal.returns-else-cast_unsigned-state-clause-child
returns-else-cast_unsigned-state-clause-child g c =
    let check_fits : SFits w32 c.in_ok-base.check = search rules in
    let bits : c.cast_unsigned.result ≡ of_z w32 c.in_ok-base.check = grind (arith, to_z-of_z) in
    other_check (g.C.CellRead.cells c.args.cells.now) c.args.i c.args.state c.in_ok-base.base c.in_ok-base.check c.in_ok-base.ensures.cell
    (λ same. c.if-cast_unsigned-state.false (bits ∙ same)) c.requires.state
