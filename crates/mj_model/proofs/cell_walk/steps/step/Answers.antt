use Rattle.std.proofs.Common.{◌≡◌, Some, of_z, to_z, rules, arith, ℕ, ap, sym, subst, ◌+◌, ◌<◌, ◌∙◌, pos, w32}
use lib.IntN.{nat_abs}
use mir.Val.{SFits}
use Rattle.std.proofs.lemmas.Int.{to_z-of_z}
use Rattle.mj_model.specs.CellMap.{step}
use Rattle.mj_model.specs.Steps.{IsAt, IsStepTo}
use Rattle.mj_model.proofs.StepLemmas.{no_step, byte_step, low_base}
use Rattle.mj_model.proofs.ReadLemmas.{step_reads_at}
use Rattle.mj_model.proofs.cell_walk.steps.step.Goals as goal

pub returns-in_err-found-clause-step : goal.returns-in_err-found-clause-step
returns-in_err-found-clause-step g c =
    let cells = g.C.CellRead.cells c.args.cells.now in
    subst (IsStepTo cells c.args.from.state (c.args.byte + 1)) (sym c.from_residual.ensures)
    (no_step cells c.args.from.state (c.args.byte + 1) (c.args.from.base + c.args.byte + 1) c.args.from.base c.requires.from.based (omega arith) c.in_err-found.ensures.child)

pub returns-clause-step : goal.returns-clause-step
returns-clause-step g c =
    let cells = g.C.CellRead.cells c.args.cells.now in
    let fits : SFits w32 c.in_ok-found.found.base = search rules in
    let found = c.in_ok-found.ensures.child in
    let e = byte_step cells c.args.from.state c.args.byte c.args.from.base c.in_ok-found.found.base c.requires.cells c.requires.from.based found.0 found.1 in
    let low = c.requires.from.low in
    let byte : c.args.byte < 256 = search rules in
    subst (λ (state : ℕ). (step cells c.args.from.state (c.args.byte + 1) ≡ Some state) × IsAt cells (record { state = state; base = nat_abs (to_z w32 (of_z w32 c.in_ok-found.found.base)) })) (sym found.2)
    (e.0, record { based = e.1 ∙ ap (λ z. pos (nat_abs z)) (sym (to_z-of_z w32 c.in_ok-found.found.base fits)); low = low_base c.in_ok-found.found.base _ (sym found.1 ∙ e.1) fits; small = omega (arith, low, byte) })

pub returns-in_err-found-clause-reads : goal.returns-in_err-found-clause-reads
returns-in_err-found-clause-reads g c =
    let cells = g.C.CellRead.cells c.args.cells.now in
    c.child.ensures.reads ∙ ap (λ (n : ℕ). c.args.reads.now + n) (step_reads_at cells c.args.from.state (c.args.byte + 1) c.args.from.base _ c.requires.from.based (omega arith))

pub returns-clause-reads : goal.returns-clause-reads
returns-clause-reads g c =
    let cells = g.C.CellRead.cells c.args.cells.now in
    c.child.ensures.reads ∙ ap (λ (n : ℕ). c.args.reads.now + n) (step_reads_at cells c.args.from.state (c.args.byte + 1) c.args.from.base _ c.requires.from.based (omega arith))
