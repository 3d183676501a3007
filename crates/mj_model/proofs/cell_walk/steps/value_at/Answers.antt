use Rattle.std.proofs.Common.{rules, arith, ap, sym, ◌+◌, ◌∙◌, w32, Some, ℕ}
use mir.Val.{SFits}
use Rattle.std.specs.Option.{option_and_then}
use Rattle.mj_model.specs.CellMap.{base, value_in}
use Rattle.mj_model.proofs.ReadLemmas.{step_reads_at}
use Rattle.mj_model.proofs.StepLemmas.{no_step, end_step, reported_value, reported_value_fits}
use Rattle.mj_model.proofs.cell_walk.steps.value_at.Goals as goal

pub returns-in_err-found-clause-value : goal.returns-in_err-found-clause-value
returns-in_err-found-clause-value g c =
    let cells = g.C.CellRead.cells c.args.cells.now in
    let none = no_step cells c.args.from.state 0 c.args.from.base c.args.from.base c.requires.from.based (omega arith) c.in_err-found.ensures.child in
    c.from_residual.ensures ∙ sym (ap (option_and_then (λ (t : ℕ). value_in (base cells t))) none)

pub overflow_cast-result : goal.overflow_cast-result
overflow_cast-result g c =
    let cells = g.C.CellRead.cells c.args.cells.now in
    let fits : SFits w32 c.in_ok-found.found.base = search rules in
    let found = c.in_ok-found.ensures.child in
    let e = end_step cells c.args.from.state c.args.from.base c.in_ok-found.found.base c.requires.cells c.requires.from.based found.0 found.1 in
    reported_value_fits c.in_ok-found.found.base e.0 e.1 fits

pub returns-clause-value : goal.returns-clause-value
returns-clause-value g c =
    let cells = g.C.CellRead.cells c.args.cells.now in
    let fits : SFits w32 c.in_ok-found.found.base = search rules in
    let found = c.in_ok-found.ensures.child in
    let e = end_step cells c.args.from.state c.args.from.base c.in_ok-found.found.base c.requires.cells c.requires.from.based found.0 found.1 in
    ap Some (reported_value c.in_ok-found.found.base e.0 e.1 fits) ∙ sym e.2

pub returns-in_err-found-clause-reads : goal.returns-in_err-found-clause-reads
returns-in_err-found-clause-reads g c =
    let cells = g.C.CellRead.cells c.args.cells.now in
    c.child.ensures.reads ∙ ap (λ (n : ℕ). c.args.reads.now + n) (step_reads_at cells c.args.from.state 0 c.args.from.base c.args.from.base c.requires.from.based (omega arith))

pub returns-clause-reads : goal.returns-clause-reads
returns-clause-reads g c =
    let cells = g.C.CellRead.cells c.args.cells.now in
    c.child.ensures.reads ∙ ap (λ (n : ℕ). c.args.reads.now + n) (step_reads_at cells c.args.from.state 0 c.args.from.base c.args.from.base c.requires.from.based (omega arith))
