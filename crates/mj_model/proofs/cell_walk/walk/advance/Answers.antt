use Rattle.std.proofs.Common.{◌≡◌, ◌+◌, ◌<◌, ◌≤◌, ℕ, [], sym, subst, length, drop, arith, ap, ◌∙◌, Option, None, Some}
use Rattle.std.specs.Option.{IfSome}
use Rattle.std.proofs.lemmas.Bool.{ltb-false, ltb-true}
use Rattle.std.proofs.lemmas.List.{get_or_read}
use Rattle.mj_model.specs.Steps.{IsStepTo}
use Rattle.mj_model.specs.Hits.{hits_at}
use Rattle.mj_model.proofs.HitLemmas.{no_hits, hits_on}
use Rattle.mj_model.specs.Reads.{step_reads}
use Rattle.mj_model.proofs.ReadLemmas.{step_at_most_one}
use Rattle.mj_model.proofs.WalkLemmas.{advanced, few_reads}
use Rattle.mj_model.proofs.cell_walk.walk.advance.Goals as goal

if_some : {A : Type 0} {P : Type 0} (o : Option A) → P → IfSome o (λ a. P)
if_some None p = tt
if_some (Some a) p = p

pub returns-in_err-byte-clause-hits : goal.returns-in_err-byte-clause-hits
returns-in_err-byte-clause-hits g c =
    let cells = g.C.CellRead.cells c.args.cells.now in
    let text = c.args.text.now in
    let n = c.args.walk.now.length in
    let over : length text ≤ n = ltb-false n (length text) (sym c.in_err-byte.ensures.lookup.0) in
    let none : hits_at cells c.args.walk.now.place n (drop n text) ≡ [] = rw (c.in_ok-place.was) (no_hits cells c.in_ok-place.place.state n text over) in
    rw c.from_residual-in_err-byte.ensures (none, none)

pub returns-clause-hits : goal.returns-clause-hits
returns-clause-hits g c =
    let cells = g.C.CellRead.cells c.args.cells.now in
    let text = c.args.text.now in
    let n = c.args.walk.now.length in
    let less : n < length text = ltb-true n (length text) (sym c.in_ok-byte.ensures.lookup.0) in
    let e = get_or_read text n c.in_ok-byte.field-0.now less c.in_ok-byte.ensures.lookup.1 0 in
    rw (c.in_ok-place.was)
    (hits_on cells c.in_ok-place.place.state n text c.step-walk.result less (subst (λ (b : ℕ). IsStepTo cells c.in_ok-place.place.state (b + 1) c.step-walk.result) e c.step-walk.ensures.step))

pub step-walk-requires-clause-reads : goal.step-walk-requires-clause-reads
step-walk-requires-clause-reads g c =
    let cells = g.C.CellRead.cells c.args.cells.now in
    let text = c.args.text.now in
    let n = c.args.walk.now.length in
    let less : n < length text = ltb-true n (length text) (sym c.in_ok-byte.ensures.lookup.0) in
    let all = few_reads 0 cells text c.args.walk.now c.requires in
    let few = rw (c.in_ok-place.was) at all in
    omega (arith, few, less)

pub returns-clause-room : goal.returns-clause-room
returns-clause-room g c =
    let cells = g.C.CellRead.cells c.args.cells.now in
    let all = few_reads 0 cells c.args.text.now c.args.walk.now c.requires in
    let few = rw (c.in_ok-place.was) at all in
    let e = c.step-walk.ensures.reads in
    let one = step_at_most_one cells c.in_ok-place.place.state (c.in_ok-byte.field-0.now + 1) in
    if_some c.step-walk.result (omega (arith, few, e, one))

pub returns-clause-walking : goal.returns-clause-walking
returns-clause-walking g c =
    let cells = g.C.CellRead.cells c.args.cells.now in
    let text = c.args.text.now in
    let n = c.args.walk.now.length in
    let less : n < length text = ltb-true n (length text) (sym c.in_ok-byte.ensures.lookup.0) in
    let e = get_or_read text n c.in_ok-byte.field-0.now less c.in_ok-byte.ensures.lookup.1 0 in
    let led = rw (c.in_ok-place.was) at c.requires.led in
    let reads = rw (c.in_ok-place.was) at c.requires.reads in
    advanced cells text n c.in_ok-place.place.state c.args.walk.now.reads c.step-walk.new.reads c.step-walk.result c.requires.are less led reads
    (subst (λ (b : ℕ). IsStepTo cells c.in_ok-place.place.state (b + 1) c.step-walk.result) e c.step-walk.ensures.step) (c.step-walk.ensures.reads ∙ ap (λ (b : ℕ). c.args.walk.now.reads + step_reads cells c.in_ok-place.place.state (b + 1)) e)
