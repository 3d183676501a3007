use Rattle.std.proofs.Common.{◌≡◌, ℕ, subst, arith, Some}
use Rattle.lex_source.specs.Spelled.{IsFieldAt}
use Rattle.lex_source.proofs.FieldsLemmas.{at_start, at_next, no_field, a_field_at}
use Rattle.lex_source.proofs.fields.find_field.Goals as goal

pub loop-init : goal.loop-init
loop-init c = at_start _ _ _ _ c.first-found.ensures

pub loop-preserved : goal.loop-preserved
loop-preserved c = at_next c.args.text.now _ _ _ c.in_ok-found.field-0 _ _ _ c.loop.counter c.loop.invariant c.in_ok-found.was c.first-found-in-loop.ensures

pub returns-in_err-found : goal.returns-in_err-found
returns-in_err-found c = rw c.from_residual.ensures (no_field c.args.text.now _ _ _ c.loop.counter c.args.n c.loop.invariant c.in_err-found.was c.loop-test.true)

pub returns : goal.returns
returns c =
    let e : c.loop.counter ≡ c.args.n = omega arith in
    subst (λ (n : ℕ). IsFieldAt c.args.text.now n (Some c.loop.found)) e (a_field_at c.args.text.now c.loop.found c.loop.counter c.loop.invariant)
