use Rattle.std.proofs.Common.{◌∙◌, ap, sym, rules, Some}
use Rattle.std.specs.Prelude.{ℤ}
use Rattle.std.proofs.lemmas.Int.{to_z-of_z}
use mir.Val.{SFits}
use mir.Syntax.{w16}
use Rattle.lex_source.proofs.OutcomeLemmas.{id_read, cost_read, no_left_id, no_right_id, no_cost, a_row}
use Rattle.lex_source.proofs.outcome.ids_and_cost.Goals as goal

pub returns-in_err-context_id : goal.returns-in_err-context_id
returns-in_err-context_id c = λ number meant s.
    rw c.from_residual.ensures (no_left_id number meant (id_read _ _ _ meant.left _ s.left c.as_bytes.ensures.value c.in_err-context_id.ensures))

pub returns-in_err-context_id-2 : goal.returns-in_err-context_id-2
returns-in_err-context_id-2 c = λ number meant s.
    rw c.from_residual-in_err-context_id-2.ensures
    (no_right_id number meant c.in_ok-context_id.field-0 (id_read _ _ _ meant.left _ s.left c.as_bytes.ensures.value c.in_ok-context_id.ensures)
    (id_read _ _ _ meant.right _ s.right c.as_bytes-2.ensures.value c.in_err-context_id-2.ensures))

pub returns-in_err-cost : goal.returns-in_err-cost
returns-in_err-cost c = λ number meant s.
    rw c.from_residual-in_err-cost.ensures
    (no_cost number meant c.in_ok-context_id.field-0 c.in_ok-context_id-2.field-0 (id_read _ _ _ meant.left _ s.left c.as_bytes.ensures.value c.in_ok-context_id.ensures)
    (id_read _ _ _ meant.right _ s.right c.as_bytes-2.ensures.value c.in_ok-context_id-2.ensures)
    (cost_read _ _ _ meant.cost _ s.cost c.as_bytes-3.ensures.value c.in_err-cost.ensures))

pub returns : goal.returns
returns c = λ number meant s.
    let fits : SFits w16 c.in_ok-cost.field-0 = search rules in
    a_row number meant c.in_ok-context_id.field-0 c.in_ok-context_id-2.field-0 c.in_ok-cost.field-0
    (id_read _ _ _ meant.left _ s.left c.as_bytes.ensures.value c.in_ok-context_id.ensures)
    (id_read _ _ _ meant.right _ s.right c.as_bytes-2.ensures.value c.in_ok-context_id-2.ensures)
    (cost_read _ _ _ meant.cost _ s.cost c.as_bytes-3.ensures.value c.in_ok-cost.ensures)
    ∙ ap (λ (z : ℤ). Some (record { line = number; surface = meant.surface; left = c.in_ok-context_id.field-0; right = c.in_ok-context_id-2.field-0; cost = z; feature = meant.feature }))
    (sym (to_z-of_z w16 c.in_ok-cost.field-0 fits))
