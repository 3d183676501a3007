use Rattle.std.proofs.lemmas.Result.{IfOk-weaker}
use Rattle.char_def.proofs.CoverageLemmas.{both_covered, halves}
use Rattle.char_def.proofs.coverage.+coverage.Goals as goal

pub returns-in_ok-above-in_default : goal.returns-in_ok-above-in_default
returns-in_ok-above-in_default t c =
    let is = halves c.args.ranges.now _ _ _ c.split_at.ensures.front c.split_at.ensures.back in
    IfOk-weaker c.overlay.result _ _ (λ steps o.
    both_covered c.args.ranges.now _ _ _ _ steps.items is c.in_ok-below-in_default.ensures c.in_ok-above-in_default.ensures (rw (c.deref.ensures.value, c.deref-in_default.ensures.value) at o)) c.overlay.ensures
