use Rattle.std.proofs.Common.{◌∙◌, ap, Option, ◌++◌, ◌∷◌, []}
use Rattle.mj_model.specs.declared.category.CharInfo.{CharInfo}
use Rattle.char_def.proofs.OverlayLemmas.{laid_more}
use Rattle.char_def.proofs.overlay.overlay.Goals as goal

pub loop-first-preserved : goal.loop-first-preserved
loop-first-preserved c =
    laid_more c.args.below.now c.args.above.now c.loop-first.steps.items _ _ _ _ _ c.in-Some.first _ _ _ _ c.loop-first.invariant c.in-Some.ensures.least
    c.past-lower.ensures.same c.past-lower.ensures.rising c.past-upper.ensures.same c.past-upper.ensures.rising
    (c.in_ok-push.ensures.items ∙ ap (λ (info : Option CharInfo). c.loop-first.steps.items ++ record { first = c.in-Some.first; info = info } ∷ []) c.or.ensures)
