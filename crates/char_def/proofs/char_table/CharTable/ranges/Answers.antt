use Rattle.std.proofs.Common.{◌∙◌, sym, ap, ◌++◌, ◌∷◌, [], List}
use Rattle.char_def.specs.declared.info_range.CategoryRange.{CategoryRange}
use Rattle.char_def.specs.Definitions.{definitions_are}
use Rattle.char_def.proofs.RangeLemmas.{ranges_started, ranges_step, ranges_done}
use Rattle.char_def.proofs.char_table.CharTable.ranges.Goals as goal

pub loop-step-init : goal.loop-step-init
loop-step-init c =
    ranges_started (definitions_are c.self.inside.definitions.items) c.deref-step-items.result.now c.push.new.self.items c.info.result
    (rw c.deref-step-items.ensures.value (rw (← c.self.view_is) at c.info.ensures.info))
    (c.in_ok-push.ensures.items ∙ ap (λ (ranges : List CategoryRange). ranges ++ record { first = 0; info = c.info.result } ∷ []) c.in_ok-ranges.ensures.items)

pub push_range-requires : goal.push_range-requires
push_range-requires c = c.loop-step.invariant.formed.some

pub loop-step-preserved : goal.loop-step-preserved
loop-step-preserved c =
    ranges_step (definitions_are c.self.inside.definitions.items) c.deref-step-items.result.now c.loop-step.step-index _ c.loop-step.ranges.items c.push_range.new.ranges.items c.unwrap_or.result
    (rw c.deref-step-items.ensures.value c.self.invariant.rising) c.loop-step-test.true c.loop-step.invariant (rw c.self.invariant.default_is at c.unwrap_or.ensures)
    c.in_ok-push_range.ensures.same c.in_ok-push_range.ensures.above c.in_ok-push_range.ensures.added

pub returns : goal.returns
returns c =
    ranges_done c.args.self.now (definitions_are c.self.inside.definitions.items) c.deref-step-items.result.now c.loop-step.step-index c.loop-step.ranges.items
    (rw c.deref-step-items.ensures.value (sym c.self.view_is)) c.loop-step-test.false c.loop-step.invariant
