use Rattle.std.proofs.Common.{◌∙◌, ◌<◌, Fits, w64, rules}
use Rattle.lex_source.proofs.AppendLemmas.{started, still_below, taken, rejected, finished, counted_is, counted_fits}
use Rattle.lex_source.proofs.lexicon.append_lines.Goals as goal

pub loop-number-init : goal.loop-number-init
loop-number-init c = (tt, tt, started c.args.out.now.items c.args.bytes.now _ (c.into_iter-number-iterator.ensures.into_iter_gives ∙ c.lines-number-items.ensures))

pub overflow_add-skipped : goal.overflow_add-skipped
overflow_add-skipped c =
    let below : c.loop-number.skipped < c.in-Some.number = still_below _ _ _ _ _ _ _ _ c.loop-number.invariant.2 c.in-Some.ensures.steps in
    let fits : Fits w64 c.in-Some.number = search rules in
    counted_fits c.loop-number.skipped c.in-Some.number c.from-skipped.result c.in-Ok.counts below fits c.from-skipped.ensures

pub loop-number-preserved : goal.loop-number-preserved
loop-number-preserved c = (tt, tt, taken _ _ _ _ _ _ _ _ _ _ c.in-Ok.counts c.loop-number.invariant.2 c.in-Some.ensures.steps c.in-Ok.ensures.taken (c.from-skipped.ensures ∙ counted_is c.in-Ok.counts))

pub returns-in-Err-clause-read : goal.returns-in-Err-clause-read
returns-in-Err-clause-read c = rw c.at.ensures (rejected _ _ c.args.bytes.now _ _ c.args.file c.in-Some.number _ _ c.in-Err.kind c.loop-number.invariant.2 c.in-Some.ensures.steps c.in-Err.ensures.rejected)

pub returns-clause-read : goal.returns-clause-read
returns-clause-read c = finished _ _ c.args.bytes.now _ c.args.file c.loop-number.skipped c.loop-number.invariant.2 c.in-None.ensures.steps.0
