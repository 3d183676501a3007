use Rattle.line_stream.proofs.WritingLemmas.{appends_more, within_more}
use Rattle.programs.proofs.output.write_whole.Goals as goal

pub loop-sent-preserved : goal.loop-sent-preserved
loop-sent-preserved g c =
    let inv = c.loop-sent.invariant in
    let bytes = c.args.bytes.now in
    let sent = c.loop-sent.sent in (
      within_more bytes sent c.in-Ok.taken inv.0 c.in-Ok.ensures.bound,
      appends_more _ _ _ bytes sent c.in-Ok.taken inv.1 c.in-Ok.ensures.bytes,
    )
