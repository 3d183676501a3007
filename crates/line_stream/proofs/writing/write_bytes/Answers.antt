use Rattle.std.proofs.Common.{arith, length, take, drop, ◌-◌, ◌∙◌, nat_lt}
use Rattle.line_stream.proofs.WritingLemmas.{appends_more, within_more, no_failure}
use Rattle.line_stream.proofs.writing.write_bytes.Goals as goal

pub loop-sent-preserved : goal.loop-sent-preserved
loop-sent-preserved g c =
    let inv = c.loop-sent.invariant in
    let bytes = c.args.bytes.now in
    let sent = c.loop-sent.sent in
    let none = no_failure c.in-Ok.n (nat_lt 0 (length (take (length bytes - sent) (drop sent bytes)))) c.in-Ok.n-test.1 in
    let counted = c.in-Ok.ensures.failures in
    let flushes = c.in-Ok.ensures.flushes in (
      within_more bytes sent c.in-Ok.n inv.0 c.in-Ok.ensures.bound,
      appends_more _ _ _ bytes sent c.in-Ok.n inv.1 c.in-Ok.ensures.bytes,
      omega (arith, none, counted, inv.2),
      flushes ∙ inv.3,
    )
