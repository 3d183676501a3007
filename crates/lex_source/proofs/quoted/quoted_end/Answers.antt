use Rattle.std.proofs.Common.{arith}
use Rattle.lex_source.proofs.QuoteLemmas.{doubled_start, doubled_more}
use Rattle.lex_source.proofs.quoted.quoted_end.Goals as goal

pub loop-at-init : goal.loop-at-init
loop-at-init c = record {
  within = c.next_quote-at.ensures.high;
  inside = doubled_start c.args.bytes.now c.next_quote-at.result c.next_quote-at.ensures;
  here = c.next_quote-at.ensures.here;
}

pub loop-at-preserved : goal.loop-at-preserved
loop-at-preserved c = record {
  within = c.next_quote-at-in-loop-at.ensures.high;
  inside = doubled_more c.args.bytes.now c.loop-at.at c.next_quote-at-in-loop-at.result c.loop-at.invariant.inside (omega arith) (c.loop-at.invariant.here (omega arith)) c.if-bytes-at-eq34.true
      c.next_quote-at-in-loop-at.ensures;
  here = c.next_quote-at-in-loop-at.ensures.here;
}
