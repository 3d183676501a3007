use Rattle.std.proofs.Common.{sym, ◌∙◌}
use Rattle.lex_source.proofs.EntryLemmas.{outside_more}
use Rattle.lex_source.proofs.source_lexicon.line_outside.Goals as goal

pub loop-record-preserved : goal.loop-record-preserved
loop-record-preserved c =
    outside_more c.args.sizes c.args.records.now c.loop-record.record-index c.record-item.result c.loop-record-test.true c.record-item.is
    (sym c.contains.ensures ∙ c.if-not-contains.false) c.loop-record.invariant
