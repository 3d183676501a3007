use Rattle.lex_source.proofs.SplitLemmas.{after_all}
use Rattle.lex_source.proofs.LineLemmas.{cut_lines, last_line}
use Rattle.lex_source.proofs.numbered.first_line.Goals as goal

pub returns-in-Some-clause-lines : goal.returns-in-Some-clause-lines
returns-in-Some-clause-lines c = cut_lines c.args.bytes.now c.in-Some.line.now c.in-Some.rest.now c.without_return.result.now c.in-Some.ensures c.without_return.ensures

pub returns-in-None-clause-lines : goal.returns-in-None-clause-lines
returns-in-None-clause-lines c = last_line c.args.bytes.now c.without_return-in-None.result.now _ c.requires c.in-None.ensures c.without_return-in-None.ensures (after_all c.args.bytes.now)
