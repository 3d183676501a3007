use Rattle.std.proofs.lemmas.List.{take_rest}
use Rattle.lex_source.proofs.QuoteLemmas.{next_found, next_missing}
use Rattle.lex_source.proofs.quoted.next_quote.Goals as goal

pub returns-in-Some : goal.returns-in-Some
returns-in-Some c = next_found c.args.bytes.now _ c.args.start c.in-Some.at (take_rest c.args.bytes.now c.args.start) c.requires c.in-Some.ensures.0 c.in-Some.ensures.1

pub returns-in-None : goal.returns-in-None
returns-in-None c = next_missing c.args.bytes.now _ c.args.start (take_rest c.args.bytes.now c.args.start) c.requires c.in-None.ensures
