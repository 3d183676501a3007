use Rattle.lex_source.proofs.FieldLemmas.{plain_last}
use Rattle.lex_source.proofs.raw_field.plain_field.Goals as goal

pub returns-in-None : goal.returns-in-None
returns-in-None c = plain_last c.args.text.now c.requires c.in-None.ensures
