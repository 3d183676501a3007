use Rattle.char_def.proofs.NameLemmas.{a_name, no_name}
use Rattle.char_def.proofs.line.category_name.Goals as goal

pub returns-in-Ok : goal.returns-in-Ok
returns-in-Ok c = (a_name c.args.word.now c.if-word-gt-CATEGORY_NAME_MAX.false c.in-Ok.ensures.cases.1, c.in-Ok.ensures.cases.0)

pub returns-in-Err : goal.returns-in-Err
returns-in-Err c = no_name c.args.word.now c.if-word-gt-CATEGORY_NAME_MAX.false c.in-Err.ensures.cases.0
