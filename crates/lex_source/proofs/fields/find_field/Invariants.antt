use Rattle.std.specs.Prelude.{option_copied}
use Rattle.lex_source.specs.Spelled.{HasFieldAt}
use Rattle.lex_source.proofs.fields.find_field.Given as goal

abbrev pub invariant-loop : goal.invariant-loop
invariant-loop l = HasFieldAt l.text l.counter l.found.raw.now l.found.quoted (option_copied l.found.rest)
