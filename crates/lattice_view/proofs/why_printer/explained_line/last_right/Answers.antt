use Rattle.std.proofs.Common.{ap, sym, ◌∙◌}
use Rattle.std.specs.Option.{option_copied}
use Rattle.lattice_view.proofs.EosLemmas.{right_of_last, right_of_none}
use Rattle.lattice_view.proofs.why_printer.explained_line.last_right.Goals as goal

pub returns-in-Some : goal.returns-in-Some
returns-in-Some c = right_of_last c.args.words.now _ (sym c.last.ensures.value ∙ ap option_copied c.in-Some.is)

pub returns-in-None : goal.returns-in-None
returns-in-None c = right_of_none c.args.words.now (sym c.last.ensures.value ∙ ap option_copied c.in-None.is)
