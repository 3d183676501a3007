use Rattle.programs.specs.ImageDirs.{AreBare}
use Rattle.programs.proofs.folder_names.names_in.Given as goal

abbrev pub invariant-loop-entry : goal.invariant-loop-entry
invariant-loop-entry l = AreBare l.names.items
