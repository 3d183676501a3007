use Rattle.std.proofs.Common.{[]}
use Rattle.programs.proofs.reading.read_whole.Goals as goal

pub returns-clause-whole : goal.returns-clause-whole
returns-clause-whole g c = c.read_into.ensures.whole [] c.new.ensures.items
