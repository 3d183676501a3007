use Rattle.double_array.specs.Ring.{HasLinks}
use Rattle.double_array.proofs.search.search_family.Given as goal

abbrev pub invariant-loop : goal.invariant-loop
invariant-loop l = HasLinks l.cells l.i
