use Rattle.std.proofs.Common.{◌≡◌, ◌++◌, map}
use Rattle.std.specs.Vec.Iter.{into_iter_items}
use Rattle.lex_source.specs.PrefixedRecords.{without_prefix}
use Rattle.lex_source.proofs.ordering.with_prefixes.Given as goal

abbrev pub invariant-loop-row : goal.invariant-loop-row
invariant-loop-row l = map without_prefix l.headed.items ++ into_iter_items l.row-iterator ≡ into_iter_items l.initial.row-iterator
