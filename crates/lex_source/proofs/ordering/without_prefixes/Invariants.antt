use Rattle.std.proofs.Common.{◌≡◌, ◌++◌, map}
use Rattle.std.specs.Vec.Iter.{into_iter_items}
use Rattle.lex_source.specs.PrefixedRecords.{without_prefix}
use Rattle.lex_source.proofs.ordering.without_prefixes.Given as goal

abbrev pub invariant-loop-one : goal.invariant-loop-one
invariant-loop-one l = l.room.items ++ map without_prefix (into_iter_items l.one-iterator) ≡ map without_prefix (into_iter_items l.initial.one-iterator)
