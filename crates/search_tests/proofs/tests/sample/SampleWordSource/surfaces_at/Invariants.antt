use Rattle.std.proofs.Common.{◌≡◌, ◌++◌, length, take, drop}
use Rattle.search_tests.specs.Sample.{sample_surfaces}
use Rattle.search_tests.proofs.tests.sample.SampleWordSource.surfaces_at.Given as goal

abbrev pub invariant-loop-number : goal.invariant-loop-number
invariant-loop-number l = record {
  before_is : l.before ≡ length l.fn.out.items;
  front : take l.before l.out.items ≡ l.fn.out.items;
  rest : l.out.items ++ sample_surfaces (drop l.number l.self.words.items) l.number l.self.length l.place ≡ l.fn.out.items ++ sample_surfaces l.self.words.items 0 l.self.length l.place;
}
