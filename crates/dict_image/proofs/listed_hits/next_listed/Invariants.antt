use Rattle.std.proofs.Common.{◌≡◌, ◌-◌, length}
use Rattle.dict_image.specs.ListedHits.{IsKeyRange, listed_hits_after}
use Rattle.dict_image.proofs.listed_hits.next_listed.Given as goal

abbrev pub invariant-loop-started : goal.invariant-loop-started
invariant-loop-started l = record {
  started : IsKeyRange l.keys l.text l.started;
  hits : listed_hits_after l.keys l.text l.fn.started.length ≡ listed_hits_after l.keys l.text l.started.length;
}

abbrev pub decreases-loop-started : goal.decreases-loop-started
decreases-loop-started l = length l.text - l.started.length
