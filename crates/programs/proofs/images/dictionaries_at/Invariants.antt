use Rattle.std.proofs.Common.{take}
use Rattle.programs.specs.LoadedImages.{AreLoaded}
use Rattle.programs.proofs.images.dictionaries_at.Given as goal

abbrev pub invariant-loop-path : goal.invariant-loop-path
invariant-loop-path g l = AreLoaded (goal.L-post g l.load) l.digest (take l.path-index l.paths) l.dicts.items
