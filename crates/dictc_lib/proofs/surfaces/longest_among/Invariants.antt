use Rattle.std.proofs.Common.{take}
use Rattle.mj_model.specs.Lexicon.{rows_of}
use Rattle.dictc_lib.specs.Surfaces.{IsLongestIn, surfaces_of}
use Rattle.dictc_lib.proofs.surfaces.longest_among.Given as goal

abbrev pub invariant-loop-record : goal.invariant-loop-record
invariant-loop-record l = IsLongestIn (surfaces_of l.number (rows_of (take l.record-index l.records))) l.longest
