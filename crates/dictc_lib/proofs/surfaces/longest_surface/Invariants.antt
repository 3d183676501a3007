use Rattle.std.proofs.Common.{◌≡◌}
use Rattle.dict_compile.proofs.SkipLemmas.{bytes_before}
use Rattle.dictc_lib.specs.Surfaces.{IsLongestOf, lexicon_file}
use Rattle.dictc_lib.proofs.surfaces.longest_surface.Given as goal

abbrev pub invariant-loop-number : goal.invariant-loop-number
invariant-loop-number l = record {
  longest : IsLongestOf (bytes_before l.lexicons l.number) l.longest;
  file : l.file ≡ lexicon_file l.number;
}
