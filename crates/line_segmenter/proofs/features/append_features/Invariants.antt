use Rattle.std.proofs.Common.{◌≡◌, ◌≤◌, ◌++◌, take}
use Rattle.std.specs.Prelude.{vec_capacity}
use Rattle.line_segmenter.specs.PathEnds.{features_of}
use Rattle.word_lookup.specs.Overlays.{overlay_of}
use Rattle.line_segmenter.proofs.features.append_features.Given as goal

abbrev pub invariant-loop-word : goal.invariant-loop-word
invariant-loop-word l = record {
  items : l.out.items ≡ l.initial.out.items ++ features_of (overlay_of l.dictionaries) (take l.word-index l.words);
  room : vec_capacity l.initial.out ≤ vec_capacity l.out;
}
