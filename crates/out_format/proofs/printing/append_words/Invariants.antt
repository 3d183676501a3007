use Rattle.std.proofs.Common.{length}
use Rattle.word_lookup.specs.Overlays.{overlay_of}
use Rattle.out_format.specs.Followable.{AreFollowable}
use Rattle.out_format.specs.WordContexts.{IsFeatureOf}
use Rattle.out_format.proofs.PrintedLemmas.{WordsSoFar}
use Rattle.out_format.proofs.printing.append_words.Given as goal

abbrev pub invariant-loop-word : goal.invariant-loop-word
invariant-loop-word g l = record {
  token : IsFeatureOf (overlay_of l.dictionaries) l.last.origin l.last.fields;
  follow : AreFollowable (overlay_of l.dictionaries) l.text l.right_before l.cost_so_far (g.W.WordStream.left l.words);
  shown : WordsSoFar (overlay_of l.dictionaries) l.format l.text (g.W.WordStream.left l.fn.words) (g.W.WordStream.left l.words) l.right_before l.cost_so_far l.initial.out.items l.out.items;
}

abbrev pub decreases-loop-word : goal.decreases-loop-word
decreases-loop-word g l = length (g.W.WordStream.left l.words)
