use Rattle.std.proofs.Common.{length}
use Rattle.word_lookup.specs.Overlays.{overlay_of}
use Rattle.out_format.proofs.PlainLemmas.{PlainSoFar}
use Rattle.out_format.proofs.printing.append_plain_words.Given as goal

abbrev pub invariant-loop-word : goal.invariant-loop-word
invariant-loop-word g l = PlainSoFar (overlay_of l.dictionaries) l.format l.text (g.W.WordStream.left l.fn.words) (g.W.WordStream.left l.words) l.initial.out.items l.out.items

abbrev pub decreases-loop-word : goal.decreases-loop-word
decreases-loop-word g l = length (g.W.WordStream.left l.words)
