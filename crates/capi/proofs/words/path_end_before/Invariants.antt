use Rattle.line_segmenter.specs.PathEnds.{at_bos}
use Rattle.capi.specs.Words.{c_words}
use Rattle.capi.proofs.WalkLemmas.{IsWalked}
use Rattle.word_lookup.specs.Overlays.{overlay_of}
use Rattle.capi.proofs.words.path_end_before.Given as goal

abbrev pub invariant-loop-i : goal.invariant-loop-i
invariant-loop-i l =
    let o = overlay_of l.last.dictionaries in
    IsWalked o l.last.text.now l.last.words.now (c_words o l.last.text.now at_bos l.last.words.now) l.i l.reached
