use Rattle.capi.specs.Words.{c_words}
use Rattle.capi.proofs.FillLemmas.{IsFilling}
use Rattle.capi.proofs.WalkLemmas.{IsWalked}
use Rattle.word_lookup.specs.Overlays.{overlay_of}
use Rattle.capi.proofs.words.fill.Given as goal

abbrev pub invariant-loop-i : goal.invariant-loop-i
invariant-loop-i l =
    let o = overlay_of l.last.dictionaries in
    let all = c_words o l.last.text.now l.fn.before l.words in
    record {
      filling : IsFilling all l.i l.initial.out l.out;
      walked : IsWalked o l.last.text.now l.words all l.i l.reached;
    }
