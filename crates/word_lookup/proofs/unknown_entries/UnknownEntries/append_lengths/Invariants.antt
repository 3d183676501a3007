use Rattle.std.proofs.Common.{◌≡◌, ◌+◌, length}
use Rattle.std.specs.Prelude.{chars}
use Rattle.mj_model.specs.Lists.{up_to}
use Rattle.mj_model.specs.Run.{bytes_of}
use Rattle.word_lookup.specs.Overlays.{overlay_of}
use Rattle.word_lookup.specs.Surfaces.{GrowsByWords}
use Rattle.word_lookup.specs.UnknownEntries.{entries_of, words_of_spans}
use Rattle.word_lookup.proofs.unknown_entries.UnknownEntries.append_lengths.Given as goal

-- the surfaces of the lengths so far were appended, and the last of them ends here
abbrev pub invariant-loop-c : goal.invariant-loop-c
invariant-loop-c l = record {
  grown : GrowsByWords (overlay_of l.self.dictionaries) (words_of_spans l.at.place l.at.start (chars l.at.rest.now) (entries_of l.self) (up_to (length l.yielded))) l.initial.out.items l.out.items;
  end_is : l.end ≡ l.at.start + bytes_of (length l.yielded) (chars l.at.rest.now);
}
