use Rattle.std.proofs.Common.{◌≡◌, ◌+◌, drop}
use Rattle.std.specs.Prelude.{chars}
use Rattle.std.specs.Str.Iter.{chars_rest}
use Rattle.mj_model.specs.Run.{run, bytes_of}
use Rattle.image_format.specs.ImageMeaning.{image_tables}
use Rattle.word_lookup.proofs.run.run_up_to.Given as goal

-- the characters so far were scanned, and the run goes on from the last of them
abbrev pub invariant-loop-characters : goal.invariant-loop-characters
invariant-loop-characters l = record {
  at : chars_rest l.left ≡ drop (bytes_of l.characters (chars l.text)) l.text;
  goes_on : l.characters + run (image_tables l.system).info l.last (drop l.characters (chars l.text)) ≡ run (image_tables l.system).info l.fn.entry (chars l.text);
}
