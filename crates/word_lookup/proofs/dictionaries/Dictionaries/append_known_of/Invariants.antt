use Rattle.std.proofs.Common.{flat_map, length}
use Rattle.std.specs.List.{AllByRecursion}
use Rattle.mj_model.specs.KnownWords.{known_in}
use Rattle.mj_model.specs.declared.paths.entry_list.EntryList.TheVariants.{Lexicon}
use Rattle.word_lookup.specs.Overlays.{overlay_of}
use Rattle.word_lookup.specs.Surfaces.{tokens_of}
use Rattle.word_lookup.specs.WordsHere.{lexicon_of}
use Rattle.word_lookup.proofs.KnownFound.{prefix_words}
use Rattle.word_lookup.proofs.RowLemmas.{IsPrefix}
use Rattle.word_lookup.proofs.SurfaceLemmas.{HaveGrown}
use Rattle.word_lookup.proofs.dictionaries.Dictionaries.append_known_of.Given as goal

-- the surfaces so far were appended, and those left end in the text
abbrev pub invariant-loop-length : goal.invariant-loop-length
invariant-loop-length l = record {
  can : (goal.iterator-loop-length).can_next l.length-iterator;
  finite : (goal.iterator-loop-length).is_finite l.length-iterator;
  grown : HaveGrown (overlay_of l.self) l.fn.out.items l.out.items (known_in l.at.place l.at.start l.at.rest.now l.number (lexicon_of (overlay_of l.self) l.number)) (flat_map (prefix_words l.number l.at.place l.at.start) l.length-iterator.prefixes);
  are : AllByRecursion (IsPrefix (length l.at.rest.now) (tokens_of (overlay_of l.self) (Lexicon l.number))) l.length-iterator.prefixes;
}
