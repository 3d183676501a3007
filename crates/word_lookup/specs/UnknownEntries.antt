-- The words of unknown entries.
use Rattle.std.specs.Prelude.{ℕ, List, map, flat_map}
use Rattle.mj_model.specs.declared.word.Word.{Word}
use Rattle.mj_model.specs.Run.{bytes_of}
use Rattle.mj_model.specs.Tables.{Token}
use Rattle.word_lookup.specs.Overlays.{overlay_of}
use Rattle.word_lookup.specs.declared.unknown_entries.UnknownEntries.{UnknownEntries}
use Rattle.mj_model.specs.Words.{unknown_word}

-- the unknown entries of a category
abbrev pub entries_of : UnknownEntries → List Token
entries_of e = (overlay_of e.dictionaries).system.unknown e.category

-- the unknown words of spans: for each span, one word of each entry
abbrev pub words_of_spans : ℕ → ℕ → List ℕ → List Token → List ℕ → List Word
words_of_spans place start cs entries spans = flat_map (λ n. map (unknown_word place start (bytes_of n cs)) entries) spans
