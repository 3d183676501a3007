-- The words of a position, given their start.
use Rattle.std.specs.Prelude.{ℕ, ◌-◌, Bool, List, [], map, chars, slice_index_or}
use Rattle.mj_model.specs.declared.word.Word.{Word}
use Rattle.mj_model.specs.Tables.{Lexeme, Overlay, Token, lexicons}
use Rattle.mj_model.specs.KnownWords.{known_from, known_in}
use Rattle.mj_model.specs.Words.{unknown, unknown_word}
use Rattle.word_lookup.specs.declared.word_start.WordStart.{WordStart}
use Rattle.word_lookup.specs.UnknownEntries.{words_of_spans}

-- the lexicon of dictionary `dict`
abbrev pub lexicon_of : Overlay → ℕ → List Lexeme
lexicon_of o dict = slice_index_or (lexicons o) dict []

-- the known words of dictionary `dict`
abbrev pub known_here : WordStart → ℕ → List Lexeme → List Word
known_here at dict lexicon = known_in at.place at.start at.rest.now dict lexicon

-- the known words of all dictionaries
abbrev pub all_known_here : WordStart → Overlay → List Word
all_known_here at o = known_from at.place at.start at.rest.now 0 (lexicons o)

-- the unknown words; `none_known` is set if there is no known word
abbrev pub unknown_here : WordStart → Overlay → Bool → List Word
unknown_here at o none_known = unknown o none_known at.place at.start (chars at.rest.now)

-- the unknown words of these entries up to `end`
abbrev pub unknown_up_to : WordStart → ℕ → List Token → List Word
unknown_up_to at end entries = map (unknown_word at.place at.start (end - at.start)) entries

-- the unknown words of these spans: for each span, one word of each entry
abbrev pub spans_here : WordStart → List Token → List ℕ → List Word
spans_here at entries spans = words_of_spans at.place at.start (chars at.rest.now) entries spans
