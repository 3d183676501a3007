use Rattle.std.proofs.Common.{◌≡◌, ◌++◌, take}
use Rattle.word_lookup.specs.Overlays.{overlay_of}
use Rattle.word_lookup.specs.Surfaces.{surface_words}
use Rattle.word_lookup.proofs.dictionaries.Dictionaries.append_words_of.Given as goal

-- the first words were appended
abbrev pub invariant-loop-i : goal.invariant-loop-i
invariant-loop-i l = l.out.items ≡ l.fn.out.items ++ take l.i (surface_words (overlay_of l.self) l.surface)
