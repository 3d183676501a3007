use Rattle.std.proofs.Common.{◌≡◌, ◌++◌, flat_map, take}
use Rattle.word_lookup.specs.Overlays.{overlay_of}
use Rattle.word_lookup.specs.Surfaces.{surface_words}
use Rattle.word_lookup.proofs.dictionaries.Dictionaries.append_words.Given as goal

-- the words of the surfaces so far were appended
abbrev pub invariant-loop-surface : goal.invariant-loop-surface
invariant-loop-surface l = l.out.items ≡ l.fn.out.items ++ flat_map (surface_words (overlay_of l.self)) (take l.surface-index l.surfaces)
