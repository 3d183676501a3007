use Rattle.std.proofs.Common.{drop}
use Rattle.mj_model.specs.KnownWords.{known_from}
use Rattle.mj_model.specs.Tables.{lexicons}
use Rattle.word_lookup.specs.Overlays.{overlay_of}
use Rattle.word_lookup.proofs.SurfaceLemmas.{HaveGrown}
use Rattle.word_lookup.proofs.dictionaries.Dictionaries.append_known.Given as goal

-- the surfaces of the dictionaries so far were appended
abbrev pub invariant-loop-number : goal.invariant-loop-number
invariant-loop-number l =
    HaveGrown (overlay_of l.self) l.fn.out.items l.out.items (known_from l.at.place l.at.start l.at.rest.now 0 (lexicons (overlay_of l.self)))
    (known_from l.at.place l.at.start l.at.rest.now l.number (drop l.number (lexicons (overlay_of l.self))))
