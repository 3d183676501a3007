use Rattle.image_format.specs.ImageMeaning.{image_tables}
use Rattle.word_lookup.proofs.UserLemmas.{HavePassed}
use Rattle.word_lookup.proofs.overlay.check_users.Given as goal

-- the user dictionaries so far fit these sizes
abbrev pub invariant-loop-i : goal.invariant-loop-i
invariant-loop-i l = HavePassed l.sizes image_tables l.users l.i
