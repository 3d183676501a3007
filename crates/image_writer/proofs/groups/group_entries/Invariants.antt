use Rattle.image_writer.specs.Groups.{AreGrouped}
use Rattle.image_writer.proofs.groups.group_entries.Given as goal

-- the entries so far are in their groups
abbrev pub invariant-loop-i : goal.invariant-loop-i
invariant-loop-i l = AreGrouped l.lexicon.rows l.i l.groups
