use Rattle.dict_image.specs.InfoTables.{AreFirstEntries, plane_start}
use Rattle.dict_image.proofs.info_table.plane_entries.Given as goal

abbrev pub invariant-loop-i : goal.invariant-loop-i
invariant-loop-i l = AreFirstEntries l.ranges (plane_start l.ranges l.i) l.entries.items
