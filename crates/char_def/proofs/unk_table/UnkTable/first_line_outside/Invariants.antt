use Rattle.std.proofs.Common.{take}
use Rattle.char_def.specs.Outside.{all_lines_outside, IsLeastOf}
use Rattle.char_def.specs.UnkRows.{lists_are}
use Rattle.char_def.proofs.unk_table.UnkTable.first_line_outside.Given as goal

-- the least of the lines so far
abbrev pub invariant-loop-list : goal.invariant-loop-list
invariant-loop-list l = IsLeastOf (all_lines_outside l.sizes (lists_are (take l.list-index l.list-items))) l.first
