use Rattle.std.proofs.Common.{◌≡◌, length}
use Rattle.mj_model.specs.Lines.{numbered_lines}
use Rattle.char_def.specs.UnkRows.{HasReadUnk}
use Rattle.char_def.proofs.unk_lines.read_lines.Given as goal

abbrev pub invariant-loop-number : goal.invariant-loop-number
invariant-loop-number l = record {
  can : (goal.iterator-loop-number).can_next l.number-iterator;
  finite : (goal.iterator-loop-number).is_finite l.number-iterator;
  count : length l.lists.items ≡ length l.table.categories;
  read : HasReadUnk l.table.categories (numbered_lines l.bytes) l.number-iterator l.held l.lists.items;
}
