use Rattle.std.proofs.Common.{◌≡◌, []}
use Rattle.std.specs.Prelude.{replicate}
use Rattle.char_def.specs.UnkRows.{lists_are}
use Rattle.char_def.proofs.unk_lines.empty_lists.Given as goal

abbrev pub invariant-loop : goal.invariant-loop
invariant-loop l = lists_are l.lists.items ≡ replicate l.counter []
