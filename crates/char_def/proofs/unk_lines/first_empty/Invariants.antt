use Rattle.std.proofs.Common.{◌≡◌, ℕ, ◌<◌, ◌==◌, get_or, length, false}
use Rattle.std.specs.declared.alloc.Global.{Global}
use Rattle.std.specs.declared.vec.Vec.{Vec}
use Rattle.mj_model.specs.declared.entry.Record.{Record}
use Rattle.char_def.proofs.unk_lines.first_empty.Given as goal

abbrev pub invariant-loop-category : goal.invariant-loop-category
invariant-loop-category l = (k : ℕ) (d : Vec Record Global) → k < l.category → (length (get_or l.lists k d).items == 0) ≡ false
