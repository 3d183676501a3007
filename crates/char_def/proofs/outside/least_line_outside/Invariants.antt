use Rattle.std.proofs.Common.{ℕ, ◌++◌, List, take}
use Rattle.mj_model.specs.Lexicon.{rows_of}
use Rattle.char_def.specs.Outside.{lines_outside, IsLeastOf}
use Rattle.char_def.proofs.outside.least_line_outside.Given as goal

-- the least of the lines so far
abbrev pub invariant-loop-record : goal.invariant-loop-record
invariant-loop-record l =
    (before : List ℕ) → IsLeastOf before l.fn.first
    → IsLeastOf (before ++ lines_outside l.sizes (rows_of (take l.record-index l.records))) l.least
