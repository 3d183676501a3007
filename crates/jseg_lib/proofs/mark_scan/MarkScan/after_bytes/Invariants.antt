use Rattle.std.proofs.Common.{◌≡◌, ◌++◌, ℕ, List, drop}
use Rattle.jseg_lib.specs.TextWarnings.{mark_from}
use Rattle.jseg_lib.proofs.mark_scan.MarkScan.after_bytes.Given as goal

abbrev pub invariant-loop-byte : goal.invariant-loop-byte
invariant-loop-byte l = (rest : List ℕ) → mark_from l.fn.self (l.fn.piece ++ rest) ≡ mark_from l.scan (drop l.byte-index l.fn.piece ++ rest)
