use Rattle.std.proofs.Common.{◌≡◌, ◌++◌, ℕ, List, drop}
use Rattle.jseg_lib.specs.TextWarnings.{return_from}
use Rattle.jseg_lib.proofs.return_scan.ReturnScan.after.Given as goal

abbrev pub invariant-loop-byte : goal.invariant-loop-byte
invariant-loop-byte l = (rest : List ℕ) → return_from l.fn.self (l.fn.piece ++ rest) ≡ return_from l.scan (drop l.byte-index l.fn.piece ++ rest)
