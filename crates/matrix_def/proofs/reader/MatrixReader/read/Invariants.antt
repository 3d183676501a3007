use Rattle.std.proofs.Common.{◌≡◌, ℕ, List, ◌++◌, length}
use Rattle.matrix_def.specs.Reading.{HasRead}
use Rattle.matrix_def.proofs.reader.MatrixReader.read.Given as goal

abbrev pub invariant-loop-part : goal.invariant-loop-part
invariant-loop-part l = (done : List ℕ) × (l.piece ≡ done ++ l.rest) × ((bytes : List ℕ) → HasRead bytes l.fn.self → HasRead (bytes ++ done) l.reader)

abbrev pub decreases-loop-part : goal.decreases-loop-part
decreases-loop-part l = length l.rest
