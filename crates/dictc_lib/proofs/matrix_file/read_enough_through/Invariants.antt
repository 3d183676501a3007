use Rattle.std.proofs.Common.{ℕ, List}
use Rattle.std.specs.Io.KnownBytes.{Consumes}
use Rattle.dictc_lib.specs.MatrixFiles.{HasReceived}
use Rattle.dictc_lib.proofs.matrix_file.read_enough_through.Given as goal

abbrev pub invariant-loop-read : goal.invariant-loop-read
invariant-loop-read g l =
    (bytes : List ℕ) × Consumes (g.F.Read.remaining l.initial.file) (g.F.Read.remaining l.file) bytes × HasReceived bytes l.taken.file
