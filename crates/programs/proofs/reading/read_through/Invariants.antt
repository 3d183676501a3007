use Rattle.std.proofs.Common.{ℕ, ◌≤◌, List, ◌++◌, length}
use Rattle.std.specs.Io.KnownBytes.{Consumes}
use Rattle.programs.proofs.reading.read_through.Given as goal

abbrev pub invariant-loop-read : goal.invariant-loop-read
invariant-loop-read g l =
    (done : List ℕ) × Consumes (g.R.Read.remaining l.initial.reader) (g.R.Read.remaining l.reader) done × (l._read ≤ length done)
    × ((before : List ℕ) → g.P.ByteSink.received l.fn.pieces before → g.P.ByteSink.received l.taken (before ++ done))
