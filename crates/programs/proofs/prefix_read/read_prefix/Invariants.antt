use Rattle.std.proofs.Common.{◌≡◌, ℕ, ◌+◌, ◌≤◌, List, ◌++◌, length}
use Rattle.std.specs.Io.KnownBytes.{Consumes}
use Rattle.programs.proofs.prefix_read.read_prefix.Given as goal

abbrev pub invariant-loop-read : goal.invariant-loop-read
invariant-loop-read g l =
    (part : List ℕ) × Consumes (g.R.Read.remaining l.initial.reader) (g.R.Read.remaining l.reader) part
    × ((earlier : List ℕ) → g.P.ByteSink.received l.fn.pieces earlier → g.P.ByteSink.received l.taken (earlier ++ part))
    × (l.read ≤ length part) × (length part + l.room ≡ l.fn.most)
