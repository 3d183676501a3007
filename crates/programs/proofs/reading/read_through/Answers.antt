use Rattle.std.proofs.Common.{rules, ℕ, ◌<◌, ◌≤◌, ◌++◌, List, length, take, subst, append_assoc, arith}
use Rattle.std.proofs.lemmas.List.{length-append}
use Rattle.std.proofs.Common.{length-take}
use Rattle.std.specs.Io.KnownBytes.{Consumes}
use Rattle.std.proofs.KnownBytes.{Consumes-trans}
use Rattle.programs.proofs.reading.read_through.Goals as goal

pub loop-read-preserved : goal.loop-read-preserved
loop-read-preserved g c =
    let done : List ℕ = c.loop-read.invariant.0 in
    let part : List ℕ = take c.in_ok-count.count c.read.new.buf in
    let gave : Consumes (g.R.Read.remaining c.loop-read.reader) (g.R.Read.remaining c.read.new.self) part = search rules in
    let within : c.in_ok-count.count ≤ length c.read.new.buf = search rules in
    let some : 0 < c.in_ok-count.count = search rules in
    let reads : c.loop-read._read ≤ length done = c.loop-read.invariant.2 in (
      done ++ part,
      Consumes-trans (g.R.Read.remaining c.args.reader.now) (g.R.Read.remaining c.loop-read.reader) (g.R.Read.remaining c.read.new.self) done part c.loop-read.invariant.1 gave,
      omega (arith, reads, some, within, length-append {A = ℕ}, length-take {A = ℕ}),
      λ before given. subst (λ (bytes : List ℕ). g.P.ByteSink.received c.in_ok-taken.taken bytes) (append_assoc before done part) (c.in_ok-taken.ensures (before ++ done) (c.loop-read.invariant.3 before given)),
    )
