use Rattle.std.proofs.Common.{rules, ℕ, List, [], ◌++◌, take, inl, inr}
use Rattle.std.proofs.KnownBytes.{Consumes-trans}
use Rattle.std.specs.Io.KnownBytes.{Consumes, IsAtEnd}
use Rattle.dictc_lib.specs.MatrixFiles.{HasReceived}
use Rattle.dictc_lib.proofs.MatrixFileLemmas.{consumes_none}
use Rattle.dictc_lib.proofs.matrix_file.read_enough_through.Goals as goal

pub returns-then-count-eq0 : goal.returns-then-count-eq0
returns-then-count-eq0 g c =
    let nothing : Consumes (g.F.Read.remaining c.loop-read.file) (g.F.Read.remaining c.read_once.new.file) [] = search rules in
    let end : IsAtEnd (g.F.Read.remaining c.read_once.new.file) = search rules in
    record {
      bytes = c.loop-read.invariant.0;
      consumed = consumes_none (g.F.Read.remaining c.args.file.now) (g.F.Read.remaining c.loop-read.file) (g.F.Read.remaining c.read_once.new.file) c.loop-read.invariant.0 c.loop-read.invariant.1 nothing;
      received = c.loop-read.invariant.2;
      stops = inl end;
    }

pub returns-then-is_rejected : goal.returns-then-is_rejected
returns-then-is_rejected g c =
    let bytes : List ℕ = c.loop-read.invariant.0 in
    let piece : List ℕ = take c.in_ok-count.count c.read_once.new.buffer in
    let consumed : Consumes (g.F.Read.remaining c.loop-read.file) (g.F.Read.remaining c.read_once.new.file) piece = search rules in
    let received : HasReceived (bytes ++ piece) c.in_ok-taken.taken.file = c.in_ok-taken.ensures bytes c.loop-read.invariant.2 in
    record {
      bytes = bytes ++ piece;
      consumed = Consumes-trans (g.F.Read.remaining c.args.file.now) (g.F.Read.remaining c.loop-read.file) (g.F.Read.remaining c.read_once.new.file) bytes piece c.loop-read.invariant.1 consumed;
      received = received;
      stops = inr (c.is_rejected.ensures c.if-is_rejected.true (bytes ++ piece) received);
    }

pub loop-read-preserved : goal.loop-read-preserved
loop-read-preserved g c =
    let bytes : List ℕ = c.loop-read.invariant.0 in
    let piece : List ℕ = take c.in_ok-count.count c.read_once.new.buffer in
    let consumed : Consumes (g.F.Read.remaining c.loop-read.file) (g.F.Read.remaining c.read_once.new.file) piece = search rules in (
      bytes ++ piece,
      Consumes-trans (g.F.Read.remaining c.args.file.now) (g.F.Read.remaining c.loop-read.file) (g.F.Read.remaining c.read_once.new.file) bytes piece c.loop-read.invariant.1 consumed,
      c.in_ok-taken.ensures bytes c.loop-read.invariant.2,
    )
