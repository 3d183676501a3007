use Rattle.std.proofs.Common.{rules}
use Rattle.dictc_lib.specs.MatrixFiles.{IsReadUpTo}
use Rattle.dictc_lib.proofs.MatrixFileLemmas.{enough_read, end_or_rejected}
use Rattle.dictc_lib.proofs.matrix_file.MatrixFile.read_from.Goals as goal

pub returns-in-Ok-clause-taken : goal.returns-in-Ok-clause-taken
returns-in-Ok-clause-taken g c =
    let read : IsReadUpTo (g.F.Read.remaining c.args.file.now) (g.F.Read.remaining c.read_enough.new.file) c.in-Ok.taken.file = search rules in
    enough_read (g.F.Read.remaining c.args.file.now) (g.F.Read.remaining c.read_enough.new.file) c.in-Ok.taken.file read

pub returns-in-Ok-clause-end : goal.returns-in-Ok-clause-end
returns-in-Ok-clause-end g c =
    let read : IsReadUpTo (g.F.Read.remaining c.args.file.now) (g.F.Read.remaining c.read_enough.new.file) c.in-Ok.taken.file = search rules in
    end_or_rejected (g.F.Read.remaining c.args.file.now) (g.F.Read.remaining c.read_enough.new.file) c.in-Ok.taken.file read
