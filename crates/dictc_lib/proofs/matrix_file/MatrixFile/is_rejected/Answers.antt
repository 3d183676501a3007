use Rattle.std.proofs.Common.{sym, ◌∙◌}
use Rattle.dictc_lib.proofs.MatrixFileLemmas.{rejected_by}
use Rattle.dictc_lib.proofs.matrix_file.MatrixFile.is_rejected.Goals as goal

pub returns : goal.returns
returns c = λ yes bytes received.
    rejected_by bytes c.header_fault.result (sym c.is_some.ensures ∙ yes) (c.header_fault.ensures bytes received.read)
