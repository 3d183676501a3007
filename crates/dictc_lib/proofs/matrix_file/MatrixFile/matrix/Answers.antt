use Rattle.std.proofs.Common.{◌≡◌, Err, sym, ◌∙◌, subst}
use Rattle.std.proofs.lemmas.Result.{IfOk-weaker}
use Rattle.std.specs.Prelude.{IfErr, Result}
use Rattle.mj_model.specs.Connection.{Connection}
use Rattle.mj_model.specs.FirstFault.{IsMemoryOr}
use Rattle.mj_model.specs.declared.source_fault.SourceFault.{SourceFault}
use Rattle.matrix_def.specs.Costs.{IsTableIn}
use Rattle.matrix_def.specs.Reading.{IsReportedTable}
use Rattle.matrix_def.proofs.NumberLemmas.{reported_accepted}
use Rattle.dictc_lib.proofs.MatrixFileLemmas.{meaning_of_prefix}
use Rattle.dictc_lib.proofs.matrix_file.MatrixFile.matrix.Goals as goal

pub returns-clause-accepted : goal.returns-clause-accepted
returns-clause-accepted c = λ bytes read.
    let same = meaning_of_prefix bytes read.prefix read.remainder read.parts read.enough in
    IfOk-weaker c.finish.result (IsReportedTable read.prefix) (IsTableIn bytes) (λ m is. (is.0, reported_accepted bytes is.0 (same ∙ is.1), is.2))
    (c.finish.ensures.reported read.prefix read.received.read)

pub returns-clause-rejected : goal.returns-clause-rejected
returns-clause-rejected c = λ bytes read.
    let same = meaning_of_prefix bytes read.prefix read.remainder read.parts read.enough in
    subst (λ (meaning : Result Connection SourceFault). IfErr c.finish.result (λ fault. IsMemoryOr fault (meaning ≡ Err fault))) (sym same)
    (c.finish.ensures.rejected read.prefix read.received.read)
