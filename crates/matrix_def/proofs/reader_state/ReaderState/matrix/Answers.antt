use Rattle.std.proofs.Common.{sym, ap, subst, ◌∙◌, []}
use Rattle.std.proofs.lemmas.List.{append-nil}
use Rattle.mj_model.specs.Connection.{connection_from}
use Rattle.matrix_def.specs.Reading.{IsStateAfter}
use Rattle.matrix_def.proofs.reader_state.ReaderState.matrix.Goals as goal

pub returns-in-Rejected-clause-rejected : goal.returns-in-Rejected-clause-rejected
returns-in-Rejected-clause-rejected c = λ lines lies. ap connection_from (sym (append-nil lines)) ∙ subst (IsStateAfter lines) c.in-Rejected.is lies []
