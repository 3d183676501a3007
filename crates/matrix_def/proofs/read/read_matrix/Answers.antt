use Rattle.std.proofs.Common.{rules, ◌≡◌, ◌<◌, ◌^◌, [], length, Err}
use Rattle.std.proofs.lemmas.Result.{IfErr-weaker}
use Rattle.mj_model.specs.Connection.{connection_of}
use Rattle.mj_model.specs.FirstFault.{IsMemoryOr}
use Rattle.matrix_def.specs.Reading.{reported_connection}
use Rattle.matrix_def.proofs.NumberLemmas.{reported_error}
use Rattle.matrix_def.proofs.read.read_matrix.Goals as goal

pub returns-clause-accepted : goal.returns-clause-accepted
returns-clause-accepted c = c.finish.ensures.accepted c.args.bytes.now (c.in_ok-read.ensures.read [] c.new.ensures)

pub returns-clause-rejected : goal.returns-clause-rejected
returns-clause-rejected c =
    let bytes = c.args.bytes.now in
    let short : length bytes < 2 ^ 64 = search rules in
    IfErr-weaker c.finish.result (λ fault. IsMemoryOr fault (reported_connection bytes ≡ Err fault)) (λ fault. IsMemoryOr fault (connection_of bytes ≡ Err fault))
    (λ fault h. reported_error bytes fault short h) (c.finish.ensures.rejected bytes (c.in_ok-read.ensures.read [] c.new.ensures))
