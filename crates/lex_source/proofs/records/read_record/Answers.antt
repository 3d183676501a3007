use Rattle.std.proofs.lemmas.Result.{err_from_is_err_and}
use Rattle.mj_model.specs.Lexicon.{is_blank}
use Rattle.lex_source.specs.Spelled.{HasEntry}
use Rattle.lex_source.proofs.OutcomeLemmas.{row_accepted, row_rejected}
use Rattle.lex_source.proofs.records.read_record.Goals as goal

pub returns-in_err-record_of-in-Some : goal.returns-in_err-record_of-in-Some
returns-in_err-record_of-in-Some c =
    let entry : HasEntry c.args.line.now c.in-Some.parts = rw c.in-Some.is at c.in_ok-parts.ensures in
    let p = err_from_is_err_and c.from_residual-in_err-record_of-in-Some.result c.from_residual-in_err-record_of-in-Some.ensures.1 in
    rw (p.1, p.2) (row_rejected c.args.number c.args.line.now c.in-Some.parts c.in_err-record_of-in-Some.field-0.0 entry (c.in_err-record_of-in-Some.ensures entry.has.parts entry.has.lies))

pub returns-in_ok-record_of-in-Some : goal.returns-in_ok-record_of-in-Some
returns-in_ok-record_of-in-Some c =
    let entry : HasEntry c.args.line.now c.in-Some.parts = rw c.in-Some.is at c.in_ok-parts.ensures in
    row_accepted c.args.number c.args.line.now c.in-Some.parts _ entry (c.in_ok-record_of-in-Some.ensures entry.has.parts entry.has.lies)

pub returns-in-None : goal.returns-in-None
returns-in-None c = is_blank (rw c.in-None.is at c.in_ok-parts.ensures)
