use Rattle.std.proofs.Common.{inr}
use Rattle.std.proofs.lemmas.Result.{err_from_is_err_and}
use Rattle.char_def.proofs.UnkFaults.{reader_reported, line_reported, none_reported}
use Rattle.dict_compile.proofs.unknown.read_unknown.Goals as goal

pub returns-in_err-unknown-clause-rejected : goal.returns-in_err-unknown-clause-rejected
returns-in_err-unknown-clause-rejected c =
    let p = err_from_is_err_and c.from_residual.result c.from_residual.ensures.1 in
    rw (p.1, p.2)
    (reader_reported c.args.sizes c.args.chars.now.categories c.args.bytes.now c.in_err-unknown.field-0.0 c.in_err-unknown.ensures.rejected)

pub returns-in-Some-clause-rejected : goal.returns-in-Some-clause-rejected
returns-in-Some-clause-rejected c =
    rw c.at.ensures (inr (line_reported c.args.sizes c.args.chars.now.categories c.args.bytes.now c.in_ok-unknown.unknown c.in-Some.line c.in_ok-unknown.ensures.accepted c.in-Some.ensures))

pub returns-clause-accepted : goal.returns-clause-accepted
returns-clause-accepted c =
    none_reported c.args.sizes c.args.chars.now.categories c.args.bytes.now c.in_ok-unknown.unknown c.in_ok-unknown.ensures.accepted c.in-None.ensures
