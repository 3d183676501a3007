use Rattle.std.proofs.Common.{◌∙◌, refl, sym}
use Rattle.std.proofs.lemmas.Result.{err_from_is_err_and}
use Rattle.mj_model.specs.Lexicon.{Skipped, is_blank, lexicon_outcome}
use Rattle.lex_source.specs.Spelled.{HasEntry}
use Rattle.lex_source.proofs.OutcomeLemmas.{is_tested_line, is_skipped_line, tested_error, parts_outcome, parts_error}
use Rattle.lex_source.proofs.outcome.read_line.Goals as goal

pub returns-in_default : goal.returns-in_default
returns-in_default c = is_blank (rw c.in_default.is at c.in_ok-parts.ensures)

pub returns-then-is_empty : goal.returns-then-is_empty
returns-then-is_empty c =
    let entry : HasEntry c.args.line.now c.in-Some.parts = rw c.in-Some.is at c.in_ok-parts.ensures in
    parts_outcome lexicon_outcome c.args.number c.args.line.now c.args.line.now entry.has.parts Skipped entry.filled refl entry.utf8 entry.has.first
    (is_skipped_line c.args.number entry.has.parts _ _ entry.has.lies.surface (sym c.is_empty.ensures ∙ c.if-is_empty.true))

pub returns-in_err-accept : goal.returns-in_err-accept
returns-in_err-accept c =
    let entry : HasEntry c.args.line.now c.in-Some.parts = rw c.in-Some.is at c.in_ok-parts.ensures in
    let p = err_from_is_err_and c.from_residual-in_err-accept.result c.from_residual-in_err-accept.ensures.1 in
    rw (p.1, p.2) (parts_error lexicon_outcome c.args.number c.args.line.now c.args.line.now entry.has.parts c.in_err-accept.field-0.0 entry.filled refl entry.utf8 entry.has.first
    (tested_error c.args.number entry.has.parts _ _ c.in_err-accept.field-0.0 entry.has.lies.surface (sym c.is_empty.ensures ∙ c.if-is_empty.false)
    (c.in_err-accept.ensures entry.has.parts entry.has.lies)))

pub returns : goal.returns
returns c =
    let entry : HasEntry c.args.line.now c.in-Some.parts = rw c.in-Some.is at c.in_ok-parts.ensures in
    parts_outcome lexicon_outcome c.args.number c.args.line.now c.args.line.now entry.has.parts _ entry.filled refl entry.utf8 entry.has.first
    (is_tested_line c.args.number entry.has.parts _ _ entry.has.lies.surface (sym c.is_empty.ensures ∙ c.if-is_empty.false) ∙ c.in_ok-accept.ensures entry.has.parts entry.has.lies)
