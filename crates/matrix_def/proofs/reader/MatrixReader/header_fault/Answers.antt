use Rattle.std.proofs.Common.{◌≡◌, ◌+◌, Err, sym, ap, ◌∙◌, subst, rules}
use Rattle.std.proofs.lemmas.Bool.{OnTrue_at}
use Rattle.mj_model.specs.declared.source_fault.SourceFault.{SourceFault}
use Rattle.matrix_def.specs.Headers.{IsNoHeader}
use Rattle.matrix_def.specs.Reading.{HasRead, ReaderView, reported_number}
use Rattle.matrix_def.proofs.ReadingLemmas.{header_rejected}
use Rattle.matrix_def.proofs.reader.MatrixReader.header_fault.Goals as goal

pub returns-then-is_no_header : goal.returns-then-is_no_header
returns-then-is_no_header c = λ bytes given more.
    let seen : ReaderView = record { complete_lines = c.self.inside.complete_lines; unfinished = c.self.inside.unfinished.items; state = c.self.inside.state } in
    let h : HasRead bytes seen = subst (HasRead bytes) (sym c.self.view_is) given in
    let number : c.saturating_add.result ≡ reported_number (seen.complete_lines + 1) = search rules in
    let none : IsNoHeader seen.unfinished = subst IsNoHeader c.deref.ensures.value (OnTrue_at c.if-is_no_header.true c.is_no_header.ensures) in
    header_rejected bytes c.saturating_add.result seen h (OnTrue_at c.if-is_header.true c.is_header.ensures) number none more
    ∙ ap (λ (fault : SourceFault). Err fault) (sym c.at.ensures)
