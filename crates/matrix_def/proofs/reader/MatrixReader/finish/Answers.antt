use Rattle.std.proofs.Common.{◌≡◌, ℕ, ◌+◌, List, Err, inr, sym, subst, rules}
use Rattle.std.proofs.lemmas.Result.{IfErr-weaker, IfOk-weaker}
use Rattle.mj_model.specs.FirstFault.{IsMemoryOr}
use Rattle.mj_model.specs.Lines.{source_lines}
use Rattle.lex_source.specs.NonblankLines.{nonblank_lines}
use Rattle.matrix_def.specs.Reading.{HasRead, IsTableFrom, ReaderView, IsStateAfter, reported_connection, reported_lines, reported_number}
use Rattle.matrix_def.specs.Costs.{IsTableIn}
use Rattle.matrix_def.proofs.NumberLemmas.{reported_accepted}
use Rattle.matrix_def.proofs.ReadingLemmas.{all_read}
use Rattle.matrix_def.proofs.reader.MatrixReader.finish.Goals as goal

lies : (c : goal.After-drop-unfinished-2) (bytes : List ℕ) → HasRead bytes c.args.self → IsStateAfter (nonblank_lines (reported_lines 1 (source_lines bytes))) c.in_ok-after.field-0
lies c bytes given =
    let seen : ReaderView = record { complete_lines = c.self.inside.complete_lines; unfinished = c.self.inside.unfinished.items; state = c.self.inside.state } in
    let number : c.saturating_add-number.result ≡ reported_number (seen.complete_lines + 1) = search rules in
    let line : c.deref.result.now ≡ seen.unfinished = search rules in
    all_read bytes c.deref.result.now c.saturating_add-number.result seen c.in_ok-after.field-0 (subst (HasRead bytes) (sym c.self.view_is) given) number line c.in_ok-after.ensures

pub returns-clause-accepted : goal.returns-clause-accepted
returns-clause-accepted c = λ bytes given.
    IfOk-weaker c.matrix.result (IsTableFrom (nonblank_lines (reported_lines 1 (source_lines bytes)))) (IsTableIn bytes) (λ m is. (is.0, reported_accepted bytes is.0 is.1, is.2))
    (c.matrix.ensures.accepted (nonblank_lines (reported_lines 1 (source_lines bytes))) (lies c bytes given))

pub returns-clause-rejected : goal.returns-clause-rejected
returns-clause-rejected c = λ bytes given.
    IfErr-weaker c.matrix.result (λ fault. reported_connection bytes ≡ Err fault) (λ fault. IsMemoryOr fault (reported_connection bytes ≡ Err fault)) (λ fault is. inr is)
    (c.matrix.ensures.rejected (nonblank_lines (reported_lines 1 (source_lines bytes))) (lies c bytes given))

pub returns-clause-reported : goal.returns-clause-reported
returns-clause-reported c = λ bytes given. c.matrix.ensures.accepted (nonblank_lines (reported_lines 1 (source_lines bytes))) (lies c bytes given)
