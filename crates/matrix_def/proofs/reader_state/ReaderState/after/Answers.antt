use Rattle.std.proofs.Common.{◌∙◌, ap, sym, subst, ℕ, List, ◌++◌}
use Rattle.std.proofs.lemmas.List.{append-nil}
use Rattle.std.specs.Prelude.{IfOk}
use Rattle.matrix_def.specs.Reading.{IsStateAfter}
use Rattle.matrix_def.proofs.ReadingLemmas.{row_found, row_missing}
use Rattle.matrix_def.proofs.reader_state.ReaderState.after.Goals as goal

pub returns-in-Some : goal.returns-in-Some
returns-in-Some c = λ lines lies none.
    let row = row_found c.args.number c.in-Some.field-0-0 c.args.bytes.now c.in-Some.line.now c.next.new.self none (sym c.new.ensures ∙ c.in-Some.ensures.steps) in
    subst (λ (rows : List (ℕ × List ℕ)). IfOk c.after_filled.result (IsStateAfter (lines ++ rows))) (sym row) (c.after_filled.ensures lines lies)

pub returns-in-None : goal.returns-in-None
returns-in-None c = λ lines lies none.
    let missing = row_missing c.args.number c.args.bytes.now none (sym c.new.ensures ∙ c.in-None.ensures.steps.0) in
    subst (λ (rows : List (ℕ × List ℕ)). IsStateAfter rows c.args.self) (sym (ap (λ (rows : List (ℕ × List ℕ)). lines ++ rows) missing ∙ append-nil lines)) lies
