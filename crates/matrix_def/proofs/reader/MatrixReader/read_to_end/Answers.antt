use Rattle.std.proofs.Common.{◌≡◌, ◌+◌, ◌++◌, [], ◌∙◌, ap, arith, subst, sym, rules, List, ℕ, vec_len}
use Rattle.std.proofs.lemmas.Bool.{eqb-true}
use Rattle.std.proofs.lemmas.List.{nil_from_length}
use Rattle.matrix_def.specs.Reading.{HasRead, ReaderView, reported_number}
use Rattle.matrix_def.proofs.ReadingLemmas.{line_read}
use Rattle.matrix_def.proofs.reader.MatrixReader.read_to_end.Goals as goal

pub returns-then-is_empty : goal.returns-then-is_empty
returns-then-is_empty c = λ bytes given.
    let part : List ℕ = c.args.part.now in
    let seen : ReaderView = record { complete_lines = c.self.inside.complete_lines; unfinished = c.self.inside.unfinished.items; state = c.self.inside.state } in
    let h : HasRead bytes seen = subst (HasRead bytes) (sym c.self.view_is) given in
    let number : c.saturating_add-number.result ≡ reported_number (seen.complete_lines + 1) = search rules in
    let none : vec_len c.self.inside.unfinished ≡ 0 = eqb-true _ 0 (sym c.is_empty.ensures ∙ c.if-is_empty.true) in
    let empty : seen.unfinished ≡ [] = nil_from_length seen.unfinished (omega (arith, none, c.self.inside.unfinished.ok)) in
    line_read bytes part part seen (record { complete_lines = c.saturating_add-number.result; unfinished = seen.unfinished; state = c.in_ok-self-inside.field-0 }) h
    c.requires (sym (ap (λ (bs : List ℕ). bs ++ part) empty)) empty number c.in_ok-self-inside.ensures

pub returns : goal.returns
returns c = λ bytes given.
    let part : List ℕ = c.args.part.now in
    let seen : ReaderView = record { complete_lines = c.self.inside.complete_lines; unfinished = c.self.inside.unfinished.items; state = c.self.inside.state } in
    let h : HasRead bytes seen = subst (HasRead bytes) (sym c.self.view_is) given in
    let number : c.saturating_add-number.result ≡ reported_number (seen.complete_lines + 1) = search rules in
    let line : c.deref.result.now ≡ seen.unfinished ++ part = search rules in
    line_read bytes part c.deref.result.now seen (record { complete_lines = c.saturating_add-number.result; unfinished = c.clear.new.self.items; state = c.in_ok-self-inside-2.field-0 }) h
    c.requires line c.clear.ensures.items number c.in_ok-self-inside-2.ensures
