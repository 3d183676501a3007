use Rattle.std.proofs.Common.{arith, refl, sym, of_calls}
use Rattle.std.proofs.lemmas.Bool.{eqb-false}
use Rattle.std.proofs.lemmas.Result.{MatchResult-weaker, err_from_is_err_and}
use Rattle.out_format.proofs.PieceLemmas.{fault_there, piece_there, read_more}
use Rattle.out_format.proofs.parsing.parse_part.Goals as goal

pub returns-in_err-first : goal.returns-in_err-first
returns-in_err-first c =
    let p = err_from_is_err_and c.from_residual.result c.from_residual.ensures.1 in
    let t = eqb-false _ _ (sym c.loop-rest-test.ensures) in
    rw (p.1, p.2)
    (fault_there c.args.part _ c.args.text.now c.loop-rest.rest.now _ c.first_piece.result c.in_err-first.field-0.0 c.loop-rest.invariant refl (omega (arith, t)) c.first_piece.ensures
    (MatchResult-weaker c.first_piece.result c.in_err-first.ensures.cases (λ piece h. h) (λ kind h. search of_calls)))

pub loop-rest-preserved : goal.loop-rest-preserved
loop-rest-preserved c =
    let begins = piece_there c.args.part c.loop-rest.rest.now c.first_piece.result c.in_ok-first.first c.first_piece.ensures
    (MatchResult-weaker c.first_piece.result c.in_ok-first.ensures.cases (λ piece h. h) (λ kind h. h)) in
    read_more c.args.part _ _ _ c.args.text.now _ _ c.loop-rest.invariant begins c.in_ok-push.ensures
