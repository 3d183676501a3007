use Rattle.std.proofs.Common.{arith, ◌≡◌, ◌+◌, ◌-◌, ◌∙◌, Some, ap, sym, inl, inr, subst, slice_get, slice_index_or}
use Rattle.std.proofs.lemmas.Bool.{cases_eq}
use Rattle.std.proofs.lemmas.Option.{same_Some, slice_get-get_or}
use Rattle.viterbi.specs.Search.Nodes.{HaveNoHead}
use Rattle.viterbi.proofs.search.backtrace.last_end_position.Goals as goal

pub returns-then-heads-end-gt0 : goal.returns-then-heads-end-gt0
returns-then-heads-end-gt0 c =
    let heads = c.args.heads.now in
    let last = c.loop-end.end - 1 in
    let more = c.loop-end-test.true in
    let low = c.loop-end.invariant.within in
    let next : c.loop-end.end ≡ last + 1 = omega (arith, more) in
    let at = slice_get-get_or heads last 0 (omega (arith, next, low)) in
    let some = c.if-heads-end-gt0.true in
    let head = slice_index_or heads last 0 in
    record {
      none_later = subst (HaveNoHead heads) next c.loop-end.invariant.none_later;
      reached = inr (head - 1, at ∙ ap Some (omega (arith, some)));
    }

pub loop-end-preserved : goal.loop-end-preserved
loop-end-preserved c =
    let heads = c.args.heads.now in
    let last = c.loop-end.end - 1 in
    let more = c.loop-end-test.true in
    let low = c.loop-end.invariant.within in
    let none = c.if-heads-end-gt0.false in
    record {
      within = omega (arith, low);
      none_later = λ place head from at. elim (cases_eq place last) [
        | inl same ↦
            let here = slice_get-get_or heads last 0 (omega (arith, more, low)) in
            let is = same_Some head (slice_index_or heads last 0) (sym at ∙ ap (slice_get heads) same ∙ here) in
            omega (arith, is, none)
        | inr other ↦ c.loop-end.invariant.none_later place head (omega (arith, from, other, more)) at
      ];
    }
