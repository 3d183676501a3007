use Rattle.std.proofs.Common.{arith, ◌≡◌, pos, ap, sym, ◌∙◌}
use Rattle.mj_model.proofs.Basics.{same_pos}
use Rattle.double_array.proofs.RingLemmas.{next_is_other}
use Rattle.double_array.proofs.pool.start_without.Goals as goal

pub returns-then-start-i-clause-links : goal.returns-then-start-i-clause-links
returns-then-start-i-clause-links c = (c.requires.ring.next c.args.start c.next.result c.requires.start c.next.ensures).0

pub returns-then-start-i-clause-apart : goal.returns-then-start-i-clause-apart
returns-then-start-i-clause-apart c = λ e.
    let l = c.requires.start in
    let is_i : c.args.start ≡ c.args.i = c.if-start-i.true in
    let loop : l.next ≡ c.args.start = same_pos l.next c.args.start (sym l.next_is ∙ c.next.ensures ∙ ap pos (e ∙ sym is_i)) in
    next_is_other c.args.cells.now c.args.start c.requires.ring l (λ one. omega (arith, one, is_i, c.requires.inner)) loop
