use Rattle.std.proofs.Common.{arith, ◌≡◌, ◌<◌, ◌≤◌, ℕ, length, get_or, subst, ◌∙◌}
use Rattle.mj_model.specs.CellMap.{codes_of}
use Rattle.double_array.specs.Tail.{IsReady}
use Rattle.mj_model.proofs.KeyWalks.{code_of_byte}
use Rattle.double_array.proofs.TailLemmas.{ready_more, map_on, long_on, value_added, built_again, map_then}
use Rattle.double_array.proofs.MovedLemmas.{kept_more, wanted_inner}
use Rattle.double_array.proofs.tail.add_tail.Goals as goal

pub loop-i-preserved : goal.loop-i-preserved
loop-i-preserved c =
    let key = c.args.key.now in
    let i = c.loop-i.i in
    let k = c.loop-i.invariant in
    let e = c.add_state-next.ensures in
    let more : i < length key = c.loop-i-test.true in
    let near : get_or (codes_of key) i 0 ≤ 256 = let at = code_of_byte key i more in let byte = c.type_inv.key i in omega (arith, at, byte) in
    let new = c.add_state-next.new.pool in
    record {
      ready = ready_more c.loop-i.pool new key i c.loop-i.state c.loop-i.wanted c.code_at.result c.add_state-next.result e.from k.ready more near c.code_at.ensures.code e.cells e.least e.next_is e.low e.free e.top;
      map = λ other. map_on c.loop-i.pool new key i c.loop-i.state c.loop-i.wanted c.code_at.result c.add_state-next.result e.from k.ready more near c.code_at.ensures.code e.cells e.least e.next_is e.low e.free e.top other ∙ k.map other;
      kept = kept_more c.args.pool.now.cells c.loop-i.pool.cells new.cells c.loop-i.wanted _ k.kept k.ready.free (wanted_inner c.loop-i.pool key i c.loop-i.state c.loop-i.wanted k.ready) e.cells;
      long = long_on c.loop-i.pool new key i c.loop-i.state c.loop-i.wanted c.code_at.result c.add_state-next.result e.from k.ready more near c.code_at.ensures.code e.cells e.least e.next_is e.low e.free e.top ∙ k.long;
    }

last : (c : goal.After-add_value) → IsReady c.loop-i.pool c.args.key.now (length c.args.key.now) c.loop-i.state c.loop-i.wanted
last c =
    let k = c.loop-i.invariant in
    let within = k.ready.some_left in
    let e : c.loop-i.i ≡ length c.args.key.now = omega (arith, within, c.loop-i-test.false) in
    subst (λ (n : ℕ). IsReady c.loop-i.pool c.args.key.now n c.loop-i.state c.loop-i.wanted) e k.ready

pub returns-clause-map : goal.returns-clause-map
returns-clause-map c =
    map_then c.args.pool.now.cells c.loop-i.pool.cells c.add_value.new.pool.cells c.args.key.now c.args.value c.loop-i.invariant.map
    (value_added c.loop-i.pool c.add_value.new.pool c.args.key.now c.loop-i.state c.loop-i.wanted c.args.value (last c) c.requires.key c.requires.value c.add_value.ensures.cells c.add_value.ensures.top)

pub returns-clause-built : goal.returns-clause-built
returns-clause-built c =
    built_again c.loop-i.pool c.add_value.new.pool c.args.key.now c.loop-i.state c.loop-i.wanted c.args.value (last c) c.requires.key c.requires.value c.add_value.ensures.cells c.add_value.ensures.top

pub returns-clause-unchanged : goal.returns-clause-unchanged
returns-clause-unchanged c =
    kept_more c.args.pool.now.cells c.loop-i.pool.cells c.add_value.new.pool.cells c.loop-i.wanted _ c.loop-i.invariant.kept (last c).free (wanted_inner c.loop-i.pool c.args.key.now (length c.args.key.now) c.loop-i.state c.loop-i.wanted (last c)) c.add_value.ensures.cells
