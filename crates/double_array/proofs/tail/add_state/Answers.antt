use Rattle.std.proofs.Common.{arith, List, ◌+◌, pos, refl, ap, ◌∙◌}
use Rattle.mj_model.specs.CellMap.{Cell, check}
use Rattle.double_array.specs.Pool.IsInUse.{is_named}
use Rattle.double_array.proofs.ViewLemmas.{at_same}
use Rattle.double_array.proofs.TailLemmas.{state_added}
use Rattle.double_array.proofs.tail.add_state.Goals as goal

pub set_state_base-requires-clause-used : goal.set_state_base-requires-clause-used
set_state_base-requires-clause-used c =
    is_named {s = c.args.state}
    (ap (λ (xs : List Cell). check xs c.args.wanted) c.take_free_cell.ensures.cells ∙ ap (λ (x : Cell). x.1) (at_same c.args.pool.now.cells c.args.wanted (pos 2, pos c.args.state) (omega (arith, c.requires.room))))

pub returns : goal.returns
returns c =
    let f = c.find_free_cell-base in
    state_added c.args.pool.now c.take_free_cell.new.self c.set_state_base.new.self c.args.state c.args.wanted c.args.next_code (f.result + c.args.next_code) f.result (pos 2) c.take_free_cell.ensures.cells c.set_state_base.ensures.cells (omega (arith, c.requires.room))
    c.take_free_cell.ensures.top c.set_state_base.ensures.top f.ensures.least refl f.ensures.top f.ensures.free
