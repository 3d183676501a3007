use Rattle.std.proofs.Common.{◌≡◌, ◌+◌, ◌≤◌, pos, true, false, ap, sym, subst, ◌∙◌, inr}
use Rattle.mj_model.specs.CellMap.{check}
use Rattle.double_array.specs.CellMoves.{IsMove}
use Rattle.double_array.proofs.CellMoveLaw.{Renames}
use Rattle.double_array.specs.Built.{values}
use Rattle.double_array.specs.Pool.{Pool}
use Rattle.double_array.proofs.ClearingLemmas.{cleared_by_other, goes_along}
use Rattle.double_array.proofs.MovedLemmas.{one_move}
use Rattle.double_array.proofs.clearing.move_other.Goals as goal
use Rattle.double_array.proofs.clearing.move_other.Goals.{then-is_child, else-is_child}

move : (c : goal.After-relocate-moved) → IsMove c.args.pool.now.cells c.relocate-moved.new.pool.cells c.args.other c.find_free_base-to.result
move c = subst (λ (p : Pool). IsMove p.cells c.relocate-moved.new.pool.cells c.args.other c.find_free_base-to.result) c.find_free_base-to.ensures.unchanged c.relocate-moved.ensures.moved

follows : (c : goal.After-relocate-moved) → Renames values c.args.pool.now.cells c.relocate-moved.new.pool.cells c.args.other c.find_free_base-to.result c.requires.can.built.rules c.requires.can.built.on_keys (move c) c.args.state c.if-is_child.follow
follows c =
    let kept = c.find_free_base-to.ensures.unchanged in
    let same : check c.find_free_base-to.new.self.cells c.args.state ≡ check c.args.pool.now.cells c.args.state = ap (λ (p : Pool). check p.cells c.args.state) kept in
    elim c.if-is_child.branch [
      | then-is_child w ↦
          let named : check c.args.pool.now.cells c.args.state ≡ pos c.args.other = sym same ∙ c.is_child.ensures.0 w.if-is_child.true in
          subst (Renames values c.args.pool.now.cells c.relocate-moved.new.pool.cells c.args.other c.find_free_base-to.result c.requires.can.built.rules c.requires.can.built.on_keys (move c) c.args.state) (sym w.follow-is)
          (goes_along c.args.pool.now c.relocate-moved.new.pool c.args.state c.args.other c.base-other_from.result c.find_free_base-to.result c.requires.can.built (move c) c.base-other_from.ensures named)
      | else-is_child w ↦
          inr ((λ named. let t = c.is_child.ensures.1 (same ∙ named) in let f : true ≡ false = sym t ∙ w.if-is_child.false in absurd (cc)), w.follow-is)
    ]

pub returns-clause-cleared : goal.returns-clause-cleared
returns-clause-cleared c =
    let r = c.requires in
    let f = c.find_free_base-to in
    let e = c.relocate-moved.ensures in
    let new = c.relocate-moved.new.pool in
    let top : new.top ≤ c.args.pool.now.top + 257 = subst (λ (p : Pool). new.top ≤ p.top + 257) f.ensures.unchanged e.top in
    cleared_by_other c.args.pool.now new c.args.state c.args.from c.args.code c.args.other c.base-other_from.result f.result c.if-is_child.follow c.args.family.now r.can.built r.can.based r.can.least r.can.code_within r.used r.apart r.can.room (move c) e.bases e.root top (follows c)

pub returns-clause-moved : goal.returns-clause-moved
returns-clause-moved c =
    let f = c.find_free_base-to in
    let e = c.relocate-moved.ensures in
    one_move c.args.pool.now f.new.self c.relocate-moved.new.pool c.args.other f.result c.relocate-moved.result f.ensures.unchanged e.moved e.count
