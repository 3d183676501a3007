use Rattle.std.proofs.Common.{◌+◌, ◌≤◌, sym, subst}
use Rattle.double_array.specs.CellMoves.{IsMove}
use Rattle.double_array.specs.Pool.{Pool}
use Rattle.double_array.specs.Family.{FitsAt}
use Rattle.double_array.proofs.ClearingLemmas.{has_code, fits_less, cleared_by_own}
use Rattle.double_array.proofs.MovedLemmas.{one_move}
use Rattle.double_array.proofs.clearing.move_own.Goals as goal

pub relocate-moved-requires-clause-member : goal.relocate-moved-requires-clause-member
relocate-moved-requires-clause-member c =
    let r = c.requires in
    has_code c.args.pool.now c.args.state c.args.from (c.args.from + c.args.code) r.used.0 c.args.family.now r.can.built r.can.based r.can.least r.used.1 r.family

pub relocate-moved-requires-clause-fits : goal.relocate-moved-requires-clause-fits
relocate-moved-requires-clause-fits c =
    let f = c.find_free_base-to in
    subst (λ (p : Pool). FitsAt p.cells c.args.family.now f.result) (sym f.ensures.unchanged) (fits_less c.args.pool.now.cells c.args.family.now c.args.code f.result f.ensures.free)

pub returns-clause-cleared : goal.returns-clause-cleared
returns-clause-cleared c =
    let r = c.requires in
    let f = c.find_free_base-to in
    let e = c.relocate-moved.ensures in
    let new = c.relocate-moved.new.pool in
    let move = subst (λ (p : Pool). IsMove p.cells new.cells c.args.state f.result) f.ensures.unchanged e.moved in
    let top : new.top ≤ c.args.pool.now.top + 257 = subst (λ (p : Pool). new.top ≤ p.top + 257) f.ensures.unchanged e.top in
    cleared_by_own c.args.pool.now new c.args.state c.args.from c.args.code f.result c.args.family.now r.can.built r.can.based r.can.least r.can.code_within r.none r.family f.ensures.free f.ensures.least f.ensures.top r.can.room move e.bases e.root top

pub returns-clause-moved : goal.returns-clause-moved
returns-clause-moved c =
    let f = c.find_free_base-to in
    let e = c.relocate-moved.ensures in
    one_move c.args.pool.now f.new.self c.relocate-moved.new.pool c.args.state f.result c.relocate-moved.result f.ensures.unchanged e.moved e.count
