use Rattle.std.proofs.Common.{arith, ◌+◌, List, subst, sym}
use Rattle.std.proofs.lemmas.Bool.{le-leb}
use Rattle.mj_model.specs.CellMap.{Cell}
use Rattle.double_array.specs.Moved.{HasSpaceAfterEachCell}
use Rattle.double_array.proofs.RoomLemmas.{lowered_built, room_by_space}
use Rattle.double_array.proofs.insertion.has_room.Goals as goal

pub returns-clause-built : goal.returns-clause-built
returns-clause-built c = let e = c.lower_top.ensures in lowered_built c.args.pool.now c.lower_top.new.self c.requires.built e.cells e.low e.least e.beyond

pub returns-clause-none : goal.returns-clause-none
returns-clause-none c = λ no long less space.
    let low = c.lower_top.new.self in
    let e = c.lower_top.ensures in
    let room = room_by_space low.cells low.top long c.args.left e.last (subst (λ (cells : List Cell). HasSpaceAfterEachCell cells long) (sym e.cells) space) less in
    let t = c.top-2.ensures in
    let l = c.len-2.ensures.length in
    let yes = le-leb (c.top-2.result + (514 + c.args.left)) c.len-2.result (omega (arith, room, t, l)) in
    absurd (cc)
