use Rattle.std.proofs.Common.{arith, ◌+◌, sym, subst}
use Rattle.double_array.specs.Built.{MeetsInvariants}
use Rattle.double_array.proofs.InsertionLemmas.{grown_built, on_passed}
use Rattle.double_array.proofs.RoomLemmas.{by_result, on_both, room_here, room_of}
use Rattle.double_array.proofs.insertion.make_room.Goals as goal

pub returns-then-has_room-clause-room : goal.returns-then-has_room-clause-room
returns-then-has_room-clause-room c =
    room_here c.args.pool.now c.has_room.new.pool c.args.key_length c.args.left c.has_room.ensures.built c.has_room.ensures.cells (c.has_room.ensures.room c.if-has_room.true)

pub returns-clause-room : goal.returns-clause-room
returns-clause-room c =
    let low = c.has_room.new.pool in
    let n = c.len.result + c.args.key_length + 600 in
    on_passed c.grow.result c.map_err.result c.map_err.ensures.variant c.grow.ensures.grown c.grow.ensures.top
    (λ grown top. room_of c.args.pool.now low c.grow.new.self c.args.key_length c.args.left c.has_room.ensures.cells
    (grown_built low c.grow.new.self n c.args.key_length c.args.left c.has_room.ensures.built grown top (omega (arith, c.len.ensures.length)) c.if-wanted-gt-CELLS_MAX.false c.requires.left))

pub returns-clause-built : goal.returns-clause-built
returns-clause-built c =
    let low = c.has_room.new.pool in
    let n = c.len.result + c.args.key_length + 600 in
    by_result c.grow.result (on_both _ _ c.grow.result c.grow.ensures.grown c.grow.ensures.top) c.grow.ensures.unchanged
    (λ both. (grown_built low c.grow.new.self n c.args.key_length c.args.left c.has_room.ensures.built both.0 both.1 (omega (arith, c.len.ensures.length)) c.if-wanted-gt-CELLS_MAX.false c.requires.left).built)
    (λ kept. subst MeetsInvariants (sym kept) c.has_room.ensures.built)

pub returns-clause-space : goal.returns-clause-space
returns-clause-space c = λ space. absurd (c.has_room.ensures.none c.if-has_room.false c.args.key_length c.requires.left space)
