use Rattle.std.proofs.Common.{◌≡◌, None, length, negsuc, sym, ap, ◌∙◌}
use Rattle.std.proofs.lemmas.List.{length-set}
use Rattle.mj_model.specs.CellMap.{value_of}
use Rattle.double_array.proofs.TailLemmas.{map_then}
use Rattle.double_array.proofs.InsertionLemmas.{end_in_use, end_within, end_led, end_holds, end_replaced, end_value, end_built, absent, none_still, ready, map_before}
use Rattle.double_array.proofs.MovedLemmas.{in_place, moved_in_all}
use Rattle.double_array.proofs.RoomLemmas.{on_err_by}
use Rattle.double_array.proofs.insertion.insert_key.Goals as goal

pub replace_value-requires-clause-used : goal.replace_value-requires-clause-used
replace_value-requires-clause-used c =
    end_in_use c.args.pool.now c.args.key.now c.walk_key-at.result c.code_at-code.result c.in-Some.end c.requires.built c.requires.some c.walk_key-at.ensures c.code_at-code.ensures.code c.in-Some.ensures

pub replace_value-requires-clause-within : goal.replace_value-requires-clause-within
replace_value-requires-clause-within c =
    end_within c.args.pool.now c.args.key.now c.walk_key-at.result c.code_at-code.result c.in-Some.end c.requires.built c.requires.some c.walk_key-at.ensures c.code_at-code.ensures.code c.in-Some.ensures

pub replace_value-requires-clause-state : goal.replace_value-requires-clause-state
replace_value-requires-clause-state c =
    end_holds c.args.pool.now c.args.key.now c.walk_key-at.result c.code_at-code.result c.in-Some.end c.requires.built c.requires.some c.walk_key-at.ensures c.code_at-code.ensures.code c.in-Some.ensures

pub returns-in-Some-clause-built : goal.returns-in-Some-clause-built
returns-in-Some-clause-built c =
    let e = c.replace_value.ensures in
    end_built c.args.pool.now c.args.key.now c.walk_key-at.result c.code_at-code.result c.in-Some.end c.requires.built c.requires.some c.walk_key-at.ensures c.code_at-code.ensures.code c.in-Some.ensures
    c.replace_value.new.pool c.args.value c.replace_value.result c.requires.value e.value e.cells e.top

pub returns-in-Some-clause-map : goal.returns-in-Some-clause-map
returns-in-Some-clause-map c =
    let e = c.replace_value.ensures in
    end_replaced c.args.pool.now c.args.key.now c.walk_key-at.result c.code_at-code.result c.in-Some.end c.requires.built c.requires.some c.walk_key-at.ensures c.code_at-code.ensures.code c.in-Some.ensures
    c.replace_value.new.pool c.args.value c.replace_value.result c.requires.value e.value e.cells e.top

pub returns-in-Some-clause-old : goal.returns-in-Some-clause-old
returns-in-Some-clause-old c =
    let e = c.replace_value.ensures in
    sym (end_value c.args.pool.now c.args.key.now c.walk_key-at.result c.code_at-code.result c.in-Some.end c.requires.built c.requires.some c.walk_key-at.ensures c.code_at-code.ensures.code c.in-Some.ensures
    c.replace_value.new.pool c.args.value c.replace_value.result c.requires.value e.value e.cells e.top)

pub returns-in_err-make_room-in-None-clause-absent : goal.returns-in_err-make_room-in-None-clause-absent
returns-in_err-make_room-in-None-clause-absent c =
    on_err_by c.from_residual.result (value_of c.args.pool.now.cells c.args.key.now ≡ None)
    (absent c.args.pool.now c.args.key.now c.walk_key-at.result c.code_at-code.result c.requires.built c.requires.some c.walk_key-at.ensures c.code_at-code.ensures.code (sym c.in-None.ensures))

pub free_target_cell-cleared-requires-clause-none : goal.free_target_cell-cleared-requires-clause-none
free_target_cell-cleared-requires-clause-none c =
    none_still c.args.pool.now c.args.key.now c.walk_key-at.result c.code_at-code.result c.requires.built c.requires.some c.walk_key-at.ensures c.code_at-code.ensures.code (sym c.in-None.ensures)
    c.make_room.new.pool c.in_ok-make_room-in-None.ensures.room

pub add_tail-requires-clause-ready : goal.add_tail-requires-clause-ready
add_tail-requires-clause-ready c =
    ready c.args.pool.now c.args.key.now c.walk_key-at.result c.code_at-code.result c.requires.built c.requires.some c.walk_key-at.ensures c.code_at-code.ensures.code (sym c.in-None.ensures)
    c.make_room.new.pool c.in_ok-make_room-in-None.ensures.room c.free_target_cell-cleared.new.pool c.free_target_cell-cleared.result.state c.free_target_cell-cleared.result.wanted c.free_target_cell-cleared.ensures.cleared

pub returns-in_ok-make_room-in-None-clause-map : goal.returns-in_ok-make_room-in-None-clause-map
returns-in_ok-make_room-in-None-clause-map c =
    map_then c.args.pool.now.cells c.free_target_cell-cleared.new.pool.cells c.add_tail.new.pool.cells c.args.key.now c.args.value
    (map_before c.args.pool.now c.args.key.now c.walk_key-at.result c.code_at-code.result c.requires.built c.requires.some c.walk_key-at.ensures c.code_at-code.ensures.code (sym c.in-None.ensures)
    c.make_room.new.pool c.in_ok-make_room-in-None.ensures.room c.free_target_cell-cleared.new.pool c.free_target_cell-cleared.result.state c.free_target_cell-cleared.result.wanted c.free_target_cell-cleared.ensures.cleared)
    c.add_tail.ensures.map

pub returns-in_ok-make_room-in-None-clause-old : goal.returns-in_ok-make_room-in-None-clause-old
returns-in_ok-make_room-in-None-clause-old c =
    sym (absent c.args.pool.now c.args.key.now c.walk_key-at.result c.code_at-code.result c.requires.built c.requires.some c.walk_key-at.ensures c.code_at-code.ensures.code (sym c.in-None.ensures))

pub returns-in-Some-clause-moved : goal.returns-in-Some-clause-moved
returns-in-Some-clause-moved c =
    in_place c.args.pool.now.cells c.replace_value.new.pool.cells c.args.key.now c.in-Some.end (negsuc c.args.value)
    (end_within c.args.pool.now c.args.key.now c.walk_key-at.result c.code_at-code.result c.in-Some.end c.requires.built c.requires.some c.walk_key-at.ensures c.code_at-code.ensures.code c.in-Some.ensures)
    (end_led c.args.pool.now c.args.key.now c.walk_key-at.result c.code_at-code.result c.in-Some.end c.requires.built c.requires.some c.walk_key-at.ensures c.code_at-code.ensures.code c.in-Some.ensures)
    c.replace_value.ensures.cells

pub returns-in-Some-clause-space : goal.returns-in-Some-clause-space
returns-in-Some-clause-space c = λ space. ap length c.replace_value.ensures.cells ∙ length-set c.args.pool.now.cells c.in-Some.end _

pub returns-in-Some-clause-present : goal.returns-in-Some-clause-present
returns-in-Some-clause-present c = λ present. ap length c.replace_value.ensures.cells ∙ length-set c.args.pool.now.cells c.in-Some.end _

pub returns-in_ok-make_room-in-None-clause-moved : goal.returns-in_ok-make_room-in-None-clause-moved
returns-in_ok-make_room-in-None-clause-moved c =
    moved_in_all c.args.pool.now.cells c.make_room.new.pool.cells c.free_target_cell-cleared.new.pool.cells c.add_tail.new.pool.cells c.args.key.now c.free_target_cell-cleared.result.moved c.in_ok-make_room-in-None.ensures.room.same
    (c.add_tail.ensures.long ∙ c.free_target_cell-cleared.ensures.cleared.long) c.add_tail.ensures.unchanged c.free_target_cell-cleared.ensures.moved

pub returns-in_ok-make_room-in-None-clause-space : goal.returns-in_ok-make_room-in-None-clause-space
returns-in_ok-make_room-in-None-clause-space c = λ space. c.add_tail.ensures.long ∙ c.free_target_cell-cleared.ensures.cleared.long ∙ c.in_ok-make_room-in-None.ensures.space space
