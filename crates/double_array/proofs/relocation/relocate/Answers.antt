use Rattle.std.proofs.Common.{arith, ◌≡◌, ℕ, ◌+◌, ◌≤◌, ap, sym, ◌∙◌, subst}
use Rattle.double_array.specs.Family.{HasCode}
use Rattle.double_array.specs.Moves.{IsMovedUpTo}
use Rattle.double_array.specs.Pool.{Pool}
use Rattle.double_array.proofs.FamilyLemmas.{code_by, relocation}
use Rattle.double_array.proofs.Moving.{no_self, room_as_it_was, child_named, children_from_base, base_is_positive, state_in_use, moved_more, moved_past, is_move, bases_kept, root_base_kept}
use Rattle.double_array.proofs.MovedLemmas.{all_children, child_more, children_below, no_child_more}
use Rattle.double_array.proofs.PoolLemmas.{no_code}
use Rattle.double_array.proofs.relocation.relocate.Goals as goal
use Rattle.double_array.proofs.relocation.relocate.Goals.{then-family-code, else-family-code}

has : (c : goal.After-move_child-arg-1) → HasCode c.args.family.now c.loop-code.code
has c = code_by c.args.family.now c.loop-code.code c.requires.family.long c.loop-code-test.true c.if-family-code.true

pub move_child-requires-clause-child : goal.move_child-requires-clause-child
move_child-requires-clause-child c =
    let r = c.requires in
    child_named (relocation r.built r.based r.some r.family r.fits) c.loop-code.pool.cells c.loop-code.code c.loop-code.invariant.children (has c)

pub move_child-requires-clause-no_self : goal.move_child-requires-clause-no_self
move_child-requires-clause-no_self c =
    let r = c.requires in
    no_self (relocation r.built r.based r.some r.family r.fits) c.loop-code.code (has c)

pub move_child-requires-clause-free : goal.move_child-requires-clause-free
move_child-requires-clause-free c =
    let r = c.requires in
    room_as_it_was (relocation r.built r.based r.some r.family r.fits) c.loop-code.pool.cells c.loop-code.code c.loop-code.invariant.children (has c)

pub move_child-requires-clause-window : goal.move_child-requires-clause-window
move_child-requires-clause-window c =
    let r = c.requires in
    children_from_base (relocation r.built r.based r.some r.family r.fits) c.loop-code.pool.cells c.loop-code.code c.loop-code.invariant.children (has c)

pub move_child-requires-clause-base : goal.move_child-requires-clause-base
move_child-requires-clause-base c = λ b at.
    let r = c.requires in
    let k = base_is_positive (relocation r.built r.based r.some r.family r.fits) c.loop-code.pool.cells c.loop-code.code c.loop-code.invariant.children (has c) b at in
    let low = r.built.bases (c.args.from + c.loop-code.code) b k.0 k.1 in
    let long = c.loop-code.invariant.children.long in
    (k.1, omega (arith, low.1, long, r.built.room))

pub loop-code-preserved : goal.loop-code-preserved
loop-code-preserved c =
    let r = c.requires in
    let k = c.loop-code.invariant in
    elim c.if-family-code.branch [
      | then-family-code w ↦
          let member = code_by c.args.family.now c.loop-code.code r.family.long c.loop-code-test.true w.if-family-code.true in
          let top = w.move_child.ensures.top in
          record {
            children = subst (λ (p : Pool). IsMovedUpTo c.args.pool.now.cells p.cells c.args.state c.args.from c.args.to c.args.family.now (c.loop-code.code + 1)) (sym w.pool-is)
                (moved_more (relocation r.built r.based r.some r.family r.fits) c.loop-code.pool.cells c.loop-code.code k.children w.move_child.new.pool.cells member w.move_child.ensures.moved);
            low = rw w.pool-is (omega (arith, top, k.low));
            top = rw w.pool-is (omega (arith, top, k.top, r.top, c.loop-code-test.true));
            count = w.moved-is ∙ ap (λ (n : ℕ). n + 1) k.count ∙ sym (child_more c.args.pool.now.cells c.args.state c.args.from c.loop-code.code r.based (r.family.sound c.loop-code.code member));
            few = rw w.moved-is (omega (arith, k.few));
          }
      | else-family-code w ↦
          let out : HasCode c.args.family.now c.loop-code.code → ⊥ = no_code c.args.family.now c.loop-code.code w.if-family-code.false in
          record {
            children = subst (λ (p : Pool). IsMovedUpTo c.args.pool.now.cells p.cells c.args.state c.args.from c.args.to c.args.family.now (c.loop-code.code + 1)) (sym w.pool-is)
                (moved_past (relocation r.built r.based r.some r.family r.fits) c.loop-code.pool.cells c.loop-code.code k.children out);
            low = rw w.pool-is k.low;
            top = rw w.pool-is k.top;
            count = w.moved-is ∙ k.count ∙ sym (no_child_more c.args.pool.now.cells c.args.state c.args.from c.loop-code.code r.based (λ named. out (r.family.complete c.loop-code.code (omega (arith, c.loop-code-test.true)) named)));
            few = rw w.moved-is (omega (arith, k.few));
          }
    ]

pub set_state_base-requires-clause-used : goal.set_state_base-requires-clause-used
set_state_base-requires-clause-used c =
    let r = c.requires in
    state_in_use (relocation r.built r.based r.some r.family r.fits) c.loop-code.pool.cells c.loop-code.code c.loop-code.invariant.children

all : (c : goal.After-set_state_base) → IsMovedUpTo c.args.pool.now.cells c.loop-code.pool.cells c.args.state c.args.from c.args.to c.args.family.now 257
all c =
    let e : c.loop-code.code ≡ 257 = omega arith in
    subst (IsMovedUpTo c.args.pool.now.cells c.loop-code.pool.cells c.args.state c.args.from c.args.to c.args.family.now) e c.loop-code.invariant.children

pub returns-clause-moved : goal.returns-clause-moved
returns-clause-moved c =
    let r = c.requires in
    is_move (relocation r.built r.based r.some r.family r.fits) c.loop-code.pool.cells c.set_state_base.new.self.cells (all c) c.set_state_base.ensures.cells (omega (arith, r.least)) (omega (arith, r.top, r.room)) r.member.0 r.member.1

pub returns-clause-bases : goal.returns-clause-bases
returns-clause-bases c =
    let r = c.requires in
    let below : c.args.to ≤ c.set_state_base.new.self.top = let e = c.set_state_base.ensures.top in let l = c.loop-code.invariant.low in omega (arith, e, l, r.top) in
    bases_kept (relocation r.built r.based r.some r.family r.fits) c.loop-code.pool.cells c.set_state_base.new.self.cells (all c) c.set_state_base.ensures.cells (omega (arith, r.least)) (omega (arith, r.top, r.room)) r.member.0 r.member.1
    c.set_state_base.new.self.top (λ t b at above. let m = r.built.bases t b at above in (m.0, (let e = c.set_state_base.ensures.top in let l = c.loop-code.invariant.low in omega (arith, m.1, e, l)))) r.least below

pub returns-clause-root : goal.returns-clause-root
returns-clause-root c =
    let r = c.requires in
    root_base_kept (relocation r.built r.based r.some r.family r.fits) c.loop-code.pool.cells c.set_state_base.new.self.cells (all c) c.set_state_base.ensures.cells (omega (arith, r.least)) (omega (arith, r.top, r.room)) r.member.0 r.member.1
    r.built.root.0 r.built.root.1 r.built.root.2 r.least

pub returns-clause-count : goal.returns-clause-count
returns-clause-count c =
    let e : c.loop-code.code ≡ 257 = omega arith in
    c.loop-code.invariant.count ∙ ap (children_below c.args.pool.now.cells c.args.state) e ∙ all_children c.args.pool.now.cells c.args.state
