use Rattle.std.proofs.Common.{arith, ℕ, pos, ℤ, set, ap, sym, subst, ◌∙◌, w32}
use Rattle.std.proofs.lemmas.Int.{to_z-of_z}
use Rattle.double_array.specs.Views.{cell_views}
use Rattle.double_array.specs.Pool.{Pool, IsPool}
use Rattle.double_array.proofs.RingLemmas.{linked_within}
use Rattle.double_array.proofs.RingWrites.{IsTaken}
use Rattle.double_array.proofs.PoolLemmas.{long_seen, linked_if_free, pool_taken}
use Rattle.double_array.proofs.pool.CellPool.take_free_cell.Goals as goal

pub take-requires-clause-free : goal.take-requires-clause-free
take-requires-clause-free c =
    let view_is = ap (λ (p : Pool). p.cells) c.self.view_is in
    linked_if_free c.self.inside.cells c.args.self.now.cells c.self.inside.top c.self.inside.start c.args.i c.self.invariant view_is c.requires.free (omega (arith, c.requires.inner)) (omega (arith, c.requires.room))

pub overflow_add-i : goal.overflow_add-i
overflow_add-i c =
    let l = long_seen c.self.inside.cells c.args.self.now.cells (ap (λ (p : Pool). p.cells) c.self.view_is) in
    omega (arith, l, c.requires.room, c.self.invariant.few)

pub invariant_of-self : goal.invariant_of-self
invariant_of-self c =
    let view_is = ap (λ (p : Pool). p.cells) c.self.view_is in
    let e = c.take.ensures in
    let taken : IsTaken c.self.inside.cells c.take.new.cells c.args.i (c.args.base, pos c.args.state) = record { ring = e.ring; links = e.links; seen_is = e.seen ∙ ap (λ (b : ℤ). set (cell_views c.self.inside.cells) c.args.i (b, pos c.args.state)) (to_z-of_z w32 c.args.base c.ranges.base) } in
    let links = linked_if_free c.self.inside.cells c.args.self.now.cells c.self.inside.top c.self.inside.start c.args.i c.self.invariant view_is c.requires.free (omega (arith, c.requires.inner)) (omega (arith, c.requires.room)) in
    let s = c.start_without-self-inside in
    subst (λ (t : ℕ). IsPool c.take.new.cells t s.result) (sym c.max-self-inside.ensures)
    (pool_taken c.self.inside.cells c.take.new.cells c.args.self.now.cells c.self.inside.top c.self.inside.start s.result c.args.i c.args.state c.args.base c.self.invariant view_is taken s.ensures.links s.ensures.apart (linked_within c.self.inside.cells c.args.i links) c.requires.room)
