use Rattle.std.proofs.Common.{arith, ◌≡◌, ◌+◌, ◌-◌, ◌≤◌, ◌^◌, length, ap}
use Rattle.double_array.specs.Pool.{Pool}
use Rattle.double_array.proofs.PoolLemmas.{long_seen, grown_ring, grown_linked, pool_grown, grown_view}
use Rattle.double_array.proofs.pool.CellPool.grow.Goals as goal

pub grow-requires-clause-more : goal.grow-requires-clause-more
grow-requires-clause-more c =
    let l = long_seen c.self.inside.cells c.args.self.now.cells (ap (λ (p : Pool). p.cells) c.self.view_is) in omega (arith, l, c.requires.more)

pub link_from-requires-clause-ring : goal.link_from-requires-clause-ring
link_from-requires-clause-ring c =
    grown_ring c.self.inside.cells c.grow.new.self c.self.inside.top c.self.inside.start (c.args.n - length c.self.inside.cells) c.self.invariant c.in_ok-grow.ensures.appended

pub link_from-requires-clause-linked : goal.link_from-requires-clause-linked
link_from-requires-clause-linked c =
    grown_linked c.self.inside.cells c.grow.new.self c.self.inside.top c.self.inside.start (c.args.n - length c.self.inside.cells) c.self.invariant c.in_ok-grow.ensures.appended c.len-from.result c.len-from.ensures.length

pub invariant_of-self-2 : goal.invariant_of-self-2
invariant_of-self-2 c =
    let e = c.link_from.ensures in
    let l = long_seen c.self.inside.cells c.args.self.now.cells (ap (λ (p : Pool). p.cells) c.self.view_is) in
    let few : length c.self.inside.cells + (c.args.n - length c.self.inside.cells) ≤ 2 ^ 30 = omega (arith, l, c.requires.more, c.requires.few) in
    pool_grown c.self.inside.cells c.grow.new.self c.self.inside.top c.self.inside.start (c.args.n - length c.self.inside.cells) c.self.invariant c.in_ok-grow.ensures.appended c.link_from.new.cells e.ring e.linked e.links e.seen few

pub returns-clause-grown : goal.returns-clause-grown
returns-clause-grown c =
    let view_is = ap (λ (p : Pool). p.cells) c.self.view_is in
    let l = long_seen c.self.inside.cells c.args.self.now.cells view_is in
    let all : length c.self.inside.cells + (c.args.n - length c.self.inside.cells) ≡ c.args.n = omega (arith, l, c.requires.more) in
    grown_view c.self.inside.cells c.grow.new.self c.self.inside.top c.self.inside.start (c.args.n - length c.self.inside.cells) c.self.invariant c.in_ok-grow.ensures.appended c.link_from.new.cells c.args.self.now.cells c.args.n view_is c.link_from.ensures.seen all
