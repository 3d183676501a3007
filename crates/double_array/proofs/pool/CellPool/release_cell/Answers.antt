use Rattle.std.proofs.Common.{ap}
use Rattle.double_array.specs.Pool.{Pool}
use Rattle.double_array.proofs.RingWrites.{IsJoined}
use Rattle.double_array.proofs.PoolLemmas.{pool_joined, used_no_links}
use Rattle.double_array.proofs.pool.CellPool.release_cell.Goals as goal

pub link-requires-clause-outside : goal.link-requires-clause-outside
link-requires-clause-outside c = used_no_links c.self.inside.cells c.args.self.now.cells c.args.i c.requires.used.0 (ap (λ (p : Pool). p.cells) c.self.view_is) c.requires.used.1 c.requires.above

pub invariant_of-self : goal.invariant_of-self
invariant_of-self c =
    let e = c.link.ensures in
    let joined : IsJoined c.self.inside.cells c.link.new.cells c.args.i = record { ring = e.ring; links = e.links; linked = e.linked; others = e.others; seen_is = e.seen } in
    pool_joined c.self.inside.cells c.link.new.cells c.args.self.now.cells c.self.inside.top c.self.inside.start c.args.i c.requires.used.0 c.self.invariant (ap (λ (p : Pool). p.cells) c.self.view_is) joined c.requires.used.1
