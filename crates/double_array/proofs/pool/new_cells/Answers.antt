use Rattle.double_array.proofs.PoolLemmas.{one_ring, one_linked, new_is}
use Rattle.double_array.proofs.pool.new_cells.Goals as goal

pub link_from-requires-clause-ring : goal.link_from-requires-clause-ring
link_from-requires-clause-ring c = one_ring c.in_ok-cells.cells c.set.new.self c.set_links.new.cells c.args.n c.requires.some c.in_ok-cells.ensures c.set.ensures c.set_links.ensures

pub link_from-requires-clause-linked : goal.link_from-requires-clause-linked
link_from-requires-clause-linked c = one_linked c.in_ok-cells.cells c.set.new.self c.set_links.new.cells c.args.n c.requires.some c.in_ok-cells.ensures c.set.ensures c.set_links.ensures

pub returns : goal.returns
returns c =
    let e = c.link_from.ensures in
    new_is c.in_ok-cells.cells c.set.new.self c.set_links.new.cells c.args.n c.requires.some c.in_ok-cells.ensures c.set.ensures c.set_links.ensures c.link_from.new.cells e.ring e.linked e.seen
