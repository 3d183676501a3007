use Rattle.std.proofs.Common.{sym, ap, ◌∙◌}
use Rattle.double_array.specs.Pool.{Pool}
use Rattle.double_array.proofs.PoolLemmas.{long_seen}
use Rattle.double_array.proofs.pool.CellPool.len.Goals as goal

pub returns-clause-length : goal.returns-clause-length
returns-clause-length c = c.len.ensures.length ∙ sym (long_seen c.self.inside.cells c.args.self.now.cells (ap (λ (p : Pool). p.cells) c.self.view_is))
