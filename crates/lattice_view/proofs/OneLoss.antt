-- Rivals of one word have the same cost: each has the least cost of all paths that segment
-- differently.
use Rattle.std.proofs.Common.{◌≡◌, None, Some, refl, ap, arith}
use Rattle.std.proofs.lemmas.Int.{ints}
use Rattle.lattice_view.specs.WhyPrinter.OneLoss.{HasOneLoss}

pub one_loss : HasOneLoss
one_loss words conn best w None None h k = refl
one_loss words conn best w None (Some s) h k = absurd (h s.cost k.least.0)
one_loss words conn best w (Some r) None h k = absurd (k r.cost h.least.0)
one_loss words conn best w (Some r) (Some s) h k =
    let low = h.least.1 s.cost k.least.0 in
    let high = k.least.1 r.cost h.least.0 in
    let same : s.cost ≡ r.cost = omega (arith, ints, low, high) in
    ap Some same
