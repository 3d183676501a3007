-- A cost through a node minus its forward cost.
use Rattle.std.proofs.Common.{◌≡◌, ◌^◌, Option, None, Some, refl, sym, ap, subst, arith}
use Rattle.std.specs.Prelude.{ℤ, ◌-ℤ◌}
use Rattle.std.proofs.lemmas.Int.{ints}
use Rattle.std.proofs.lemmas.Option.{none-some, same_Some}
use Rattle.mj_model.specs.Bounds.{IsWithin}
use Rattle.viterbi.specs.declared.nodes.lattice_node.LatticeNode.{LatticeNode}
use Rattle.viterbi.specs.Rivals.Places.{IsSmallIfSome, IsSmallNode}
use Rattle.viterbi.specs.Rivals.Totals.{backward_cost_in}
use Rattle.viterbi.specs.declared.rivals.total.Total.{Total}

abbrev pub the_total : ℤ → Total
the_total c = record { cost = c }

pub backward_some : (total : ℤ) (through : Option ℤ) (rest : Total) → backward_cost_in total through ≡ Some rest → (cost : ℤ) × (through ≡ Some cost) × (rest.cost ≡ cost -ℤ total)
backward_some total None rest is = absurd (none-some rest is)
backward_some total (Some cost) rest is = (cost, refl, ap (λ (x : Total). x.cost) (same_Some rest (the_total (cost -ℤ total)) (sym is)))

pub backward_small : (n : LatticeNode) → IsSmallNode n → (rest : Total) → backward_cost_in n.total n.through ≡ Some rest → IsWithin (2 ^ 43) rest.cost
backward_small n small rest is =
    let p = backward_some n.total n.through rest is in
    let through = subst IsSmallIfSome p.1 small.through in
    let total = small.total in
    let e = p.2 in
    (omega (arith, ints, through.0, through.1, total.0, total.1, e), omega (arith, ints, through.0, through.1, total.0, total.1, e))
