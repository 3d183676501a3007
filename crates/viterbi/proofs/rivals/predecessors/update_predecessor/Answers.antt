use Rattle.std.proofs.Common.{◌≡◌, ◌∙◌, ℤ, true, false, inl, inr, refl, sym, ap}
use Rattle.std.specs.Prelude.{◌+ℤ◌}
use Rattle.viterbi.proofs.rivals.predecessors.update_predecessor.Goals as goal

pub returns-then-is_predecessor : goal.returns-then-is_predecessor
returns-then-is_predecessor g c =
    let m = c.args.node.now in
    let n = c.args.next.now in
    let found = c.neighbor_between-found.ensures in
    inl (record {
      total = c.is_predecessor.ensures.0 c.if-is_predecessor.true ∙ ap (λ (x : ℤ). (m.total +ℤ x) +ℤ n.word.cost) found.connection;
      node = found.node;
      connection = found.connection;
    })

pub returns : goal.returns
returns g c =
    let m = c.args.node.now in
    let n = c.args.next.now in
    let found = c.neighbor_between-found.ensures in
    inr (record {
      other = λ sum.
          let t = c.is_predecessor.ensures.1 (sum ∙ ap (λ (x : ℤ). (m.total +ℤ x) +ℤ n.word.cost) (sym found.connection)) in
          let f : true ≡ false = sym t ∙ c.if-is_predecessor.false in
          absurd (cc);
      is = refl;
    })
