use Rattle.std.proofs.Common.{◌≡◌, ◌∙◌, ℕ, None, Some, length, get_or, sym, ap, subst, arith}
use Rattle.std.proofs.lemmas.Option.{slice_get-get_or}
use Rattle.viterbi.proofs.WordNumbers.{no_word}
use Rattle.viterbi.specs.Nodes.Assembled.{AreNodes}
use Rattle.viterbi.proofs.NodeLemmas.{no_nodes, node_pushed, total_is_small, total_is_some}
use Rattle.viterbi.proofs.nodes.nodes.nodes_of.Goals as goal

pub unwrap-total-requires : goal.unwrap-total-requires
unwrap-total-requires c =
    let i = c.loop-i.i in
    let less = c.loop-i-test.true in
    let long = c.requires.forward_long in
    total_is_some (get_or c.args.forward_costs.now i None) (c.requires.forward_costs i None (omega (arith, less, long)))

pub node_of-requires-clause-total : goal.node_of-requires-clause-total
node_of-requires-clause-total c =
    let i = c.loop-i.i in
    let less = c.loop-i-test.true in
    let long = c.requires.forward_long in
    total_is_small (get_or c.args.forward_costs.now i None) c.unwrap-total.result (c.requires.forward_costs i None (omega (arith, less, long))) c.unwrap-total.ensures

pub node_of-requires-clause-backward_cost : goal.node_of-requires-clause-backward_cost
node_of-requires-clause-backward_cost c =
    let i = c.loop-i.i in
    let less = c.loop-i-test.true in
    let long = c.requires.backward_long in
    c.requires.backward_costs i None (omega (arith, less, long))

pub loop-i-init : goal.loop-i-init
loop-i-init c = subst (AreNodes c.args.words.now c.args.forward_costs.now c.args.backward_costs.now 0) (sym c.new-nodes.ensures.items) (no_nodes c.args.words.now c.args.forward_costs.now c.args.backward_costs.now)

pub loop-i-preserved : goal.loop-i-preserved
loop-i-preserved c =
    let i = c.loop-i.i in
    let less = c.loop-i-test.true in
    let forward_long = c.requires.forward_long in
    let backward_long = c.requires.backward_long in
    let n = c.node_of.result in
    node_pushed c.args.words.now c.args.forward_costs.now c.args.backward_costs.now i c.loop-i.nodes.items c.push.new.self.items n c.in_ok-push.ensures.items
    (record {
      total = c.unwrap-total.result;
      backward = get_or c.args.backward_costs.now i None;
      word_here = slice_get-get_or c.args.words.now i no_word less ∙ ap Some (sym c.node_of.ensures.word);
      total_here = slice_get-get_or c.args.forward_costs.now i None (omega (arith, less, forward_long)) ∙ ap Some c.unwrap-total.ensures;
      backward_here = slice_get-get_or c.args.backward_costs.now i None (omega (arith, less, backward_long));
      total_is = c.node_of.ensures.total;
      through_is = c.node_of.ensures.through;
    }) c.loop-i.invariant

pub returns : goal.returns
returns c =
    let all : c.loop-i.i ≡ length c.args.words.now = omega (arith, c.loop-i.auto.i-end, c.loop-i-test.false) in
    subst (λ (n : ℕ). AreNodes c.args.words.now c.args.forward_costs.now c.args.backward_costs.now n c.loop-i.nodes.items) all c.loop-i.invariant
