use Rattle.std.proofs.Common.{◌+◌, ◌*◌, ◌^◌, ◌≤◌, ◌∙◌, List, false, length, refl, sym, ap, subst, arith}
use Rattle.std.proofs.lemmas.Int.{ints}
use Rattle.std.proofs.lemmas.List.{length_push}
use Rattle.std.proofs.lemmas.Option.{same_Some, slice_get_read, slice_get_within}
use Rattle.mj_model.specs.Bounds.{IsWithin}
use Rattle.viterbi.specs.declared.nodes.lattice_node.LatticeNode.{LatticeNode}
use Rattle.viterbi.specs.declared.rivals.rival_path.TheConstants.{STEPS_MAX}
use Rattle.viterbi.specs.declared.rivals.step.PathStep.{PathStep}
use Rattle.viterbi.proofs.RivalsStateLemmas.{node_number}
use Rattle.viterbi.proofs.SuccessorLemmas.{on_along, on_cut_off, on_ended, on_first}
use Rattle.viterbi.proofs.rivals.walks.walk_forward.Goals as goal

pub loop-node-init : goal.loop-node-init
loop-node-init c =
    let linked = c.args.linked.now in
    let is = c.total-total.ensures in
    let small = c.requires.neighbors.small c.args.from is.node is.here in
    let none = c.new-steps.ensures.items in
    let same = is.is in
    record {
      within = c.requires.node;
      few = subst (λ (xs : List PathStep). length xs ≤ STEPS_MAX) (sym none) (omega arith);
      small = subst (λ (xs : List PathStep). IsWithin (2 ^ 40 + 2 ^ 16 * length xs) c.total-total.result.cost) (sym none) (omega (arith, ints, small.0, same), omega (arith, ints, small.1, same));
      so_far = λ words conn len best m cost are at through.
          on_first words conn len best linked are m cost c.args.from c.total-total.result.cost c.new-steps.result.items none at through (ap (λ (x : LatticeNode). x.total) (same_Some m is.node (sym at ∙ is.here)) ∙ sym same);
    }

pub other-requires-clause-link : goal.other-requires-clause-link
other-requires-clause-link c =
    let linked = c.args.linked.now in
    let at = c.loop-node.at in
    let within = c.loop-node.invariant.within in
    let long = c.requires.neighbors.after_long in
    let link = c.index.result.now in
    let at_link = slice_get_read linked.after.items (length linked.after.items) at link refl (omega (arith, within, long)) c.index.ensures in
    node_number (length linked.nodes.items) linked.after.items at link c.requires.neighbors.after_within at_link link.node refl

pub loop-node-preserved : goal.loop-node-preserved
loop-node-preserved c =
    let linked = c.args.linked.now in
    let at = c.loop-node.at in
    let within = c.loop-node.invariant.within in
    let long = c.requires.neighbors.after_long in
    let link = c.index.result.now in
    let at_link = slice_get_read linked.after.items (length linked.after.items) at link refl (omega (arith, within, long)) c.index.ensures in
    let steps = c.loop-node.steps in
    let ok = steps.ok in
    let k = c.in-Some.node in
    let other = c.other.ensures.some k c.in-Some.is in
    let low = slice_get_within linked.on_best.items k false other.1 in
    let on_best_long = c.requires.neighbors.on_best_long in
    let few = c.if-len-ge-STEPS_MAX.false in
    let s = c.step_on-step.result in
    let near = c.step_on-step.ensures.bounded in
    let pushed = c.in_ok-push.ensures.items in
    let small = c.loop-node.invariant.small in
    let more = length_push steps.items s in
    let sum = c.total_of-total.ensures in
    record {
      within = omega (arith, low, on_best_long);
      few = subst (λ (xs : List PathStep). length xs ≤ STEPS_MAX) (sym pushed) (omega (arith, few, c.len.ensures, ok.0, more));
      small = subst (λ (xs : List PathStep). IsWithin (2 ^ 40 + 2 ^ 16 * length xs) c.total_of-total.result.cost) (sym pushed) (omega (arith, ints, small.0, near.0, more, sum), omega (arith, ints, small.1, near.1, more, sum));
      so_far = λ words conn len best n cost are here through.
          on_along words conn len best linked are n cost at c.loop-node.total.cost steps.items (c.loop-node.invariant.so_far words conn len best n cost are here through) link at_link c.other.result c.other.ensures k s c.total_of-total.result.cost c.push.new.self.items sum c.in-Some.is pushed c.step_on-step.ensures.step;
    }

pub step_on-step-requires-clause-next : goal.step_on-step-requires-clause-next
step_on-step-requires-clause-next c =
    let linked = c.args.linked.now in
    let other = c.other.ensures.some c.in-Some.node c.in-Some.is in
    let low = slice_get_within linked.on_best.items c.in-Some.node false other.1 in
    let on_best_long = c.requires.neighbors.on_best_long in
    omega (arith, low, on_best_long)

pub step_on-step-requires-clause-total : goal.step_on-step-requires-clause-total
step_on-step-requires-clause-total c =
    let small = c.loop-node.invariant.small in
    let few = c.loop-node.invariant.few in
    (omega (arith, ints, small.0, few), omega (arith, ints, small.1, few))

pub returns : goal.returns
returns c = λ words conn len best n cost are here through.
    let linked = c.args.linked.now in
    let at = c.loop-node.at in
    let within = c.loop-node.invariant.within in
    let long = c.requires.neighbors.after_long in
    let link = c.index.result.now in
    let at_link = slice_get_read linked.after.items (length linked.after.items) at link refl (omega (arith, within, long)) c.index.ensures in
    on_ended words conn len best linked are n cost at c.loop-node.total.cost c.loop-node.steps.items (c.loop-node.invariant.so_far words conn len best n cost are here through) link at_link c.other.result c.other.ensures c.in_default.is c.loop-node.invariant.few

pub returns-then-len-ge-STEPS_MAX : goal.returns-then-len-ge-STEPS_MAX
returns-then-len-ge-STEPS_MAX c = λ words conn len best n cost are here through.
    let linked = c.args.linked.now in
    let at = c.loop-node.at in
    let within = c.loop-node.invariant.within in
    let long = c.requires.neighbors.after_long in
    let link = c.index.result.now in
    let at_link = slice_get_read linked.after.items (length linked.after.items) at link refl (omega (arith, within, long)) c.index.ensures in
    let steps = c.loop-node.steps in
    let ok = steps.ok in
    let many = c.if-len-ge-STEPS_MAX.true in
    on_cut_off words conn len best linked are n cost at c.loop-node.total.cost steps.items (c.loop-node.invariant.so_far words conn len best n cost are here through) link at_link c.other.result c.other.ensures c.in-Some.node c.in-Some.is c.loop-node.invariant.few (omega (arith, many, c.len.ensures, ok.0))
