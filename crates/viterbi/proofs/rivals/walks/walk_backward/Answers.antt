use Rattle.std.proofs.Common.{◌≡◌, ◌+◌, ◌≤◌, ◌++◌, ◌∷◌, ◌∙◌, [], List, false, length, refl, sym, ap, subst, arith}
use Rattle.std.proofs.lemmas.List.{length_push}
use Rattle.std.proofs.lemmas.Option.{slice_get_read, slice_get_within}
use Rattle.viterbi.specs.declared.rivals.rival_path.TheConstants.{STEPS_MAX}
use Rattle.viterbi.specs.declared.rivals.step.PathStep.{PathStep}
use Rattle.viterbi.proofs.RivalPredecessorLemmas.{back_cut_off, back_ended, back_first, back_on}
use Rattle.viterbi.proofs.RivalsStateLemmas.{node_number}
use Rattle.viterbi.proofs.rivals.walks.walk_backward.Goals as goal

pub loop-node-init : goal.loop-node-init
loop-node-init c =
    let linked = c.args.linked.now in
    let items = c.push.new.self.items in
    let one : items ≡ c.step.result ∷ [] = c.in_ok-push.ensures.items ∙ ap (λ (xs : List PathStep). xs ++ c.step.result ∷ []) c.new-steps.ensures.items in
    record {
      within = c.requires.node;
      few = subst (λ (xs : List PathStep). length xs ≤ STEPS_MAX + 1) (sym one) (omega arith);
      so_far = λ words conn len best n are here. back_first words conn len best linked are n c.args.from c.step.result items one here c.step.ensures;
    }

pub other-requires-clause-link : goal.other-requires-clause-link
other-requires-clause-link c =
    let linked = c.args.linked.now in
    let at = c.loop-node.at in
    let within = c.loop-node.invariant.within in
    let long = c.requires.neighbors.before_long in
    let link = c.index.result.now in
    let at_link = slice_get_read linked.before.items (length linked.before.items) at link refl (omega (arith, within, long)) c.index.ensures in
    node_number (length linked.nodes.items) linked.before.items at link c.requires.neighbors.before_within at_link link.node refl

pub returns-then-len-gt-STEPS_MAX : goal.returns-then-len-gt-STEPS_MAX
returns-then-len-gt-STEPS_MAX c = λ words conn len best n are here.
    let linked = c.args.linked.now in
    let at = c.loop-node.at in
    let within = c.loop-node.invariant.within in
    let long = c.requires.neighbors.before_long in
    let link = c.index.result.now in
    let at_link = slice_get_read linked.before.items (length linked.before.items) at link refl (omega (arith, within, long)) c.index.ensures in
    let steps = c.loop-node.steps in
    let ok = steps.ok in
    let many = c.if-len-gt-STEPS_MAX.true in
    back_cut_off words conn len best linked are n at steps.items (c.loop-node.invariant.so_far words conn len best n are here) link at_link c.other.result c.other.ensures c.in-Some.node c.in-Some.is c.loop-node.invariant.few (omega (arith, many, c.len.ensures, ok.0))

pub step-requires-in-Some-clause-number : goal.step-requires-in-Some-clause-number
step-requires-in-Some-clause-number c =
    let linked = c.args.linked.now in
    let other = c.other.ensures.some c.in-Some.node c.in-Some.is in
    let low = slice_get_within linked.on_best.items c.in-Some.node false other.1 in
    let on_best_long = c.requires.neighbors.on_best_long in
    omega (arith, low, on_best_long)

pub loop-node-preserved : goal.loop-node-preserved
loop-node-preserved c =
    let linked = c.args.linked.now in
    let at = c.loop-node.at in
    let within = c.loop-node.invariant.within in
    let long = c.requires.neighbors.before_long in
    let link = c.index.result.now in
    let at_link = slice_get_read linked.before.items (length linked.before.items) at link refl (omega (arith, within, long)) c.index.ensures in
    let steps = c.loop-node.steps in
    let ok = steps.ok in
    let k = c.in-Some.node in
    let other = c.other.ensures.some k c.in-Some.is in
    let low = slice_get_within linked.on_best.items k false other.1 in
    let on_best_long = c.requires.neighbors.on_best_long in
    let few = c.if-len-gt-STEPS_MAX.false in
    let s = c.step-in-Some.result in
    let pushed = c.in_ok-push-2.ensures.items in
    record {
      within = omega (arith, low, on_best_long);
      few = subst (λ (xs : List PathStep). length xs ≤ STEPS_MAX + 1) (sym pushed) (omega (arith, few, c.len.ensures, ok.0, length_push steps.items s));
      so_far = λ words conn len best n are here.
          back_on words conn len best linked are n at steps.items (c.loop-node.invariant.so_far words conn len best n are here) link at_link c.other.result c.other.ensures k s c.push-in-Some.new.self.items c.in-Some.is pushed c.step-in-Some.ensures;
    }

pub returns : goal.returns
returns c = λ words conn len best n are here.
    let linked = c.args.linked.now in
    let at = c.loop-node.at in
    let within = c.loop-node.invariant.within in
    let long = c.requires.neighbors.before_long in
    let link = c.index.result.now in
    let at_link = slice_get_read linked.before.items (length linked.before.items) at link refl (omega (arith, within, long)) c.index.ensures in
    back_ended words conn len best linked are n at c.loop-node.steps.items (c.loop-node.invariant.so_far words conn len best n are here) link at_link c.other.result c.other.ensures c.in_default.is c.loop-node.invariant.few
