use Rattle.std.proofs.Common.{◌∙◌, All, length, sym, ap, subst}
use Rattle.std.proofs.lemmas.Result.{IfOk-weaker}
use Rattle.viterbi.specs.Nodes.Assembled.{AreNodes, IsSmallIfSome, IsSmallTotal}
use Rattle.viterbi.specs.Nodes.LatticeNodes.{AreWordsOfLattice, HasLeastThrough, HasLeastForwardCost}
use Rattle.viterbi.proofs.NodeLemmas.{have_through, have_forward_costs, nodes_along, backward_costs_small, forward_costs_small, words_are}
use Rattle.viterbi.proofs.nodes.nodes.lattice_nodes.Goals as goal

pub nodes_of-requires : goal.nodes_of-requires
nodes_of-requires g c =
    let t = g.S.WordSource.searched_text c.args.source.now in
    let r = c.in_ok-reached.reached in
    let forward_costs = c.in_ok-forward_costs.ensures in
    let backward_costs = c.in_ok-backward_costs.ensures in
    record {
      forward_long = ap length c.deref-2.ensures.value ∙ forward_costs.long ∙ ap length (sym c.deref.ensures.value);
      backward_long = ap length c.deref-3.ensures.value ∙ backward_costs.long ∙ ap length (sym c.deref.ensures.value);
      forward_costs = subst (All IsSmallTotal) (sym c.deref-2.ensures.value) (forward_costs_small t r c.requires c.in_ok-reached.ensures c.in_ok-forward_costs.forward_costs.items c.in_ok-backward_costs.backward_costs.items forward_costs backward_costs);
      backward_costs = subst (All IsSmallIfSome) (sym c.deref-3.ensures.value) (backward_costs_small t r c.requires c.in_ok-reached.ensures c.in_ok-forward_costs.forward_costs.items c.in_ok-backward_costs.backward_costs.items forward_costs backward_costs);
    }

pub returns-clause-words : goal.returns-clause-words
returns-clause-words g c =
    let t = g.S.WordSource.searched_text c.args.source.now in
    let r = c.in_ok-reached.reached in
    IfOk-weaker c.nodes_of.result (λ nodes. AreNodes c.deref.result.now c.deref-2.result.now c.deref-3.result.now (length c.deref.result.now) nodes.items) (λ nodes. AreWordsOfLattice t nodes.items)
    (λ nodes are. words_are t r c.requires c.in_ok-reached.ensures c.in_ok-forward_costs.forward_costs.items c.in_ok-backward_costs.backward_costs.items c.in_ok-forward_costs.ensures c.in_ok-backward_costs.ensures nodes.items
    (nodes_along _ _ _ _ _ _ nodes.items c.deref.ensures.value c.deref-2.ensures.value c.deref-3.ensures.value are)) c.nodes_of.ensures

pub returns-clause-forward_costs : goal.returns-clause-forward_costs
returns-clause-forward_costs g c =
    let t = g.S.WordSource.searched_text c.args.source.now in
    let r = c.in_ok-reached.reached in
    IfOk-weaker c.nodes_of.result (λ nodes. AreNodes c.deref.result.now c.deref-2.result.now c.deref-3.result.now (length c.deref.result.now) nodes.items) (λ nodes. All (HasLeastForwardCost t) nodes.items)
    (λ nodes are. have_forward_costs t r c.requires c.in_ok-reached.ensures c.in_ok-forward_costs.forward_costs.items c.in_ok-backward_costs.backward_costs.items c.in_ok-forward_costs.ensures c.in_ok-backward_costs.ensures nodes.items
    (nodes_along _ _ _ _ _ _ nodes.items c.deref.ensures.value c.deref-2.ensures.value c.deref-3.ensures.value are)) c.nodes_of.ensures

pub returns-clause-through : goal.returns-clause-through
returns-clause-through g c =
    let t = g.S.WordSource.searched_text c.args.source.now in
    let r = c.in_ok-reached.reached in
    IfOk-weaker c.nodes_of.result (λ nodes. AreNodes c.deref.result.now c.deref-2.result.now c.deref-3.result.now (length c.deref.result.now) nodes.items) (λ nodes. All (HasLeastThrough t) nodes.items)
    (λ nodes are. have_through t r c.requires c.in_ok-reached.ensures c.in_ok-forward_costs.forward_costs.items c.in_ok-backward_costs.backward_costs.items c.in_ok-forward_costs.ensures c.in_ok-backward_costs.ensures nodes.items
    (nodes_along _ _ _ _ _ _ nodes.items c.deref.ensures.value c.deref-2.ensures.value c.deref-3.ensures.value are)) c.nodes_of.ensures
