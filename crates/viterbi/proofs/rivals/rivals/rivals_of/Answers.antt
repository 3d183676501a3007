use Rattle.std.proofs.Common.{◌∙◌, List, sym, subst}
use Rattle.viterbi.specs.Nodes.OnPath.{AreByPlace, AreOnPath}
use Rattle.viterbi.specs.Nodes.ReachableWords.{AreIndexed}
use Rattle.viterbi.specs.declared.nodes.lattice_node.LatticeNode.{LatticeNode}
use Rattle.viterbi.proofs.OnPathLemmas.{path_rises}
use Rattle.viterbi.specs.Rivals.AllRivals.{AreBestRivals}
use Rattle.viterbi.specs.Rivals.Neighbors.{AreAfter, AreBefore}
use Rattle.viterbi.specs.Rivals.Places.{AreLow, AreNodesOf, words_in}
use Rattle.viterbi.specs.Rivals.Rivals.{AreOfLattice}
use Rattle.viterbi.specs.declared.rivals.nodes_with_neighbors.NodesWithNeighbors.{NodesWithNeighbors}
use Rattle.viterbi.proofs.RivalsStateLemmas.{kept, kept_rivals, of_lattice}
use Rattle.viterbi.proofs.PlaceLemmas.{are_low, by_place}
use Rattle.viterbi.proofs.rivals.rivals.rivals_of.Goals as goal

pub mark_nodes_on_path-requires : goal.mark_nodes_on_path-requires
mark_nodes_on_path-requires g c =
    let t = g.S.WordSource.searched_text c.args.source.now in
    let source = c.requires.source in
    let best = c.requires.best in
    let nodes = c.in_ok-nodes.nodes.items in
    let are : AreNodesOf t nodes = record { words = c.in_ok-nodes.ensures.words; forward_costs = c.in_ok-nodes.ensures.forward_costs; through = c.in_ok-nodes.ensures.through } in
    record {
      nodes = subst AreByPlace (sym c.deref.ensures.value) (by_place t source nodes are);
      path = path_rises t.words t.text_length source.source.are c.args.path.now 0 best.to best.path.chain;
    }

pub best_rivals-requires : goal.best_rivals-requires
best_rivals-requires g c =
    let t = g.S.WordSource.searched_text c.args.source.now in
    let source = c.requires.source in
    let best = c.requires.best in
    let nodes = c.in_ok-nodes.nodes.items in
    let are : AreNodesOf t nodes = record { words = c.in_ok-nodes.ensures.words; forward_costs = c.in_ok-nodes.ensures.forward_costs; through = c.in_ok-nodes.ensures.through } in
    record {
      nodes = subst AreByPlace (sym c.deref-2.ensures.value) (by_place t source nodes are);
      path = path_rises t.words t.text_length source.source.are c.args.path.now 0 best.to best.path.chain;
    }

pub firsts_of-requires : goal.firsts_of-requires
firsts_of-requires g c =
    let t = g.S.WordSource.searched_text c.args.source.now in
    let source = c.requires.source in
    let nodes = c.in_ok-nodes.nodes.items in
    let are : AreNodesOf t nodes = record { words = c.in_ok-nodes.ensures.words; forward_costs = c.in_ok-nodes.ensures.forward_costs; through = c.in_ok-nodes.ensures.through } in
    record {
      nodes = subst AreByPlace (sym c.deref-3.ensures.value) (by_place t source nodes are);
      low = subst AreLow (sym c.deref-3.ensures.value) (are_low t source nodes are);
    }

pub find_predecessors-requires : goal.find_predecessors-requires
find_predecessors-requires g c =
    let t = g.S.WordSource.searched_text c.args.source.now in
    let nodes = c.in_ok-nodes.nodes.items in
    let are : AreNodesOf t nodes = record { words = c.in_ok-nodes.ensures.words; forward_costs = c.in_ok-nodes.ensures.forward_costs; through = c.in_ok-nodes.ensures.through } in
    let same = c.deref-3.ensures.value ∙ sym c.deref-4.ensures.value in
    record {
      source = c.requires.source;
      nodes_are = subst (AreNodesOf t) (sym c.deref-4.ensures.value) are;
      indexed = subst (AreIndexed (words_in c.deref-4.result.now)) (sym c.deref-5.ensures.value)
          (subst (λ (ns : List LatticeNode). AreIndexed (words_in ns) c.in_ok-firsts.firsts.items) same c.in_ok-firsts.ensures);
    }

pub find_successors-requires : goal.find_successors-requires
find_successors-requires g c =
    let t = g.S.WordSource.searched_text c.args.source.now in
    let nodes = c.in_ok-nodes.nodes.items in
    let are : AreNodesOf t nodes = record { words = c.in_ok-nodes.ensures.words; forward_costs = c.in_ok-nodes.ensures.forward_costs; through = c.in_ok-nodes.ensures.through } in
    let same = c.deref-3.ensures.value ∙ sym c.deref-4.ensures.value in
    record {
      source = c.requires.source;
      nodes_are = subst (AreNodesOf t) (sym c.deref-4.ensures.value) are;
      indexed = subst (AreIndexed (words_in c.deref-4.result.now)) (sym c.deref-5.ensures.value)
          (subst (λ (ns : List LatticeNode). AreIndexed (words_in ns) c.in_ok-firsts.firsts.items) same c.in_ok-firsts.ensures);
    }

pub invariant_of-result : goal.invariant_of-result
invariant_of-result g c =
    let t = g.S.WordSource.searched_text c.args.source.now in
    let source = c.requires.source in
    let path = c.args.path.now in
    let nodes = c.in_ok-nodes.nodes.items in
    let are : AreNodesOf t nodes = record { words = c.in_ok-nodes.ensures.words; forward_costs = c.in_ok-nodes.ensures.forward_costs; through = c.in_ok-nodes.ensures.through } in
    let l : NodesWithNeighbors = record { nodes = c.in_ok-nodes.nodes; on_best = c.in_ok-on_best.on_best; before = c.in_ok-before.before; after = c.in_ok-after.after } in
    let on = subst (λ (ns : List LatticeNode). AreOnPath ns path l.on_best.items) c.deref.ensures.value c.in_ok-on_best.ensures in
    let before = subst (λ (ns : List LatticeNode). AreBefore t.connection ns l.before.items) c.deref-4.ensures.value c.in_ok-before.ensures in
    let after = subst (λ (ns : List LatticeNode). AreAfter t.words t.connection ns l.after.items) c.deref-4.ensures.value c.in_ok-after.ensures in
    let bests = c.in_ok-bests.bests.items in
    let same = c.deref-2.ensures.value in
    let rivals = subst (λ (ns : List LatticeNode). AreBestRivals t.words t.connection ns path bests) same
    (c.in_ok-bests.ensures t.words t.connection t.text_length (subst (AreOfLattice t.words t.connection t.text_length) (sym same) (of_lattice t nodes source are))) in
    kept t source path c.requires.best l are on before after bests rivals

pub returns : goal.returns
returns g c =
    let t = g.S.WordSource.searched_text c.args.source.now in
    let source = c.requires.source in
    let path = c.args.path.now in
    let nodes = c.in_ok-nodes.nodes.items in
    let are : AreNodesOf t nodes = record { words = c.in_ok-nodes.ensures.words; forward_costs = c.in_ok-nodes.ensures.forward_costs; through = c.in_ok-nodes.ensures.through } in
    let l : NodesWithNeighbors = record { nodes = c.in_ok-nodes.nodes; on_best = c.in_ok-on_best.on_best; before = c.in_ok-before.before; after = c.in_ok-after.after } in
    let on = subst (λ (ns : List LatticeNode). AreOnPath ns path l.on_best.items) c.deref.ensures.value c.in_ok-on_best.ensures in
    let before = subst (λ (ns : List LatticeNode). AreBefore t.connection ns l.before.items) c.deref-4.ensures.value c.in_ok-before.ensures in
    let after = subst (λ (ns : List LatticeNode). AreAfter t.words t.connection ns l.after.items) c.deref-4.ensures.value c.in_ok-after.ensures in
    let bests = c.in_ok-bests.bests.items in
    let same = c.deref-2.ensures.value in
    let rivals = subst (λ (ns : List LatticeNode). AreBestRivals t.words t.connection ns path bests) same
    (c.in_ok-bests.ensures t.words t.connection t.text_length (subst (AreOfLattice t.words t.connection t.text_length) (sym same) (of_lattice t nodes source are))) in
    kept_rivals t source path c.requires.best l are on before after bests rivals c.in_ok-steps.steps.items c.in_ok-steps.ensures
