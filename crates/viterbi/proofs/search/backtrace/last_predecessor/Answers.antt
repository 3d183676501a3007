use Rattle.std.proofs.Common.{◌<◌, All, List, ℕ, length, refl, reverse, subst, sym}
use Rattle.viterbi.specs.declared.search.node.EndNode.{EndNode}
use Rattle.viterbi.specs.Search.EndNodes.{HasSmallTotal, IsFollowedBy, IsLeast}
use Rattle.viterbi.specs.Search.Nodes.{IsLastHead}
use Rattle.viterbi.specs.Search.SearchedText.{nodes_in}
use Rattle.mj_model.proofs.Pruning.{pruned_best}
use Rattle.viterbi.proofs.Choice.{all_followed, least_is_predecessor, small_forward_costs}
use Rattle.viterbi.proofs.Finish.{leads_there, path_is_best, path_costs, last_is, last_low}
use Rattle.viterbi.proofs.search.backtrace.last_predecessor.Goals as goal

pub collect_end_nodes-requires-clause-place : goal.collect_end_nodes-requires-clause-place
collect_end_nodes-requires-clause-place g c =
    let t = g.S.WordSource.searched_text c.args.source.now in
    let l = c.requires.lattice in
    let source = l.pruned.searched.source in
    let kept = c.requires.stored in
    let by_surface = c.args.nodes.now.by_surface.items in
    let backpointers = c.args.nodes.now.backpointers.items in
    let nodes = nodes_in t by_surface backpointers in
    let k = length (l.kept t.text_length) in
    let last = c.last_end_position-last.result in
    let is_last = last_is l.kept t.connection t.text_length source t.surface_words by_surface backpointers c.args.nodes.now.heads.items k last l.lattice kept.groups_are kept.all kept.linked kept.places
    (subst (λ (hs : List ℕ). IsLastHead hs last) c.deref.ensures.value c.last_end_position-last.ensures) in
    last_low l.kept t.connection t.text_length source nodes k last l.lattice is_last

pub best_predecessor-requires-clause-some : goal.best_predecessor-requires-clause-some
best_predecessor-requires-clause-some g c =
    let t = g.S.WordSource.searched_text c.args.source.now in
    let l = c.requires.lattice in
    let source = l.pruned.searched.source in
    let kept = c.requires.stored in
    let by_surface = c.args.nodes.now.by_surface.items in
    let backpointers = c.args.nodes.now.backpointers.items in
    let nodes = nodes_in t by_surface backpointers in
    let k = length (l.kept t.text_length) in
    let last = c.last_end_position-last.result in
    let is_last = last_is l.kept t.connection t.text_length source t.surface_words by_surface backpointers c.args.nodes.now.heads.items k last l.lattice kept.groups_are kept.all kept.linked kept.places
    (subst (λ (hs : List ℕ). IsLastHead hs last) c.deref.ensures.value c.last_end_position-last.ensures) in
    let ends = c.collect_end_nodes.new.ends.items in
    subst (λ (xs : List EndNode). 0 < length xs) (sym c.deref-2.ensures.value) (leads_there l.kept t.connection t.text_length source nodes k last l.lattice is_last ends c.in_ok-collect_end_nodes.ensures)

pub best_predecessor-requires-clause-forward_costs : goal.best_predecessor-requires-clause-forward_costs
best_predecessor-requires-clause-forward_costs g c =
    let t = g.S.WordSource.searched_text c.args.source.now in
    let l = c.requires.lattice in
    let source = l.pruned.searched.source in
    let kept = c.requires.stored in
    let by_surface = c.args.nodes.now.by_surface.items in
    let backpointers = c.args.nodes.now.backpointers.items in
    let nodes = nodes_in t by_surface backpointers in
    let k = length (l.kept t.text_length) in
    let last = c.last_end_position-last.result in
    let is_last = last_is l.kept t.connection t.text_length source t.surface_words by_surface backpointers c.args.nodes.now.heads.items k last l.lattice kept.groups_are kept.all kept.linked kept.places
    (subst (λ (hs : List ℕ). IsLastHead hs last) c.deref.ensures.value c.last_end_position-last.ensures) in
    let ends = c.collect_end_nodes.new.ends.items in
    subst (λ (xs : List EndNode). All HasSmallTotal xs) (sym c.deref-2.ensures.value) (small_forward_costs l.kept t.connection t.text_length source nodes t.text_length k last ends c.requires.source.short l.lattice c.in_ok-collect_end_nodes.ensures)

pub best_predecessor-requires-clause-pairs : goal.best_predecessor-requires-clause-pairs
best_predecessor-requires-clause-pairs g c =
    let t = g.S.WordSource.searched_text c.args.source.now in
    let l = c.requires.lattice in
    let source = l.pruned.searched.source in
    let kept = c.requires.stored in
    let by_surface = c.args.nodes.now.by_surface.items in
    let backpointers = c.args.nodes.now.backpointers.items in
    let nodes = nodes_in t by_surface backpointers in
    let k = length (l.kept t.text_length) in
    let last = c.last_end_position-last.result in
    let is_last = last_is l.kept t.connection t.text_length source t.surface_words by_surface backpointers c.args.nodes.now.heads.items k last l.lattice kept.groups_are kept.all kept.linked kept.places
    (subst (λ (hs : List ℕ). IsLastHead hs last) c.deref.ensures.value c.last_end_position-last.ensures) in
    let ends = c.collect_end_nodes.new.ends.items in
    subst (λ (xs : List EndNode). All (IsFollowedBy t.is_pair 0) xs) (sym c.deref-2.ensures.value) (all_followed l.kept t.connection t.text_length source t.is_pair nodes t.text_length k last 0 ends l.pruned.searched.eos_follows l.lattice c.in_ok-collect_end_nodes.ensures)

pub returns : goal.returns
returns g c =
    let t = g.S.WordSource.searched_text c.args.source.now in
    let l = c.requires.lattice in
    let source = l.pruned.searched.source in
    let kept = c.requires.stored in
    let by_surface = c.args.nodes.now.by_surface.items in
    let backpointers = c.args.nodes.now.backpointers.items in
    let nodes = nodes_in t by_surface backpointers in
    let k = length (l.kept t.text_length) in
    let last = c.last_end_position-last.result in
    let is_last = last_is l.kept t.connection t.text_length source t.surface_words by_surface backpointers c.args.nodes.now.heads.items k last l.lattice kept.groups_are kept.all kept.linked kept.places
    (subst (λ (hs : List ℕ). IsLastHead hs last) c.deref.ensures.value c.last_end_position-last.ensures) in
    let ends = c.collect_end_nodes.new.ends.items in
    let low = last_low l.kept t.connection t.text_length source nodes k last l.lattice is_last in
    let found = c.best_predecessor.result in
    let best_predecessor : IsLeast t.connection ends 0 found = subst (λ (xs : List EndNode). IsLeast t.connection xs 0 found) c.deref-2.ensures.value c.best_predecessor.ensures in
    let predecessor = least_is_predecessor l.kept t.connection t.text_length source nodes t.text_length k last 0 ends found l.lattice low c.in_ok-collect_end_nodes.ensures best_predecessor in
    record {
      chain = predecessor.chain;
      traced = predecessor.traced;
      best = pruned_best t.words l.kept t.connection t.text_length c.requires.source.source.are l.pruned.pruned (reverse predecessor.chain)
          (path_is_best l.kept t.connection t.text_length source nodes k last l.lattice is_last found predecessor.chain (reverse predecessor.chain) predecessor predecessor.traced refl);
      cost = path_costs l.kept t.connection t.text_length source nodes k last l.lattice is_last found predecessor.chain (reverse predecessor.chain) predecessor predecessor.traced refl;
    }
