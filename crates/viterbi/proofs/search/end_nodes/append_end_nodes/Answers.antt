use Rattle.std.proofs.Common.{◌≡◌, ℕ, suc, ◌+◌, ◌-◌, ◌<◌, ◌∙◌, Some, ap, arith, get_or, slice_get, subst}
use Rattle.std.proofs.lemmas.Option.{slice_get-get_or}
use Rattle.viterbi.specs.Search.EndNodes.{AreEndNodesOf}
use Rattle.viterbi.specs.Search.Nodes.{stored_node, node_words}
use Rattle.viterbi.specs.Search.SearchedText.{nodes_in}
use Rattle.viterbi.proofs.EndNodeLemmas.{appear_next}
use Rattle.viterbi.proofs.Pushed.{get_from_Contains}
use Rattle.viterbi.proofs.SurfaceNodeLemmas.{no_back, node_of_group, group_within, group_word, word_appears}
use Rattle.viterbi.proofs.WordNumbers.{no_word}
use Rattle.viterbi.proofs.search.end_nodes.append_end_nodes.Goals as goal

pub overflow_add-number : goal.overflow_add-number
overflow_add-number g c =
    let t = g.S.WordSource.searched_text c.args.source.now in
    let at = get_from_Contains c.args.by_surface.now c.args.surface_nodes.now c.requires.surface_nodes in
    let within = group_within t.surface_words c.args.by_surface.now c.requires.by_surface at.0 c.args.surface_nodes.now at.1 in
    omega (arith, within, c.requires.all)

pub loop-number-init : goal.loop-number-init
loop-number-init g c =
    let t = g.S.WordSource.searched_text c.args.source.now in
    let at = get_from_Contains c.args.by_surface.now c.args.surface_nodes.now c.requires.surface_nodes in
    let within = group_within t.surface_words c.args.by_surface.now c.requires.by_surface at.0 c.args.surface_nodes.now at.1 in
    record { next_ones = omega arith; within = omega arith; among = omega (arith, within, c.requires.all); appear = c.requires.later }

pub loop-number-preserved : goal.loop-number-preserved
loop-number-preserved g c =
    let t = g.S.WordSource.searched_text c.args.source.now in
    let by_surface = c.args.by_surface.now in
    let backpointers = c.args.backpointers.now in
    let surface_nodes = c.args.surface_nodes.now in
    let at = get_from_Contains by_surface surface_nodes c.requires.surface_nodes in
    let i = c.loop-number.number - 1 in
    let left = i - surface_nodes.from in
    let low = c.loop-number.invariant.within in
    let next_ones = c.loop-number.invariant.next_ones in
    let some = c.loop-number-test.true in
    let among = c.loop-number.invariant.among in
    let less : left < surface_nodes.surface.count = omega (arith, low, some) in
    let is : surface_nodes.from + left ≡ i = omega (arith, some) in
    let count = (c.requires.by_surface.whole at.0 surface_nodes at.1).count_is in
    let words = t.surface_words surface_nodes.surface in
    let word = get_or words (surface_nodes.surface.count - 1 - left) no_word in
    let at_word = slice_get-get_or words (surface_nodes.surface.count - 1 - left) no_word (omega (arith, less, count)) in
    let n = stored_node word (get_or backpointers i no_back) in
    let here = subst (λ (k : ℕ). slice_get (nodes_in t by_surface backpointers) k ≡ Some (stored_node word (get_or backpointers k no_back))) is (node_of_group t.surface_words by_surface c.requires.by_surface backpointers c.requires.all at.0 surface_nodes left word no_back at.1 less at_word) in
    let there = word_appears t.surface_words by_surface c.requires.by_surface at.0 surface_nodes (surface_nodes.surface.count - 1 - left) word at.1 at_word in
    let kept = slice_get-get_or backpointers i no_back (omega (arith, among, some)) in
    let its = subst (λ (k : ℕ). slice_get (node_words t.surface_words by_surface) k ≡ Some word) is (group_word t.surface_words by_surface c.requires.by_surface at.0 surface_nodes left word at.1 less at_word) in
    let right = c.requires.rights i word (get_or backpointers i no_back) its kept in
    let same : c.loop-number.number ≡ i + 1 = omega (arith, some) in
    let next : i + 1 ≡ suc i = omega arith in
    record {
      next_ones = omega (arith, some);
      within = omega (arith, low);
      among = omega (arith, among);
      appear = appear_next (nodes_in t by_surface backpointers) surface_nodes.surface.end c.loop-number.ends.items c.push.new.self.items i n c.node_end_node.result here there (c.node_end_node.ensures ∙ ap (λ (b : ℕ). record { total = (get_or backpointers i no_back).total; before = b; right = (get_or backpointers i no_back).right }) next ∙ ap (λ (r : ℕ). record { total = (get_or backpointers i no_back).total; before = suc i; right = r }) right) c.in_ok-push.ensures.items
          (subst (λ (k : ℕ). AreEndNodesOf (nodes_in t by_surface backpointers) surface_nodes.surface.end k c.loop-number.ends.items) same c.loop-number.invariant.appear);
    }

pub returns : goal.returns
returns g c =
    let t = g.S.WordSource.searched_text c.args.source.now in
    let next_ones = c.loop-number.invariant.next_ones in
    let all = c.loop-number-test.false in
    let same : c.loop-number.number ≡ c.args.surface_nodes.now.from = omega (arith, next_ones, all) in
    subst (λ (k : ℕ). AreEndNodesOf (nodes_in t c.args.by_surface.now c.args.backpointers.now) c.args.surface_nodes.now.surface.end k c.loop-number.ends.items) same c.loop-number.invariant.appear
