use Rattle.std.proofs.Common.{rules, ◌∙◌, List, Option, ℕ, length, reverse, subst, sym, ap, arith, w64}
use Rattle.std.proofs.lemmas.Int.{to_z-of_z}
use mir.Val.{SFits}
use Rattle.mj_model.specs.declared.word.Word.{Word}
use Rattle.viterbi.specs.declared.search.node.Backpointer.{Backpointer}
use Rattle.viterbi.specs.Search.BestNodes.{AreBacktraceNumbers, StoredLinksGoBack}
use Rattle.viterbi.specs.Search.Lattice.{IsBelow}
use Rattle.viterbi.specs.Search.Nodes.{link_of, node_words}
use Rattle.viterbi.specs.Search.SearchedText.{IsBestIn, cost_of, stored_nodes}
use Rattle.viterbi.proofs.SurfaceNodeLemmas.{nodes_length}
use Rattle.viterbi.proofs.Links.{below_all}
use Rattle.viterbi.proofs.BacktraceNumbers.{links_kept, nodes_from_start, numbers_traced}
use Rattle.viterbi.proofs.search.backtrace.backtrace_best.Goals as goal

pub backtrace_numbers-requires-clause-links : goal.backtrace_numbers-requires-clause-links
backtrace_numbers-requires-clause-links g c =
    let t = g.S.WordSource.searched_text c.args.source.now in
    let ns = c.args.nodes.now in
    let words = node_words t.surface_words ns.by_surface.items in
    subst StoredLinksGoBack (sym c.deref.ensures.value) (links_kept words ns.backpointers.items c.requires.stored.all (λ i n at. (c.requires.lattice.lattice.best i n at).below))

pub backtrace_numbers-requires-clause-from : goal.backtrace_numbers-requires-clause-from
backtrace_numbers-requires-clause-from g c =
    let t = g.S.WordSource.searched_text c.args.source.now in
    let ns = c.args.nodes.now in
    let words = node_words t.surface_words ns.by_surface.items in
    let back = c.in_ok-found.ensures in
    let all = c.requires.stored.all in
    let long = nodes_length words ns.backpointers.items (omega (arith, all)) in
    subst (λ (o : Option ℕ). IsBelow o (length c.deref.result.now)) (sym c.from_one_based.ensures)
    (subst (IsBelow (link_of c.in_ok-found.found.before)) (long ∙ ap length (sym c.deref.ensures.value)) (below_all (stored_nodes t ns) (link_of c.in_ok-found.found.before) back.chain back.traced))

pub returns-clause-nodes : goal.returns-clause-nodes
returns-clause-nodes g c =
    let t = g.S.WordSource.searched_text c.args.source.now in
    let ns = c.args.nodes.now in
    let backpointers = ns.backpointers.items in
    let words = node_words t.surface_words ns.by_surface.items in
    let js = c.backtrace_numbers.new.numbers.items in
    let link = link_of c.in_ok-found.found.before in
    let back = c.in_ok-found.ensures in
    let all = c.requires.stored.all in
    let long = nodes_length words backpointers (omega (arith, all)) in
    let numbers : AreBacktraceNumbers backpointers link js = subst (λ (o : Option ℕ). AreBacktraceNumbers backpointers o js) c.from_one_based.ensures (subst (λ (bs : List Backpointer). AreBacktraceNumbers bs c.from_one_based.result js) c.deref.ensures.value c.in_ok-backtrace_numbers.ensures) in
    let links = links_kept words backpointers all (λ i n at. (c.requires.lattice.lattice.best i n at).below) in
    let below = subst (IsBelow link) long (below_all (stored_nodes t ns) link back.chain back.traced) in
    nodes_from_start t.surface_words ns.by_surface.items backpointers link js c.requires.stored.groups_are all links below numbers

pub returns-clause-best : goal.returns-clause-best
returns-clause-best g c =
    let t = g.S.WordSource.searched_text c.args.source.now in
    let ns = c.args.nodes.now in
    let backpointers = ns.backpointers.items in
    let words = node_words t.surface_words ns.by_surface.items in
    let js = c.backtrace_numbers.new.numbers.items in
    let link = link_of c.in_ok-found.found.before in
    let back = c.in_ok-found.ensures in
    let numbers : AreBacktraceNumbers backpointers link js = subst (λ (o : Option ℕ). AreBacktraceNumbers backpointers o js) c.from_one_based.ensures (subst (λ (bs : List Backpointer). AreBacktraceNumbers bs c.from_one_based.result js) c.deref.ensures.value c.in_ok-backtrace_numbers.ensures) in
    let is = numbers_traced words backpointers link back.chain js back.traced numbers in
    subst (IsBestIn t) (sym (ap reverse is)) back.best

pub returns-clause-total : goal.returns-clause-total
returns-clause-total g c =
    let t = g.S.WordSource.searched_text c.args.source.now in
    let ns = c.args.nodes.now in
    let backpointers = ns.backpointers.items in
    let words = node_words t.surface_words ns.by_surface.items in
    let js = c.backtrace_numbers.new.numbers.items in
    let found = c.in_ok-found.found in
    let link = link_of found.before in
    let back = c.in_ok-found.ensures in
    let numbers : AreBacktraceNumbers backpointers link js = subst (λ (o : Option ℕ). AreBacktraceNumbers backpointers o js) c.from_one_based.ensures (subst (λ (bs : List Backpointer). AreBacktraceNumbers bs c.from_one_based.result js) c.deref.ensures.value c.in_ok-backtrace_numbers.ensures) in
    let is = numbers_traced words backpointers link back.chain js back.traced numbers in
    let fits : SFits w64 found.cost = search rules in
    to_z-of_z w64 found.cost fits ∙ back.cost ∙ ap (λ (vs : List Word). cost_of t (reverse vs)) (sym is)
