use Rattle.std.proofs.Common.{◌≤◌, ◌^◌, arith, sym, subst}
use Rattle.viterbi.specs.Nodes.OnPath.{AreByPlace, HaveRisingPlaces}
use Rattle.search_tests.specs.Sample.{sample_words}
use Rattle.viterbi.proofs.OnPathLemmas.{lattice_by_place, path_rises}
use Rattle.search_tests.proofs.SampleLemmas.{sample_is_searchable}
use Rattle.search_tests.proofs.tests.of_lattice_nodes.nodes_of.Goals as goal

pub lattice_nodes-requires : goal.lattice_nodes-requires
lattice_nodes-requires c =
    let sample = c.in_ok-sample.sample in
    let short : sample.length ≤ 2 ^ 20 = omega (arith, c.in_ok-sample.ensures) in
    sample_is_searchable sample.words.items sample.length short

pub fill-requires : goal.fill-requires
fill-requires c =
    let sample = c.in_ok-sample.sample in
    let short : sample.length ≤ 2 ^ 20 = omega (arith, c.in_ok-sample.ensures) in
    sample_is_searchable sample.words.items sample.length short

pub mark_nodes_on_path-requires : goal.mark_nodes_on_path-requires
mark_nodes_on_path-requires c =
    let ws = c.in_ok-sample.sample.words.items in
    let len = c.in_ok-sample.sample.length in
    let short : len ≤ 2 ^ 20 = omega (arith, c.in_ok-sample.ensures) in
    let best = c.in_ok-fill.ensures.best in
    record {
      nodes = subst AreByPlace (sym c.deref.ensures.value) (lattice_by_place (sample_words ws 0 len) len c.in_ok-nodes.nodes.items c.in_ok-nodes.ensures.words);
      path = subst HaveRisingPlaces (sym c.deref-2.ensures.value) (path_rises (sample_words ws 0 len) len (sample_is_searchable ws len short).source.are c.fill.new.path.words.items 0 best.to best.path.chain);
    }
