use Rattle.std.proofs.Common.{◌≤◌, ◌^◌, arith}
use Rattle.search_tests.proofs.SampleLemmas.{sample_is_searchable}
use Rattle.search_tests.proofs.tests.of_lattice.found.expect_found.Goals as goal

pub find-requires : goal.find-requires
find-requires g c =
    let sample = c.in_ok-sample.sample in
    let short : sample.length ≤ 2 ^ 20 = omega (arith, c.in_ok-sample.ensures) in
    sample_is_searchable sample.words.items sample.length short
