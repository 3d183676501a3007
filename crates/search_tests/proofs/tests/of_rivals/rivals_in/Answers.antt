use Rattle.std.proofs.Common.{◌≤◌, ◌^◌, arith, sym, subst}
use Rattle.mj_model.specs.Best.{IsBestPath}
use Rattle.search_tests.specs.Sample.{sample_connection, sample_words}
use Rattle.search_tests.proofs.SampleLemmas.{sample_is_searchable}
use Rattle.search_tests.proofs.tests.of_rivals.rivals_in.Goals as goal

pub fill-requires : goal.fill-requires
fill-requires c =
    let sample = c.in_ok-sample.sample in
    let short : sample.length ≤ 2 ^ 20 = omega (arith, c.in_ok-sample.ensures) in
    sample_is_searchable sample.words.items sample.length short

pub rivals_of-requires : goal.rivals_of-requires
rivals_of-requires c =
    let ws = c.in_ok-sample.sample.words.items in
    let len = c.in_ok-sample.sample.length in
    let short : len ≤ 2 ^ 20 = omega (arith, c.in_ok-sample.ensures) in
    record {
      source = sample_is_searchable ws len short;
      best = subst (IsBestPath (sample_words ws 0 len) sample_connection) (sym c.deref.ensures.value) c.in_ok-fill.ensures.best;
    }
