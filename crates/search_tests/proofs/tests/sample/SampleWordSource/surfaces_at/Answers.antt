use Rattle.std.proofs.Common.{◌≤◌, ◌++◌, List, length, arith, sym, ap, ◌∙◌}
use Rattle.std.proofs.lemmas.List.{append-nil, drop_all}
use Rattle.mj_model.specs.declared.word.Word.{Word}
use Rattle.search_tests.specs.Sample.{sample_surfaces}
use Rattle.search_tests.proofs.SampleLemmas.{are_samples}
use Rattle.search_tests.proofs.tests.sample.SampleWordSource.surfaces_at.Goals as goal

pub returns-clause-appended : goal.returns-clause-appended
returns-clause-appended c =
    let words = c.args.self.now.words.items in
    let len = c.args.self.now.length in
    let place = c.args.place in
    let out = c.loop-number.out.items in
    let number = c.loop-number.number in
    let past : length words ≤ number = omega (arith, c.loop-number-test.false, c.len-number-end.ensures) in
    let none = drop_all number words past in
    (sample_surfaces words 0 len place, are_samples words len place, sym (append-nil out) ∙ ap (λ (ws : List Word). out ++ sample_surfaces ws number len place) (sym none) ∙ c.loop-number.invariant.rest)
