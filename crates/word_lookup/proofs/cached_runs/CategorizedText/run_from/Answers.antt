use Rattle.std.proofs.Common.{arith}
use Rattle.image_format.specs.ImageMeaning.{image_tables}
use Rattle.word_lookup.proofs.CategoryScanLemmas.{count_low, rest_of_run}
use Rattle.word_lookup.proofs.cached_runs.CategorizedText.run_from.Goals as goal

pub overflow_sub-result : goal.overflow_sub-result
overflow_sub-result c =
    let low = count_low (image_tables c.args.self.system.now).info c.args.self.text.now c.args.run c.args.place c.count_between-stepped.result c.requires.run c.requires.place c.requires.from c.requires.to c.count_between-stepped.ensures in
    omega (arith, low)

pub returns-clause-run : goal.returns-clause-run
returns-clause-run c =
    rest_of_run (image_tables c.args.self.system.now).info c.args.self.text.now c.args.run c.args.place c.count_between-stepped.result c.requires.run c.requires.place c.requires.from c.requires.to c.count_between-stepped.ensures
