use Rattle.std.proofs.Common.{arith, refl}
use Rattle.image_format.specs.ImageMeaning.{image_tables}
use Rattle.word_lookup.proofs.CategoryScanLemmas.{end_there, further_run}
use Rattle.word_lookup.proofs.PlaceLemmas.{blanks_fit}
use Rattle.word_lookup.proofs.cached_runs.CategorizedText.scan_up_to.Goals as goal

pub suffix-rest-requires : goal.suffix-rest-requires
suffix-rest-requires c = end_there (image_tables c.args.self.system.now).info c.args.self.text.now c.args.run c.requires.run

pub overflow_add-result : goal.overflow_add-result
overflow_add-result c =
    let there = end_there (image_tables c.args.self.system.now).info c.args.self.text.now c.args.run c.requires.run in
    let all = blanks_fit c.args.self.text.now c.suffix-rest.result.now c.args.run.to c.run_up_to-more.result.characters c.run_up_to-more.result.bytes there c.suffix-rest.ensures c.run_up_to-more.ensures.bytes in
    omega (arith, all, c.args.self.fits)

pub returns-clause-run : goal.returns-clause-run
returns-clause-run c =
    further_run (image_tables c.args.self.system.now).info c.args.self.text.now c.suffix-rest.result.now c.args.run _ c.run_up_to-more.result.characters c.run_up_to-more.result.bytes c.run_up_to-more.result.last _
    c.requires.run c.suffix-rest.ensures c.run_up_to-more.ensures.characters c.run_up_to-more.ensures.bytes c.run_up_to-more.ensures.goes_on refl
