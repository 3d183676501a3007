use Rattle.std.proofs.Common.{arith, refl}
use Rattle.image_format.specs.ImageMeaning.{image_tables}
use Rattle.word_lookup.specs.TextRuns.{started_scan}
use Rattle.word_lookup.proofs.CategoryScanLemmas.{ends_after}
use Rattle.word_lookup.proofs.cached_runs.CategorizedText.cached_run.Goals as goal

pub overflow_sub-result : goal.overflow_sub-result
overflow_sub-result c =
    let self = c.args.self in
    ends_after (image_tables self.system.now).info self.text.now (started_scan c.args.from c.args.to c.args.first) c.scan_up_to-run.result c.requires.started c.scan_up_to-run.ensures.run (omega (arith, c.scan_up_to-run.ensures.from, c.from_cache-from_cache.ensures.from)) refl

pub returns-clause-run : goal.returns-clause-run
returns-clause-run c = record {
  run = c.scan_up_to-run.result;
  is = c.scan_up_to-run.ensures.run;
  scanned = record { begins = omega (arith, c.scan_up_to-run.ensures.from, c.from_cache-from_cache.ensures.from); characters = refl; bytes = refl };
  covered = c.scan_up_to-run.ensures.covered;
}
