use Rattle.jseg_lib.proofs.PrintedTexts.{as_requested}
use Rattle.jseg_lib.proofs.segmenting.segment_lines.Given as given
use Rattle.jseg_lib.proofs.segmenting.segment_lines.Goals as goal

pub returns-in-Images-clause-ok : goal.returns-in-Images-clause-ok
returns-in-Images-clause-ok g c =
    let over = rw (c.skipped_if.ensures, c.as_str.ensures.value, c.deref.ensures.value) at c.segment_by_images.ensures.ok in
    as_requested (given.L-post g c.args.load) (given.D-post g c.args.read) c.args.options.now _ c.in-Ok.printed (g.R.Read.remaining c.args.text) _ _ c.segment_by_images.result c.in-Images.is c.in-Ok.ensures.requested over

pub returns-in-Sources-clause-ok : goal.returns-in-Sources-clause-ok
returns-in-Sources-clause-ok g c =
    let over = rw c.as_str-in-Sources.ensures.value at c.segment_by_directory.ensures.ok in
    as_requested (given.L-post g c.args.load) (given.D-post g c.args.read) c.args.options.now _ c.in-Ok.printed (g.R.Read.remaining c.args.text) _ _ c.segment_by_directory.result c.in-Sources.is c.in-Ok.ensures.requested over

pub returns-in-Sample-clause-ok : goal.returns-in-Sample-clause-ok
returns-in-Sample-clause-ok g c =
    as_requested (given.L-post g c.args.load) (given.D-post g c.args.read) c.args.options.now _ c.in-Ok.printed (g.R.Read.remaining c.args.text) _ _ c.segment_by_sample.result c.in-Sample.is c.in-Ok.ensures.requested c.segment_by_sample.ensures.ok
