use Rattle.std.proofs.Common.{rules}
use Rattle.capi.specs.Handles.{segmenter_in}
use Rattle.capi.specs.TextLines.{lines_report}
use Rattle.capi.proofs.SegmentedTexts.{borrows_segmentation}
use Rattle.capi.proofs.query_exports.kumquatsieve_parse_lines.Goals as goal

pub returns-clause-ok : goal.returns-clause-ok
returns-clause-ok c = λ done.
    let new = c.parse_lines.new in
    borrows_segmentation (segmenter_in c.args.segmenter.now) new.self.slot.value c.args.text.now (lines_report new.out new.count new.lines) (search rules)
