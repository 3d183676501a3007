use Rattle.std.proofs.Common.{rules}
use Rattle.std.specs.Prelude.{IfErr}
use Rattle.line_segmenter.specs.Faults.{IsTextError}
use Rattle.capi.specs.Handles.{IsCallError, segmenter_in}
use Rattle.capi.proofs.PlaceLemmas.{text_placed, reports_placed}
use Rattle.capi.proofs.exports.kumquatsieve_segment_whole.Goals as goal

pub returns : goal.returns
returns c =
    let old = segmenter_in c.args.segmenter.now in
    let text = c.args.text.now in
    let before = c.args.at.now in
    let at = c.result_with_size.new.at in
    let rejected : IfErr c.call-outcome.result (IsCallError old (λ _. IsTextError text)) = search rules in
    record {
      accepted = search rules;
      done = search rules;
      rejected = reports_placed old text IsTextError before at (text_placed text before at) c.call-outcome.result c.result_with_size.result c.result_with_size.ensures.code rejected c.result_with_size.ensures.place;
      kept = search rules;
      size_unset = search rules;
      at_unset = search rules;
    }
