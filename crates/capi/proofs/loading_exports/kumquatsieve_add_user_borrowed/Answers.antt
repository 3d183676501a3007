use Rattle.std.proofs.Common.{◌∙◌, ◌≡◌, ℕ, List, rules, subst}
use Rattle.std.specs.Prelude.{IfErr}
use Rattle.image_format.specs.declared.digest_test.DigestTest.{DigestTest}
use Rattle.line_segmenter.specs.Faults.{PassesTestsBeforeKeys}
use Rattle.line_segmenter.specs.declared.fault.SegmentFault.TheVariants.{Memory}
use Rattle.capi.specs.Calls.{IsUserFault}
use Rattle.capi.specs.Handles.{IsCallError, segmenter_in}
use Rattle.capi.specs.declared.fault.CallFault.{CallFault}
use Rattle.capi.specs.declared.fault.CallFault.TheVariants.{Segment}
use Rattle.capi.proofs.CodeLemmas.{user_out_of_memory}
use Rattle.capi.proofs.loading_exports.kumquatsieve_add_user_borrowed.Goals as goal

pub returns-clause-out_of_memory : goal.returns-clause-out_of_memory
returns-clause-out_of_memory c = λ reported.
    let digest = c.skipped_if-digest.result in
    let image = c.borrowed-image.result in
    let old = segmenter_in c.args.segmenter.now in
    let outcome = c.call-outcome.result in
    let rejected : IfErr outcome (IsCallError old (IsUserFault digest image)) = search rules in
    let no_memory : IfErr outcome (λ (fault : CallFault). fault ≡ Segment Memory → PassesTestsBeforeKeys digest image) = search rules in
    let passed = user_out_of_memory digest image old outcome c.result_with_number.result c.result_with_number.ensures.code rejected no_memory reported in
    subst (λ (d : DigestTest). PassesTestsBeforeKeys d c.args.image.bytes) c.skipped_if-digest.ensures (subst (λ (bytes : List ℕ). PassesTestsBeforeKeys digest bytes) (c.borrowed-image.ensures ∙ c.of.ensures) passed)
