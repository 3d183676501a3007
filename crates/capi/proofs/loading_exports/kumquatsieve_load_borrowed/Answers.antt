use Rattle.std.proofs.Common.{◌∙◌, ℕ, List, subst}
use Rattle.image_format.specs.declared.digest_test.DigestTest.{DigestTest}
use Rattle.line_segmenter.specs.Faults.{PassesTestsBeforeKeys}
use Rattle.capi.specs.Handles.{segmenter_in}
use Rattle.capi.proofs.CodeLemmas.{load_out_of_memory}
use Rattle.capi.proofs.loading_exports.kumquatsieve_load_borrowed.Goals as goal

pub returns-clause-out_of_memory : goal.returns-clause-out_of_memory
returns-clause-out_of_memory c = λ reported.
    let digest = c.skipped_if-digest.result in
    let image = c.borrowed-image.result in
    let passed = load_out_of_memory digest image (segmenter_in c.args.segmenter.now) c.load_owned.result c.result_with_number.result c.result_with_number.ensures.code c.load_owned.ensures.rejected c.load_owned.ensures.out_of_memory reported in
    subst (λ (d : DigestTest). PassesTestsBeforeKeys d c.args.image.bytes) c.skipped_if-digest.ensures (subst (λ (bytes : List ℕ). PassesTestsBeforeKeys digest bytes) (c.borrowed-image.ensures ∙ c.of.ensures) passed)
