use Rattle.std.proofs.Common.{ℕ, List}
use Rattle.std.proofs.lemmas.Result.{IfOk-weaker}
use Rattle.image_format.specs.ImageFaults.{IsAccepted}
use Rattle.programs.specs.TestRecords.{HoldsForRemaining}
use Rattle.programs.proofs.images.dictionary_with_records.Given as given
use Rattle.programs.proofs.images.dictionary_with_records.Goals as goal

pub returns-clause-accepted : goal.returns-clause-accepted
returns-clause-accepted g c =
    let left = c.remaining_digest_test-remaining.result in
    IfOk-weaker c.dictionary_at.result (IsAccepted left) (λ (dict : List ℕ). HoldsForRemaining (given.H-post g c.args.has_record) c.args.path.now c.args.digest (λ test. IsAccepted test dict))
    (λ dict accepted. (left, c.remaining_digest_test-remaining.ensures, accepted)) c.dictionary_at.ensures.accepted
