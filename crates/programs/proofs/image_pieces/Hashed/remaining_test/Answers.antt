use Rattle.programs.proofs.HashLemmas.{digest_found}
use Rattle.programs.proofs.image_pieces.Hashed.remaining_test.Goals as goal

pub returns-then-is_before_digest : goal.returns-then-is_before_digest
returns-then-is_before_digest c = λ held. digest_found c.args.requested c.args.image.now ((c.is_before_digest.ensures held).0 c.if-is_before_digest.true)
