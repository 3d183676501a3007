use Rattle.std.proofs.Common.{subst}
use Rattle.std.specs.Prelude.{IfSome, Option}
use Rattle.programs.specs.HashedImages.{HasHashed, digest_place}
use Rattle.programs.specs.declared.image_pieces.Hashed.{Hashed}
use Rattle.programs.proofs.image_pieces.remaining_test.Goals as goal

pub returns-in-Some : goal.returns-in-Some
returns-in-Some c = λ hashed.
    let image = c.args.image.now in
    c.remaining_test.ensures (subst (λ (found : Option Hashed). IfSome found (HasHashed (digest_place image) image)) c.in-Some.is hashed)
