use Rattle.std.proofs.Common.{ℕ, List, sym, ◌∙◌, subst}
use Rattle.std.specs.Prelude.{IfSome}
use Rattle.programs.specs.HashedImages.{AgreeOnDigest, HasHashed, digest_place}
use Rattle.programs.proofs.image_pieces.ImagePieces.whole.Goals as goal

pub returns-clause-digest : goal.returns-clause-digest
returns-clause-digest c = λ bytes come.
    let is = c.deref.ensures.value ∙ come.bytes_are in
    let hashed = subst (λ (b : List ℕ). IfSome c.args.self.hashed (HasHashed (digest_place b) b)) (sym is) come.hashed in
    subst (λ (b : List ℕ). AgreeOnDigest c.args.requested c.remaining_test-digest.result b) is (c.remaining_test-digest.ensures hashed)
