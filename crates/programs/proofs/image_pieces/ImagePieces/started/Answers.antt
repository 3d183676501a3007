use Rattle.std.proofs.Common.{ℕ, List, refl, subst}
use Rattle.std.specs.Prelude.{IfSome}
use Rattle.programs.specs.HashedImages.{HasHashed, digest_place}
use Rattle.programs.proofs.image_pieces.ImagePieces.started.Goals as goal

pub returns : goal.returns
returns c = record {
  bytes_are = refl;
  header = c.requires;
  hashed = subst (λ (bytes : List ℕ). IfSome c.of_first-hashed.result (HasHashed (digest_place bytes) bytes)) c.deref.ensures.value c.of_first-hashed.ensures;
}
