use Rattle.std.proofs.Common.{rules, ◌≡◌, ℕ, List, ◌++◌, length, arith, ap, sym, ◌∙◌, subst}
use Rattle.std.proofs.lemmas.List.{length-append}
use Rattle.std.specs.Prelude.{IfSome}
use Rattle.programs.specs.HashedImages.{HasHashed, digest_place}
use Rattle.programs.proofs.HashLemmas.{place_kept}
use Rattle.programs.proofs.image_pieces.ImagePiecesByteSink.with.Goals as goal

pub returns : goal.returns
returns c = λ bytes come.
    let piece : List ℕ = c.args.piece.now in
    let items : c.extend_from_slice.new.self.items ≡ c.args.self.bytes.items ++ piece = search rules in
    let before : c.len-before.result ≡ length c.args.self.bytes.items = search rules in
    let count = before ∙ ap length come.bytes_are in
    let long = come.header in
    record {
      bytes_are = items ∙ ap (λ (b : List ℕ). b ++ piece) come.bytes_are;
      header = omega (arith, long, length-append {A = ℕ});
      hashed = subst (λ (place : ℕ). IfSome c.update_hash.result (HasHashed place (bytes ++ piece))) (sym (place_kept bytes piece come.header))
          (c.update_hash.ensures (digest_place bytes) bytes count come.hashed);
    }
