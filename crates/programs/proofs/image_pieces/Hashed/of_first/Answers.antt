use Rattle.std.proofs.Common.{ℕ, [], refl, ap, ◌∙◌, subst, arith}
use Rattle.image_format.specs.ImageBytes.{section_end}
use Rattle.image_format.specs.declared.header.Header.{Header}
use Rattle.programs.specs.HashedImages.{HasHashed, digest_place}
use Rattle.programs.proofs.image_pieces.Hashed.of_first.Goals as goal

pub returns : goal.returns
returns c =
    let first = c.args.first.now in
    let at = c.in_ok-end.ensures.each 8 (omega arith) ∙ ap (λ (h : Header). section_end h 8) c.read_header-header.ensures in
    c.with.ensures (digest_place first) [] refl (subst (λ (n : ℕ). HasHashed n [] c.nothing.result) at c.nothing.ensures)
