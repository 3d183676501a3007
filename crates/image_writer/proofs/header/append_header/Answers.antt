use Rattle.std.proofs.Common.{◌++◌, List, ℕ, append_assoc, ap, ◌∙◌}
use Rattle.std.proofs.lemmas.Result.{on_ok_weaker}
use Rattle.image_format.specs.ImageBytes.{image_magic}
use Rattle.image_writer.specs.Frames.{length_bytes, number_bytes}
use Rattle.image_writer.proofs.header.append_header.Goals as goal

pub returns-clause-bytes : goal.returns-clause-bytes
returns-clause-bytes c =
    let h = c.args.header in
    let old = c.args.image.now.items in
    on_ok_weaker c.append_lengths.result
    (λ is. is ∙ ap (λ (bytes : List ℕ). bytes ++ length_bytes h.lengths)
    (c.in_ok-append_numbers.ensures.bytes ∙ ap (λ (bytes : List ℕ). bytes ++ number_bytes h) c.in_ok-extend_from_slice.ensures.items
    ∙ append_assoc old image_magic (number_bytes h))
    ∙ append_assoc old (image_magic ++ number_bytes h) (length_bytes h.lengths)
    ∙ ap (λ (bytes : List ℕ). old ++ bytes) (append_assoc image_magic (number_bytes h) (length_bytes h.lengths)))
    c.append_lengths.ensures.bytes
