use Rattle.std.proofs.Common.{◌≡◌, ℕ, List, [], ◌∷◌, length, ap, sym, ◌∙◌, subst}
use Rattle.std.proofs.lemmas.List.{length-map}
use Rattle.mj_model.specs.declared.matrix_sizes.MatrixSizes.{MatrixSizes}
use Rattle.mj_model.specs.Lexicon.{Row, row_of}
use Rattle.image_format.specs.declared.header.Header.{Header}
use Rattle.image_format.specs.declared.kind.DictKind.TheVariants as dict
use Rattle.image_format.specs.declared.layout.TheConstants.{LAYOUT}
use Rattle.image_writer.specs.Frames.{IsFramed, sections_with}
use Rattle.image_writer.specs.Places.{joined_texts}
use Rattle.image_writer.proofs.UserLemmas.{user_image}
use Rattle.image_writer.proofs.user.write_user.Goals as goal

pub returns-clause-image : goal.returns-clause-image
returns-clause-image c =
    let sizes : MatrixSizes = c.args.lexicon.sizes in
    let rows : List Row = c.args.lexicon.rows in
    let made = c.in_ok-made.made in
    let entries = c.records-entries.ensures in
    let long : length c.records-entries.result.now ≡ length rows = sym (length-map c.records-entries.result.now row_of) ∙ ap length entries.rows in
    let given : List (List ℕ) = [] ∷ c.as_slice.result.now ∷ [] ∷ [] ∷ c.deref.result.now ∷ c.deref-2.result.now ∷ c.deref-3.result.now ∷ joined_texts c.deref-4.result.now ∷ [] in
    let listed : given ≡ sections_with [] [] [] [] made =
    λ i. [] ∷ c.as_slice.ensures i ∷ [] ∷ [] ∷ c.deref.ensures.value i ∷ c.deref-2.ensures.value i ∷ c.deref-3.ensures.value i ∷ joined_texts (c.deref-4.ensures.value i) ∷ [] in
    user_image sizes rows made
    (record { sizes_fit = c.requires.sizes; entries = entries.formed.entries; lexicon = c.in_ok-made.ensures.sections })
    c.in_ok-write_image.field-0.items
    (subst (λ (x : Header × List (List ℕ)). IsFramed x.0 x.1 c.in_ok-write_image.field-0.items)
    (λ i. (
      record {
        layout = LAYOUT;
        kind = dict.User;
        sizes = c.sizes-sizes.ensures i;
        categories = 0;
        groups = made.group_count;
        tokens = long i;
        unknown = 0;
        lengths = c.section_lengths.ensures i;
      },
      listed i,
    ))
    c.in_ok-write_image.ensures)
