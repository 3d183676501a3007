use Rattle.std.proofs.Common.{◌≡◌, ◌≤◌, ℕ, List, [], ◌∷◌, length, refl, ap, sym, ◌∙◌, subst}
use Rattle.std.specs.Prelude.{ℤ, map}
use Rattle.std.proofs.lemmas.List.{length-map}
use Rattle.mj_model.specs.declared.limits.TheConstants.{ENTRIES_MAX}
use Rattle.mj_model.specs.declared.matrix_sizes.MatrixSizes.{MatrixSizes}
use Rattle.mj_model.specs.Lexicon.{Row, row_of}
use Rattle.lex_source.specs.Lexicons.{AreLexiconRows}
use Rattle.image_format.specs.declared.header.Header.{Header}
use Rattle.image_format.specs.declared.kind.DictKind.TheVariants as dict
use Rattle.image_format.specs.declared.layout.TheConstants.{LAYOUT}
use Rattle.image_writer.specs.Frames.{IsFramed, sections_with}
use Rattle.image_writer.specs.Places.{joined_texts}
use Rattle.image_writer.specs.StoredTables.{AreCostsOf, AreUnknownOf, cost_section}
use Rattle.image_writer.proofs.CostLemmas.{own_costs_are}
use Rattle.image_writer.proofs.WholeLemmas.{system_image}
use Rattle.image_writer.proofs.system.write_system.Goals as goal

pub returns-clause-image : goal.returns-clause-image
returns-clause-image c =
    let m = c.args.matrix.now in
    let chars = c.args.chars.now in
    let unknown = c.args.unknown.now in
    let rows : List Row = c.args.lexicon.rows in
    let made = c.in_ok-made.made in
    let entries = c.records-entries.ensures in
    let long : length c.records-entries.result.now ≡ length rows = sym (length-map c.records-entries.result.now row_of) ∙ ap length entries.rows in
    let costs = cost_section c.costs-costs.result.now in
    let given : List (List ℕ) = costs ∷ c.as_slice.result.now ∷ c.deref-4.result.now ∷ c.deref-5.result.now ∷ c.deref-6.result.now
    ∷ c.deref-7.result.now ∷ c.deref-8.result.now ∷ joined_texts c.deref-9.result.now ∷ [] in
    let listed : given ≡ sections_with costs c.in_ok-categories.categories.items c.in_ok-ranges.ranges.items c.in_ok-index.index.items made =
    λ i. costs ∷ c.as_slice.ensures.value i ∷ c.deref-4.ensures.value i ∷ c.deref-5.ensures.value i ∷ c.deref-6.ensures.value i
    ∷ c.deref-7.ensures.value i ∷ c.deref-8.ensures.value i ∷ joined_texts (c.deref-9.ensures.value i) ∷ [] in
    let lengths : c.section_lengths-lengths.result ≡ map length (sections_with costs c.in_ok-categories.categories.items c.in_ok-ranges.ranges.items c.in_ok-index.index.items made) =
    c.section_lengths-lengths.ensures ∙ λ i. map length (sections_with costs (c.deref.ensures.value i) (c.deref-2.ensures.value i) (c.deref-3.ensures.value i) made) in
    system_image m chars unknown rows costs c.in_ok-categories.categories.items c.in_ok-ranges.ranges.items c.in_ok-index.index.items made
    (record {
      matrix = c.costs-costs.ensures.formed;
      entries = subst (λ (sizes : MatrixSizes). AreLexiconRows (record { sizes = sizes; rows = rows })) c.requires.sizes entries.formed.entries;
      few_unknown = subst (λ n. n ≤ ENTRIES_MAX) c.unknown_count.ensures.count c.unknown_count.ensures.few;
      count = c.requires.categories;
      chars_formed = c.count-count.ensures.formed;
      ids = c.requires.ids;
      costs_are = subst (λ (costs : List ℤ). AreCostsOf m (cost_section costs)) (sym c.costs-costs.ensures.costs) (own_costs_are m c.costs-costs.ensures.formed);
      categories_are = c.in_ok-categories.ensures;
      ranges_are = c.in_ok-ranges.ensures;
      index_are = subst (λ n. AreUnknownOf n unknown c.in_ok-index.index.items) long c.in_ok-index.ensures;
      lexicon = c.in_ok-made.ensures.sections;
    })
    c.in_ok-write_image.field-0.items
    (subst (λ (x : Header × List (List ℕ)). IsFramed x.0 x.1 c.in_ok-write_image.field-0.items)
    (λ i. (
      record {
        layout = LAYOUT;
        kind = dict.System;
        sizes = c.sizes.ensures.sizes i;
        categories = c.count-count.ensures.count i;
        groups = made.group_count;
        tokens = long i;
        unknown = c.unknown_count.ensures.count i;
        lengths = lengths i;
      },
      listed i,
    ))
    c.in_ok-write_image.ensures)

pub write_image-requires : goal.write_image-requires
write_image-requires c =
    let made = c.in_ok-made.made in
    let costs = cost_section c.costs-costs.result.now in
    let given : List (List ℕ) = costs ∷ c.as_slice.result.now ∷ c.deref-4.result.now ∷ c.deref-5.result.now ∷ c.deref-6.result.now
    ∷ c.deref-7.result.now ∷ c.deref-8.result.now ∷ joined_texts c.deref-9.result.now ∷ [] in
    let listed : given ≡ sections_with costs c.in_ok-categories.categories.items c.in_ok-ranges.ranges.items c.in_ok-index.index.items made =
    λ i. costs ∷ c.as_slice.ensures.value i ∷ c.deref-4.ensures.value i ∷ c.deref-5.ensures.value i ∷ c.deref-6.ensures.value i
    ∷ c.deref-7.ensures.value i ∷ c.deref-8.ensures.value i ∷ joined_texts (c.deref-9.ensures.value i) ∷ [] in
    let lengths : c.section_lengths-lengths.result ≡ map length (sections_with costs c.in_ok-categories.categories.items c.in_ok-ranges.ranges.items c.in_ok-index.index.items made) =
    c.section_lengths-lengths.ensures ∙ λ i. map length (sections_with costs (c.deref.ensures.value i) (c.deref-2.ensures.value i) (c.deref-3.ensures.value i) made) in
    record { layout = refl; kind = tt; lengths = lengths ∙ ap (map length) (sym listed) }
