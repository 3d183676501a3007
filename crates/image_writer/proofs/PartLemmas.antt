-- An image is well formed if its parts are, for either kind.
use Rattle.std.proofs.Common.{◌≡◌, ℕ, ◌+◌, ◌*◌, ◌<◌, ◌≤◌, List, [], length, ap, ◌∙◌, arith}
use Rattle.std.specs.Prelude.{map, slice_index_or, sum_by}
use Rattle.std.proofs.lemmas.Option.{slice_get-get_or}
use Rattle.mj_model.specs.declared.limits.TheConstants.{ENTRIES_MAX}
use Rattle.mj_model.specs.declared.matrix_sizes.MatrixSizes.{MatrixSizes}
use Rattle.image_format.specs.declared.header.Header.{Header}
use Rattle.image_format.specs.declared.kind.DictKind.{DictKind}
use Rattle.image_format.specs.DictKinds.{IsKind}
use Rattle.image_format.specs.declared.layout.TheConstants.{LAYOUT}
use Rattle.image_format.specs.ImageBytes.{kind_of}
use Rattle.image_format.specs.ImageFaults.{AreCounts, IsHeader, IsIntact, PassAll, SystemAlone}
use Rattle.image_format.specs.ImageSections.{AreCategories, AreCosts, AreRanges, FitsSizes, IsIndex, stored_token}
use Rattle.mj_model.specs.Lexicon.{Row}
use Rattle.mj_model.specs.Tables.{Kind, Token}
use Rattle.image_writer.specs.Frames.{IsFramed, sections_with}
use Rattle.image_writer.specs.declared.lexicon_bytes.LexiconBytes.{LexiconBytes}
use Rattle.lex_source.specs.Lexicons.{AreLexiconRows}
use Rattle.char_def.specs.Outside.{all_lines_outside}
use Rattle.image_writer.specs.Entries.{all_rows, no_row}
use Rattle.image_writer.specs.Sections.{AreSections, IsTokenOf}
use Rattle.mj_model.specs.Connection.{AreMatrixSizes}
use Rattle.image_writer.proofs.FormedLemmas.{eight_of, at, formed_of, part_tests}
use Rattle.image_writer.proofs.RowLemmas.{count_all, ids_within}

-- the header of an image with these entries
abbrev pub header_with : DictKind → MatrixSizes → ℕ → List Row → List (List Row) → List ℕ → List ℕ → List ℕ → List ℕ → LexiconBytes → Header
header_with kind sizes categories rows unknown costs named ranges index bytes = record {
  layout = LAYOUT;
  kind = kind;
  sizes = sizes;
  categories = categories;
  groups = bytes.group_count;
  tokens = length rows;
  unknown = sum_by length unknown;
  lengths = map length (sections_with costs named ranges index bytes);
}

module _ (whose : DictKind) (sizes : MatrixSizes) (count : ℕ) (rows : List Row) (unknown : List (List Row)) (costs categories ranges index : List ℕ) (bytes : LexiconBytes) where
  abbrev pub header : Header
  header = header_with whose sizes count rows unknown costs categories ranges index bytes

  abbrev pub sections : List (List ℕ)
  sections = sections_with costs categories ranges index bytes

  abbrev pub kind : Kind
  kind = kind_of header

  abbrev pub all_count : ℕ
  all_count = length rows + sum_by length unknown

  -- the numbers are within their bounds, and the sections are those of the entries
  pub record AreParts : Type 0 where
    pub is_kind : IsKind whose
    pub sizes_fit : AreMatrixSizes sizes
    pub counts : AreCounts kind count (sum_by length unknown)
    pub entries : AreLexiconRows (record { sizes = sizes; rows = rows })
    pub few_unknown : sum_by length unknown ≤ ENTRIES_MAX
    pub ids : all_lines_outside sizes unknown ≡ []
    pub costs_formed : SystemAlone kind (AreCosts sizes) costs
    pub categories_formed : SystemAlone kind (AreCategories count) categories
    pub ranges_formed : SystemAlone kind (AreRanges count) ranges
    pub index_formed : SystemAlone kind (IsIndex count (length rows) all_count) index
    pub lexicon : AreSections rows unknown bytes

  module _ (parts : AreParts) where
    is_header : IsHeader header
    is_header = record {
      is_kind = parts.is_kind;
      sizes_allowed = parts.sizes_fit;
      counts = parts.counts;
      groups_have_tokens = parts.lexicon.few_groups;
      few_tokens = parts.entries.few;
      few_unknown = parts.few_unknown;
    }

    -- token i is an entry
    token : (i : ℕ) → i < all_count → IsTokenOf (slice_index_or (all_rows rows unknown) i no_row) (at sections 6) (at sections 7) i
    token i less =
        let all = count_all rows unknown in
        parts.lexicon.tokens.each i _ (slice_get-get_or (all_rows rows unknown) i no_row (omega (arith, all, less)))

    fits : (i : ℕ) → i < all_count → FitsSizes sizes (stored_token (at sections 6) i)
    fits i less =
        let all = count_all rows unknown in
        let within = ids_within (record { sizes = sizes; rows = rows }) unknown parts.entries parts.ids i no_row (omega (arith, all, less)) in
        let is = (token i less).token in
        let left = ap (λ (t : Token). t.left) is in
        let right = ap (λ (t : Token). t.right) is in
        record { left_below = omega (arith, left, within.1); right_below = omega (arith, right, within.0); spare_zero = (token i less).spare }

    pass : PassAll (part_tests header (eight_of (at sections)))
    pass = (
      is_header,
      (
        parts.costs_formed,
        (
          parts.categories_formed,
          (
            parts.ranges_formed,
            (
              parts.index_formed,
              (
                parts.lexicon.keys.once,
                (
                  parts.lexicon.keys.keys,
                  (
                    parts.lexicon.groups,
                    (parts.lexicon.tokens.fill ∙ ap (λ k. 16 * k) (count_all rows unknown), (fits, (λ i less. (token i less).feature, tt))),
                  ),
                ),
              ),
            ),
          ),
        ),
      ),
    )

    pub intact : (image : List ℕ) → IsFramed header sections image → IsIntact image
    intact image framed = formed_of header sections image framed (omega arith, omega arith) pass
