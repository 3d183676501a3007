-- A whole image of a system dictionary.
use Rattle.std.proofs.Common.{◌≡◌, ℕ, ◌+◌, ◌≤◌, List, [], length, refl, sym, ap, ◌∙◌, subst}
use Rattle.std.specs.Prelude.{pos, if◌then◌else◌, map, nat_lt, sum_by}
use Rattle.mj_model.specs.declared.limits.TheConstants.{ENTRIES_MAX}
use Rattle.mj_model.specs.CharDef.{NamedCategory}
use Rattle.mj_model.specs.Connection.{is_pair}
use Rattle.image_format.specs.declared.header.Header.{Header}
use Rattle.image_format.specs.declared.kind.DictKind.TheVariants as dict
use Rattle.image_format.specs.ImageBytes.{kind_of}
use Rattle.image_format.specs.ImageMeaning.{info_in, lexicon_in, tokens_in}
use Rattle.image_format.specs.Layouts.{info_form, key_form}
use Rattle.image_format.specs.ImageSections.{IsIndex, categories_in, stored_cost}
use Rattle.mj_model.specs.Lexicon.{Row}
use Rattle.mj_model.specs.SourceTables.{HaveSameMeaning}
use Rattle.mj_model.specs.Tables.{Tables}
use Rattle.matrix_def.specs.Costs.{CostTable, IsMatrix}
use Rattle.lex_source.specs.Lexicons.{AreLexiconRows}
use Rattle.char_def.specs.Categories.{CharCategories, IsCategoryTable}
use Rattle.char_def.specs.Outside.{all_lines_outside}
use Rattle.image_writer.specs.Frames.{IsFramed, sections_with}
use Rattle.image_writer.specs.StoredTables.{AreCategoriesOf, AreCostsOf, HoldRangesOf, AreUnknownOf}
use Rattle.image_writer.specs.declared.lexicon_bytes.LexiconBytes.{LexiconBytes}
use Rattle.image_writer.specs.Sections.{AreSections}
use Rattle.image_writer.specs.SystemImages.{IsSystemImage, tables_with}
use Rattle.image_writer.specs.Entries.{all_rows, lexemes_of, tokens_of}
use Rattle.image_writer.specs.Compact.{AreCellsFor, AreChanging, features_once}
use Rattle.image_writer.proofs.FeatureLemmas.{features_once_of}
use Rattle.image_writer.proofs.FormedLemmas.{at, eight_of, from_parts}
use Rattle.image_writer.proofs.PartLemmas.{AreParts, header_with, intact}
use Rattle.image_writer.proofs.SystemLemmas.{same_cost, same_unknown}

-- the tables that a header and sections mean
abbrev pub tables_in : Header → List (List ℕ) → Tables
tables_in h s = record {
  kind = kind_of h;
  sizes = h.sizes;
  connection = λ right left. if is_pair h.sizes right left then stored_cost h.sizes (at s 0) right left else pos 0;
  categories = map (λ (c : NamedCategory). c.category) (categories_in h.categories (at s 1));
  info = info_in (info_form h.layout) (at s 2);
  unknown = λ i. if nat_lt i h.categories then tokens_in (at s 6) (at s 7) (at s 3) i else [];
  lexicon = lexicon_in h.groups (record { form = key_form h.layout; keys = at s 4; groups = at s 5; tokens = at s 6; features = at s 7 });
}

module _ (m : CostTable) (chars : CharCategories) (unknown : List (List Row)) (rows : List Row) (costs categories ranges index : List ℕ) (bytes : LexiconBytes) where
  -- the parts of a system dictionary
  pub record AreSystemParts : Type 0 where
    pub matrix : IsMatrix m
    pub entries : AreLexiconRows (record { sizes = m.sizes; rows = rows })
    pub few_unknown : sum_by length unknown ≤ ENTRIES_MAX
    pub count : length unknown ≡ length chars.categories
    pub chars_formed : IsCategoryTable chars
    pub ids : all_lines_outside m.sizes unknown ≡ []
    pub costs_are : AreCostsOf m costs
    pub categories_are : AreCategoriesOf chars categories
    pub ranges_are : HoldRangesOf chars ranges
    pub index_are : AreUnknownOf (length rows) unknown index
    pub lexicon : AreSections rows unknown bytes

  abbrev pub header : Header
  header = header_with dict.System m.sizes (length chars.categories) rows unknown costs categories ranges index bytes

  abbrev pub sections : List (List ℕ)
  sections = sections_with costs categories ranges index bytes

  module _ (parts : AreSystemParts) (image : List ℕ) (framed : IsFramed header sections image) where
    are_parts : AreParts dict.System m.sizes (length chars.categories) rows unknown costs categories ranges index bytes
    are_parts = record {
      is_kind = tt;
      sizes_fit = parts.matrix.sizes;
      counts = (parts.chars_formed.some, parts.chars_formed.few);
      entries = parts.entries;
      few_unknown = parts.few_unknown;
      ids = parts.ids;
      costs_formed = parts.costs_are.formed;
      categories_formed = parts.categories_are.formed;
      ranges_formed = parts.ranges_are.formed;
      index_formed = subst (λ n. IsIndex n (length rows) (length rows + sum_by length unknown) index) parts.count parts.index_are.formed;
      lexicon = parts.lexicon;
    }

    same_tables : HaveSameMeaning (tables_in header (eight_of (at sections))) (tables_with m chars unknown rows)
    same_tables = record {
      kind = refl;
      sizes = refl;
      connection = λ i right left. same_cost m costs parts.costs_are right left (is_pair m.sizes right left) refl i;
      categories = ap (map (λ (c : NamedCategory). c.category)) parts.categories_are.categories;
      info = parts.ranges_are.infos;
      unknown = λ j i. (
          ap (λ n. if nat_lt i n then tokens_in (at sections 6) (at sections 7) index i else []) (sym parts.count)
          ∙ same_unknown rows unknown index (at sections 6) (at sections 7) parts.index_are parts.lexicon.tokens i (nat_lt i (length unknown)) refl) j;
      lexicon = parts.lexicon.means;
    }

    pub system_image : IsSystemImage m chars unknown rows image
    system_image = record {
      intact = intact dict.System m.sizes (length chars.categories) rows unknown costs categories ranges index bytes are_parts image framed;
      layout = ap (λ (h : Header). h.layout) framed.header;
      tables = from_parts header sections image framed (λ h ss. HaveSameMeaning (tables_in h ss) (tables_with m chars unknown rows)) same_tables;
      categories = from_parts header sections image framed (λ h ss. categories_in h.categories (at ss 1) ≡ chars.categories) parts.categories_are.categories;
      ranges = from_parts header sections image framed (λ h ss. AreChanging (at ss 2)) parts.ranges_are.changing;
      cells = from_parts header sections image framed (λ h ss. AreCellsFor (lexemes_of rows) (at ss 4)) parts.lexicon.cells;
      features = from_parts header sections image framed (λ h ss. at ss 7 ≡ features_once (tokens_of (all_rows rows unknown))) (parts.lexicon.features ∙ sym (features_once_of (all_rows rows unknown)));
      few_features = parts.lexicon.few_features;
    }
