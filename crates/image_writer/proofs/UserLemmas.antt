-- A whole image of a user dictionary.
use Rattle.std.proofs.Common.{◌≡◌, ℕ, ◌<◌, List, [], append-nil, refl, sym, ap, ◌∙◌, subst, arith}
use Rattle.image_format.specs.ImageBounds.{feature_bytes, feature_bytes_end}
use Rattle.mj_model.specs.declared.matrix_sizes.MatrixSizes.{MatrixSizes}
use Rattle.image_format.specs.ImageBytes.{kind_of}
use Rattle.image_format.specs.ImageMeaning.{lexicon_in}
use Rattle.image_format.specs.Layouts.{key_form}
use Rattle.mj_model.specs.Lexicon.{Row}
use Rattle.mj_model.specs.Tables.{User}
use Rattle.image_format.specs.declared.header.Header.{Header}
use Rattle.image_format.specs.declared.kind.DictKind.TheVariants as dict
use Rattle.image_writer.specs.Frames.{IsFramed, sections_with}
use Rattle.image_writer.specs.declared.lexicon_bytes.LexiconBytes.{LexiconBytes}
use Rattle.image_writer.specs.Entries.{all_rows, lexemes_of, tokens_of}
use Rattle.image_writer.specs.Sections.{AreSections}
use Rattle.mj_model.specs.Connection.{AreMatrixSizes}
use Rattle.lex_source.specs.Lexicons.{AreLexiconRows}
use Rattle.image_writer.specs.UserImages.{IsUserImage}
use Rattle.image_writer.specs.Compact.{AreCellsFor, features_once}
use Rattle.image_writer.proofs.FeatureLemmas.{features_once_of}
use Rattle.image_writer.proofs.FormedLemmas.{at, from_parts}
use Rattle.image_writer.proofs.PartLemmas.{AreParts, header_with, intact}

module _ (sizes : MatrixSizes) (rows : List Row) (bytes : LexiconBytes) where
  -- the parts of a user dictionary
  pub record AreUserParts : Type 0 where
    pub sizes_fit : AreMatrixSizes sizes
    pub entries : AreLexiconRows (record { sizes = sizes; rows = rows })
    pub lexicon : AreSections rows [] bytes

  abbrev pub header : Header
  header = header_with dict.User sizes 0 rows [] [] [] [] [] bytes

  abbrev pub sections : List (List ℕ)
  sections = sections_with [] [] [] [] bytes

  module _ (parts : AreUserParts) (image : List ℕ) (framed : IsFramed header sections image) where
    are_parts : AreParts dict.User sizes 0 rows [] [] [] [] [] bytes
    are_parts = record {
      is_kind = tt;
      sizes_fit = parts.sizes_fit;
      counts = (refl, refl);
      entries = parts.entries;
      few_unknown = omega (arith);
      ids = refl;
      costs_formed = refl;
      categories_formed = refl;
      ranges_formed = refl;
      index_formed = refl;
      lexicon = parts.lexicon;
    }

    pub user_image : IsUserImage sizes rows image
    user_image = record {
      intact = intact dict.User sizes 0 rows [] [] [] [] [] bytes are_parts image framed;
      layout = ap (λ (h : Header). h.layout) framed.header;
      kind = from_parts header sections image framed (λ h ss. kind_of h ≡ User) refl;
      sizes_kept = ap (λ (h : Header). h.sizes) framed.header;
      lexicon = from_parts header sections image framed
          (λ h ss. lexicon_in h.groups (record { form = key_form h.layout; keys = at ss 4; groups = at ss 5; tokens = at ss 6; features = at ss 7 }) ≡ lexemes_of rows) parts.lexicon.means;
      cells = from_parts header sections image framed (λ h ss. AreCellsFor (lexemes_of rows) (at ss 4)) parts.lexicon.cells;
      features = from_parts header sections image framed (λ h ss. at ss 7 ≡ features_once (tokens_of rows))
          (subst (λ (all : List Row). at sections 7 ≡ features_once (tokens_of all)) (append-nil rows) (parts.lexicon.features ∙ sym (features_once_of (all_rows rows []))));
      few_features = subst (λ (all : List Row). feature_bytes (tokens_of all) < feature_bytes_end) (append-nil rows) parts.lexicon.few_features;
    }
