-- The image of parsed sources is their compilation.
use Rattle.std.proofs.Common.{◌≡◌, ℕ, ◌≤◌, ◌<◌, List, [], ◌∷◌, ◌+◌, ◌++◌, length, map, refl, sym, ap, ◌∙◌, subst, arith, inl, inr}
use Rattle.std.specs.Prelude.{flat_map}
use Rattle.std.specs.List.{enumerate_from, range_with_len}
use Rattle.std.proofs.lemmas.List.{length-map}
use Rattle.std.proofs.lemmas.List.Sorted.{length_permutation}
use Rattle.mj_model.specs.declared.source_fault.SourceFault.{SourceFault}
use Rattle.mj_model.specs.declared.source_fault.SourceKind.TheVariants.{ArrayFull, FeaturesTooLarge}
use Rattle.mj_model.specs.declared.sources.Sources.{Sources}
use Rattle.mj_model.specs.CharDef.{NamedCategory}
use Rattle.dict_compile.specs.Compilation.{IsCompilation, IsCompilationCause}
use Rattle.mj_model.specs.Lexicon.{SkipLines, Row}
use Rattle.image_format.specs.ImageBounds.{feature_bytes, feature_bytes_end, lexicon_tokens, system_tokens}
use Rattle.mj_model.specs.Dictionary.{IsInOrder, lexeme_of}
use Rattle.image_format.specs.ImageMeaning.{image_lexicon, image_tables}
use Rattle.mj_model.specs.SourceTables.{HaveTables, IsSourcesFault, HaveSameMeaning, lexicon_bytes, system_tables}
use Rattle.mj_model.specs.Tables.{Tables, Lexeme, Token}
use Rattle.image_format.specs.ImageBytes.{section}
use Rattle.image_writer.specs.Compact.{AreCellsFor, features_once}
use Rattle.mj_model.specs.UnkDef.{unknown_tokens}
use Rattle.dict_compile.specs.Parts.{AreParts, FitTogether}
use Rattle.dict_compile.specs.declared.parts.SourceParts.{SourceParts}
use Rattle.dict_compile.proofs.ConnectionLemmas.{costs_are}
use Rattle.mj_model.specs.FirstFault.{IsMemoryOr}
use Rattle.dict_compile.specs.Faults.{fault_of_image}
use Rattle.image_writer.specs.Entries.{all_rows, lexemes_of, tokens_of}
use Rattle.image_writer.specs.SystemImages.{tables_with}
use Rattle.dict_compile.specs.Images.{HaveTooLarge, IsImageOf, IsImageError, MayLackCells}
use Rattle.dict_compile.specs.declared.compiled.Compiled.{Compiled}
use Rattle.dict_compile.proofs.TokenLemmas.{all_tokens_are}

-- ---- equal tables

pub same_trans : (t u v : Tables) → HaveSameMeaning t u → HaveSameMeaning u v → HaveSameMeaning t v
same_trans t u v h k = record {
  kind = h.kind ∙ k.kind;
  sizes = h.sizes ∙ k.sizes;
  connection = h.connection ∙ k.connection;
  categories = h.categories ∙ k.categories;
  info = λ code within. h.info code within ∙ k.info code within;
  unknown = h.unknown ∙ k.unknown;
  lexicon = h.lexicon ∙ k.lexicon;
}

-- they have the same tokens
pub same_tokens : (t u : Tables) → HaveSameMeaning t u → system_tokens t ≡ system_tokens u
same_tokens t u h = λ i. lexicon_tokens (h.lexicon i) ++ flat_map (h.unknown i) (range_with_len 0 (length (h.categories i)))

-- ---- the tables of parts

pub numbered_length : (n : ℕ) (rows : List Row) → length (map lexeme_of (enumerate_from n rows)) ≡ length rows
numbered_length n [] = refl
numbered_length n (row ∷ rows) = let h = numbered_length (n + 1) rows in omega (arith, h)

module _ (s : Sources) (parts : SourceParts) (h : AreParts s parts) (fit : FitTogether parts) (ordered : List Row) (o : IsInOrder parts.lexicon.rows ordered) where
  abbrev tables : Tables
  tables = tables_with parts.matrix parts.chars parts.unknown ordered

  mean_the_same : HaveSameMeaning tables (system_tables h.connection h.chars parts.unknown (lexemes_of ordered))
  mean_the_same = record {
    kind = refl;
    sizes = h.matrix.sizes;
    connection = costs_are s.matrix.now h.connection parts.matrix h.is_connection h.matrix;
    categories = ap (map (λ (named : NamedCategory). named.category)) h.table.categories;
    info = λ code within. h.table.infos code;
    unknown = ap (λ n. unknown_tokens n parts.unknown) (sym (numbered_length 0 ordered));
    lexicon = refl;
  }

  -- tables that agree with the parts are those of the sources
  pub have_tables : (t : Tables) → HaveSameMeaning t tables → HaveTables s t
  have_tables t same = record {
    connection = h.connection;
    chars = h.chars;
    unknown = parts.unknown;
    rows = parts.lexicon.rows;
    lexicon = lexemes_of ordered;
    is_connection = h.is_connection;
    are_chars = h.are_chars;
    are_unknown = h.unknown;
    are_rows = h.rows;
    is_lexicon = (ordered, o, refl);
    tables = same_trans t tables (system_tables h.connection h.chars parts.unknown (lexemes_of ordered)) same mean_the_same;
  }

  pub tokens_are : (t : Tables) → HaveSameMeaning t tables → system_tokens t ≡ tokens_of (all_rows ordered parts.unknown)
  tokens_are t same =
      let count : length (map (λ (named : NamedCategory). named.category) parts.chars.categories) ≡ length parts.unknown =
      length-map parts.chars.categories (λ (named : NamedCategory). named.category) ∙ sym fit.categories in
      same_tokens t tables same
      ∙ ap (λ n. lexicon_tokens (lexemes_of ordered) ++ flat_map (unknown_tokens (length ordered) parts.unknown) (range_with_len 0 n)) count
      ∙ all_tokens_are ordered parts.unknown

same_self : (t : Tables) → HaveSameMeaning t t
same_self t = record { kind = refl; sizes = refl; connection = refl; categories = refl; info = λ code within. refl; unknown = refl; lexicon = refl }

-- ---- the compilation

as_many : (parts : SourceParts) (ordered : List Row) (lexicon : List Lexeme) → IsInOrder parts.lexicon.rows ordered → lexicon ≡ lexemes_of ordered → length parts.lexicon.rows ≡ length lexicon
as_many parts ordered lexicon o is =
    let b = length_permutation parts.lexicon.rows ordered o.same_rows in
    let c = numbered_length 0 ordered in
    let d = ap length is in
    omega (arith, b, c, d)

pub is_compilation : (s : Sources) (parts : SourceParts) (c : Compiled) → AreParts s parts → FitTogether parts → IsImageOf parts c → IsCompilation s c.image.items c.entries c.skipped
is_compilation s parts c h fit is = record {
  have = have_tables s parts h fit is.ordered is.in_order (image_tables c.image.items) is.image.tables;
  compiled = record {
    intact = is.image.intact;
    layout = is.image.layout;
    few_features = subst (λ (ts : List Token). feature_bytes ts < feature_bytes_end) (sym (tokens_are s parts h fit is.ordered is.in_order (image_tables c.image.items) is.image.tables)) is.image.few_features;
    cells = subst (λ (lexicon : List Lexeme). AreCellsFor lexicon (section c.image.items 5)) (sym is.image.tables.lexicon) is.image.cells;
    features = subst (λ (ts : List Token). section c.image.items 8 ≡ features_once ts) (sym (tokens_are s parts h fit is.ordered is.in_order (image_tables c.image.items) is.image.tables)) is.image.features;
    all_entries = is.entries ∙ as_many parts is.ordered (image_lexicon c.image.items) is.in_order is.image.tables.lexicon;
    all_skipped = subst (SkipLines (lexicon_bytes s)) (sym is.skipped) h.skipped;
  };
  categories = (h.chars, h.are_chars, is.image.categories ∙ h.table.categories);
  ranges = is.image.ranges;
}

-- ---- the errors

too_large : (s : Sources) (parts : SourceParts) (fault : SourceFault) → AreParts s parts → FitTogether parts → HaveTooLarge parts → fault ≡ fault_of_image FeaturesTooLarge → IsCompilationCause s fault
too_large s parts fault h fit large is =
    let t = tables_with parts.matrix parts.chars parts.unknown large.0 in
    inl (inr (
      t,
      have_tables s parts h fit large.0 large.1 t (same_self t),
      (subst (λ (ts : List Token). feature_bytes_end ≤ feature_bytes ts) (sym (tokens_are s parts h fit large.0 large.1 t (same_self t))) large.2, is),
    ))

may_be_full : (s : Sources) (parts : SourceParts) (fault : SourceFault) → AreParts s parts → FitTogether parts → MayLackCells parts.lexicon.rows → fault ≡ fault_of_image ArrayFull → IsCompilationCause s fault
may_be_full s parts fault h fit full is =
    let t = tables_with parts.matrix parts.chars parts.unknown full.0 in
    inr (t, have_tables s parts h fit full.0 full.1 t (same_self t), (full.2, is))

pub compile_error : (s : Sources) (parts : SourceParts) (fault : SourceFault) → AreParts s parts → FitTogether parts → IsImageError parts fault → IsMemoryOr fault (IsCompilationCause s fault)
compile_error s parts fault h fit (inl memory) = inl memory
compile_error s parts fault h fit (inr (inl large)) = inr (too_large s parts fault h fit large.0 large.1)
compile_error s parts fault h fit (inr (inr full)) = inr (may_be_full s parts fault h fit full.0 full.1)

pub source_rejected : (s : Sources) (fault : SourceFault) → IsMemoryOr fault (IsSourcesFault s fault) → IsMemoryOr fault (IsCompilationCause s fault)
source_rejected s fault (inl memory) = inl memory
source_rejected s fault (inr h) = inr (inl (inl h))
