-- Sources compile, or have exactly one first error.
use Rattle.std.proofs.Common.{◌≡◌, ℕ, ◌<◌, ◌≤◌, List, [], sym, ap, ◌∙◌, subst, arith, inl, inr}
use Rattle.std.specs.Prelude.{Result, Ok, Err, IfOk, IfErr}
use Rattle.mj_model.specs.declared.source_fault.SourceFault.{SourceFault}
use Rattle.mj_model.specs.declared.sources.Sources.{Sources}
use Rattle.mj_model.specs.CharDef.{CharSource}
use Rattle.dict_compile.specs.Compilation.{IsCompilation, IsCompilationCause, IsCompilationFault}
use Rattle.image_format.specs.ImageBounds.{feature_bytes, feature_bytes_end, system_tokens}
use Rattle.mj_model.specs.Connection.{Connection}
use Rattle.mj_model.specs.Dictionary.{IsLexiconOf}
use Rattle.mj_model.specs.FirstFault.{IsMemoryOr}
use Rattle.image_format.specs.ImageMeaning.{image_tables}
use Rattle.mj_model.specs.Lexicon.{Row}
use Rattle.mj_model.specs.SourceTables.{HaveTables, HaveOneMeaning, HaveSameMeaning, lexicon_bytes, system_tables}
use Rattle.mj_model.specs.Tables.{Tables, Lexeme}
use Rattle.mj_model.proofs.UnkReading.{unk_is_one}
use Rattle.dict_compile.specs.declared.compiled.Compiled.{Compiled}
use Rattle.dict_compile.specs.declared.parts.SourceParts.{SourceParts}
use Rattle.dict_compile.specs.Results.{IsRejectedFor, IsReportedFor}
use Rattle.dict_compile.specs.Images.{IsImageOf, IsImageError}
use Rattle.dict_compile.specs.Parts.{AreParts, FitTogether}
use Rattle.dict_compile.proofs.CompilationLemmas.{is_compilation, compile_error, same_tokens, same_trans}
use Rattle.dict_compile.proofs.OrderLemmas.{one_lexicon}
use Rattle.dict_compile.proofs.SourceFaults.{fault_is_one, lexicons_one, no_tables, one_value, rows_along, same_read, unk_along}

-- ---- one record of tables

same_sym : (t u : Tables) → HaveSameMeaning t u → HaveSameMeaning u t
same_sym t u h = record {
  kind = sym h.kind;
  sizes = sym h.sizes;
  connection = sym h.connection;
  categories = sym h.categories;
  info = λ code within. sym (h.info code within);
  unknown = sym h.unknown;
  lexicon = sym h.lexicon;
}

equal_parts : (c d : Connection) (a b : CharSource) (u v : List (List Row)) (x y : List Lexeme) → c ≡ d → a ≡ b → u ≡ v → x ≡ y → system_tables c a u x ≡ system_tables d b v y
equal_parts c d a b u v x y e f g h = λ i. system_tables (e i) (f i) (g i) (h i)

-- two records of tables of the same sources agree
pub tables_are_one : HaveOneMeaning
tables_are_one s t u h k =
    let c : k.connection ≡ h.connection = one_value _ k.is_connection h.is_connection in
    let a : k.chars ≡ h.chars = one_value _ k.are_chars h.are_chars in
    let n : k.unknown ≡ h.unknown =
    sym (same_read (unk_is_one h.connection.sizes h.chars.categories s.unk.now (Ok k.unknown) (Ok h.unknown)
    (unk_along k.connection h.connection k.chars h.chars s.unk.now (Ok k.unknown) c a k.are_unknown) h.are_unknown)) in
    let r : k.rows ≡ h.rows =
    same_read (lexicons_one h.connection.sizes 3 [] (lexicon_bytes s) (Ok k.rows) (Ok h.rows) (rows_along k.connection h.connection (lexicon_bytes s) (Ok k.rows) c k.are_rows) h.are_rows) in
    let l : k.lexicon ≡ h.lexicon = one_lexicon h.rows k.lexicon h.lexicon (subst (λ (rows : List Row). IsLexiconOf rows k.lexicon) r k.is_lexicon) h.is_lexicon in
    same_trans t (system_tables h.connection h.chars h.unknown h.lexicon) u h.tables
    (same_sym u (system_tables h.connection h.chars h.unknown h.lexicon)
    (subst (HaveSameMeaning u) (equal_parts k.connection h.connection k.chars h.chars k.unknown h.unknown k.lexicon h.lexicon c a n l) k.tables))

-- ---- the first error

-- the error that is reported for invalid sources
pub reported_for : (s : Sources) (fault reported : SourceFault) → IsCompilationFault s fault → IsMemoryOr reported (IsCompilationCause s reported) → IsReportedFor fault reported
reported_for s fault reported h (inl memory) = inr (inl memory)
reported_for s fault reported (inl h) (inr (inl (inl k))) = inl (fault_is_one s reported fault k h)
reported_for s fault reported (inl h) (inr (inl (inr k))) = absurd (no_tables s fault k.0 h k.1)
reported_for s fault reported (inr h) (inr (inl (inl k))) = absurd (no_tables s reported h.0 k h.1)
reported_for s fault reported (inr h) (inr (inl (inr k))) = inl (k.2.1 ∙ sym h.2.1)
reported_for s fault reported h (inr (inr k)) = inr (inr (ap (λ (f : SourceFault). f.kind) k.2.1))

pub few_or_large : (n m : ℕ) → n ≡ m → n < feature_bytes_end → feature_bytes_end ≤ m → ⊥
few_or_large n m e few large = omega (arith, e, few, large)

-- invalid sources have no tables with small features
pub not_both_of : (s : Sources) (t : Tables) (fault : SourceFault) → HaveTables s t → feature_bytes (system_tokens t) < feature_bytes_end → IsCompilationFault s fault → ⊥
not_both_of s t fault have few (inl h) = no_tables s fault t h have
not_both_of s t fault have few (inr h) =
    few_or_large (feature_bytes (system_tokens t)) (feature_bytes (system_tokens h.0)) (ap feature_bytes (same_tokens t h.0 (tables_are_one s t h.0 have h.1))) few h.2.0

-- invalid sources have no compilation
pub not_compiled : (s : Sources) (image : List ℕ) (entries skipped : ℕ) (fault : SourceFault) → IsCompilation s image entries skipped → IsCompilationFault s fault → ⊥
not_compiled s image entries skipped fault c h = not_both_of s (image_tables image) fault c.have c.compiled.few_features h

-- the result for invalid sources whose parts were read
pub rejected_for : (s : Sources) (parts : SourceParts) (fault : SourceFault) (r : Result Compiled SourceFault) → AreParts s parts → FitTogether parts → IsCompilationFault s fault
    → IfOk r (IsImageOf parts) → IfErr r (IsImageError parts) → IsRejectedFor fault r
rejected_for s parts fault (Ok c) h fit at image rejected = not_compiled s c.image.items c.entries c.skipped fault (is_compilation s parts c h fit image) at
rejected_for s parts fault (Err reported) h fit at image rejected = reported_for s fault reported at (compile_error s parts reported h fit rejected)
