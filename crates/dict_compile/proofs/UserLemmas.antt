-- The user image of parsed lexicons is their compilation; lexicons compile, or have exactly one
-- first error.
use Rattle.std.proofs.Common.{◌≡◌, ℕ, ◌≤◌, ◌<◌, List, [], length, refl, sym, ap, ◌∙◌, subst, arith, inl, inr}
use Rattle.std.specs.Prelude.{false, Result, Ok, Err, IfOk, IfErr}
use Rattle.std.proofs.lemmas.List.Sorted.{length_permutation}
use Rattle.mj_model.specs.declared.source_fault.SourceFault.{SourceFault}
use Rattle.dict_compile.specs.Compilation.{HaveUserTables, IsUserCompilation, IsUserCause, IsUserFault}
use Rattle.mj_model.specs.Lexicon.{SkipLines, Row}
use Rattle.image_format.specs.ImageBounds.{feature_bytes, feature_bytes_end, lexicon_tokens}
use Rattle.mj_model.specs.declared.matrix_sizes.MatrixSizes.{MatrixSizes}
use Rattle.mj_model.specs.Dictionary.{AreLexicons, IsInOrder, IsLexiconOf}
use Rattle.mj_model.specs.FirstFault.{IsMemoryOr}
use Rattle.image_format.specs.ImageMeaning.{image_lexicon, image_tables}
use Rattle.mj_model.specs.Tables.{Tables, Lexeme, Token, User}
use Rattle.image_format.specs.ImageBytes.{section}
use Rattle.image_writer.specs.Compact.{AreCellsFor, features_once}
use Rattle.dict_compile.specs.declared.lexicons.LexiconsRead.{LexiconsRead}
use Rattle.image_writer.specs.Entries.{lexemes_of, tokens_of}
use Rattle.dict_compile.specs.Results.{IsRejectedFor, IsReportedFor}
use Rattle.dict_compile.specs.UserImages.{IsSystemOf, IsUserImageOf, IsUserImageError}
use Rattle.dict_compile.specs.declared.compiled.Compiled.{Compiled}
use Rattle.dict_compile.specs.declared.fault.CompileUserFault.{CompileUserFault}
use Rattle.dict_compile.specs.declared.fault.CompileUserFault.TheVariants.{NotSystem, Source}
use Rattle.mj_model.specs.Overlays.{is_user}
use Rattle.dict_compile.proofs.KindLemmas.{a_system}
use Rattle.dict_compile.proofs.CompilationLemmas.{numbered_length}
use Rattle.dict_compile.proofs.FirstFaults.{few_or_large}
use Rattle.dict_compile.proofs.OrderLemmas.{one_lexicon}
use Rattle.dict_compile.proofs.SourceFaults.{both, lexicons_one, same_error, same_read}
use Rattle.dict_compile.proofs.TokenLemmas.{lexicon_tokens_are}

module _ (sizes : MatrixSizes) (system : Tables) (is : IsSystemOf sizes system) (lexicons : List (List ℕ)) where
  as_read : (rows : List Row) → AreLexicons sizes 3 [] lexicons (Ok rows) → AreLexicons system.sizes 3 [] lexicons (Ok rows)
  as_read rows h = subst (λ (s : MatrixSizes). AreLexicons s 3 [] lexicons (Ok rows)) (sym is.sizes_are) h

  module _ (read : LexiconsRead) (kept : read.lexicon.sizes ≡ sizes) (h : AreLexicons sizes 3 [] lexicons (Ok read.lexicon.rows)) where
    have_user : (t : Tables) (ordered : List Row) → IsInOrder read.lexicon.rows ordered → t.kind ≡ User → t.sizes ≡ sizes → t.lexicon ≡ lexemes_of ordered → HaveUserTables system.sizes lexicons t
    have_user t ordered o kind same lexicon = record {
      kind = kind;
      sizes_kept = same ∙ sym is.sizes_are;
      rows = read.lexicon.rows;
      are_rows = as_read read.lexicon.rows h;
      is_lexicon = (ordered, o, lexicon);
    }

    pub user_compilation : (c : Compiled) → SkipLines lexicons read.skipped → IsUserImageOf read c → IsUserCompilation system lexicons c.image.items c.entries c.skipped
    user_compilation c skips i =
        let tokens : lexicon_tokens (image_lexicon c.image.items) ≡ tokens_of i.ordered = ap lexicon_tokens i.image.lexicon ∙ lexicon_tokens_are i.ordered in
        let b = length_permutation read.lexicon.rows i.ordered i.in_order.same_rows in
        let n = numbered_length 0 i.ordered in
        let d = ap length i.image.lexicon in
        record {
          is_system = is.kind;
          have = have_user (image_tables c.image.items) i.ordered i.in_order i.image.kind (i.image.sizes_kept ∙ kept) i.image.lexicon;
          compiled = record {
            intact = i.image.intact;
            layout = i.image.layout;
            few_features = subst (λ (ts : List Token). feature_bytes ts < feature_bytes_end) (sym tokens) i.image.few_features;
            cells = subst (λ (lexicon : List Lexeme). AreCellsFor lexicon (section c.image.items 5)) (sym i.image.lexicon) i.image.cells;
            features = subst (λ (ts : List Token). section c.image.items 8 ≡ features_once ts) (sym tokens) i.image.features;
            all_entries = i.entries ∙ omega (arith, b, n, d);
            all_skipped = subst (SkipLines lexicons) (sym i.skipped) skips;
          };
        }

    -- the tables of the rows in order
    user_tables : List Row → Tables
    user_tables ordered = record system { kind = User; lexicon = lexemes_of ordered }

    have_rows : (ordered : List Row) → IsInOrder read.lexicon.rows ordered → HaveUserTables system.sizes lexicons (user_tables ordered)
    unfolding user_tables
    have_rows ordered o = have_user (user_tables ordered) ordered o refl is.sizes_are refl

    pub user_error : (fault : SourceFault) → IsUserImageError read fault → IsMemoryOr fault (IsUserCause system lexicons fault)
    unfolding user_tables
    user_error fault (inl memory) = inl memory
    user_error fault (inr (inr full)) = let f = full.0 in inr (inr (is.kind, user_tables f.0, have_rows f.0 f.1, (f.2, full.1)))
    user_error fault (inr (inl large)) =
        let l = large.0 in
        inr (inl (
          is.kind,
          inr (
            user_tables l.0,
            have_rows l.0 l.1,
            (subst (λ (ts : List Token). feature_bytes_end ≤ feature_bytes ts) (sym (lexicon_tokens_are l.0)) l.2, large.1),
          ),
        ))

  pub lexicons_rejected : (fault : SourceFault) → IsMemoryOr fault (AreLexicons sizes 3 [] lexicons (Err fault)) → IsMemoryOr fault (IsUserCause system lexicons fault)
  lexicons_rejected fault (inl memory) = inl memory
  lexicons_rejected fault (inr h) = inr (inl (is.kind, inl (subst (λ (s : MatrixSizes). AreLexicons s 3 [] lexicons (Err fault)) (sym is.sizes_are) h)))

-- ---- the first error

module _ (system : Tables) (lexicons : List (List ℕ)) where
  same_rows : (t : Tables) → HaveUserTables system.sizes lexicons t → (u : Tables) → HaveUserTables system.sizes lexicons u → t.lexicon ≡ u.lexicon
  same_rows t h u k =
      let r : h.rows ≡ k.rows = same_read (lexicons_one system.sizes 3 [] lexicons (Ok h.rows) (Ok k.rows) h.are_rows k.are_rows) in
      one_lexicon k.rows t.lexicon u.lexicon (subst (λ (rows : List Row). IsLexiconOf rows t.lexicon) r h.is_lexicon) k.is_lexicon

  no_user : (fault : SourceFault) (t : Tables) → AreLexicons system.sizes 3 [] lexicons (Err fault) → HaveUserTables system.sizes lexicons t → ⊥
  no_user fault t h k = both (lexicons_one system.sizes 3 [] lexicons (Err fault) (Ok k.rows) h k.are_rows)

  pub user_reported_for : (fault reported : SourceFault) → IsUserFault system lexicons fault → IsMemoryOr reported (IsUserCause system lexicons reported) → IsReportedFor fault reported
  user_reported_for fault reported h (inl memory) = inr (inl memory)
  user_reported_for fault reported (s, inl h) (inr (inl (r, inl k))) = inl (same_error (lexicons_one system.sizes 3 [] lexicons (Err reported) (Err fault) k h))
  user_reported_for fault reported (s, inl h) (inr (inl (r, inr k))) = absurd (no_user fault k.0 h k.1)
  user_reported_for fault reported (s, inr h) (inr (inl (r, inl k))) = absurd (no_user reported h.0 k h.1)
  user_reported_for fault reported (s, inr h) (inr (inl (r, inr k))) = inl (k.2.1 ∙ sym h.2.1)
  user_reported_for fault reported h (inr (inr k)) = inr (inr (ap (λ (f : SourceFault). f.kind) k.3.1))

  -- invalid lexicons have no tables with small features
  pub not_both_for : (t : Tables) (fault : SourceFault) → HaveUserTables system.sizes lexicons t → feature_bytes (lexicon_tokens t.lexicon) < feature_bytes_end → IsUserFault system lexicons fault → ⊥
  not_both_for t fault have few (s, inl h) = no_user fault t h have
  not_both_for t fault have few (s, inr h) =
      few_or_large (feature_bytes (lexicon_tokens t.lexicon)) (feature_bytes (lexicon_tokens h.0.lexicon))
      (ap (λ (l : List Lexeme). feature_bytes (lexicon_tokens l)) (same_rows t have h.0 h.1)) few h.2.0

  pub user_not_compiled : (image : List ℕ) (entries skipped : ℕ) (fault : SourceFault) → IsUserCompilation system lexicons image entries skipped → IsUserFault system lexicons fault → ⊥
  user_not_compiled image entries skipped fault c h = not_both_for (image_tables image) fault c.have c.compiled.few_features h

-- the result for invalid lexicons that were read
pub user_rejected_for : (sizes : MatrixSizes) (system : Tables) (is : IsSystemOf sizes system) (lexicons : List (List ℕ)) (read : LexiconsRead) (kept : read.lexicon.sizes ≡ sizes)
    → AreLexicons sizes 3 [] lexicons (Ok read.lexicon.rows) → SkipLines lexicons read.skipped → (fault : SourceFault) (r : Result Compiled SourceFault) → IsUserFault system lexicons fault
    → IfOk r (IsUserImageOf read) → IfErr r (IsUserImageError read) → IsRejectedFor fault r
user_rejected_for sizes system is lexicons read kept h skips fault (Ok c) at image rejected = user_not_compiled system lexicons c.image.items c.entries c.skipped fault (user_compilation sizes system is lexicons read kept h c skips image) at
user_rejected_for sizes system is lexicons read kept h skips fault (Err reported) at image rejected = user_reported_for system lexicons fault reported at (user_error sizes system is lexicons read kept h reported rejected)

-- ---- the sizes of a system dictionary

pub is_system_of : (system : Tables) (sizes : MatrixSizes) → false ≡ is_user system.kind → sizes ≡ system.sizes → IsSystemOf sizes system
is_system_of system sizes kind same = record { kind = a_system system.kind (sym kind); sizes_are = sym same }

abbrev reported_or : SourceFault → Result Compiled CompileUserFault → SourceFault
reported_or other (Ok compiled) = other
reported_or other (Err NotSystem) = other
reported_or other (Err (Source fault)) = fault

-- equal results report equal errors
pub same_reported : {f g : SourceFault} → ◌≡◌ {A = Result Compiled CompileUserFault} (Err (Source f)) (Err (Source g)) → f ≡ g
same_reported {f} {g} e = ap (reported_or f) e
