-- Runs that end before their first read.
use Rattle.std.proofs.Common.{◌≡◌, ℕ, List, [], refl, sym, ap, ◌∙◌, subst, ◌⊎◌, inl, inr, arith}
use Rattle.std.specs.Prelude.{Result, Ok, Err}
use Rattle.mj_model.specs.Counts.{ReaderState, WriterState}
use Rattle.mj_model.specs.declared.run_fault.RunFault.{RunFault}
use Rattle.mj_model.specs.declared.run_fault.RunFault.TheVariants as run
use Rattle.mj_model.specs.declared.source_fault.SourceFault.{SourceFault}
use Rattle.mj_model.specs.declared.source_fault.SourceKind.TheVariants.{Memory}
use Rattle.mj_model.specs.declared.sources.Sources.{Sources}
use Rattle.dict_compile.specs.Compilation.{HaveUserTables, IsCompilationCause, IsUserFault}
use Rattle.mj_model.specs.declared.matrix_sizes.MatrixSizes.{MatrixSizes}
use Rattle.mj_model.specs.Dictionary.{AreLexicons}
use Rattle.mj_model.specs.FirstFault.{IsMemoryOr}
use Rattle.image_format.specs.ImageMeaning.{image_tables}
use Rattle.dict_compile.specs.SourceOverlays.{CompileTo, IsOfUser, IsUsersCause, IsUsersFault}
use Rattle.mj_model.specs.SourceTables.{HaveSameMeaning}
use Rattle.mj_model.specs.Tables.{Tables}
use Rattle.dict_compile.specs.Results.{IsReportedFor as IsCompileReportedFor}
use Rattle.dict_compile.proofs.FirstFaults.{not_both_of, tables_are_one}
use Rattle.line_stream.specs.Runs.{RunOutcome, StreamOutcome}
use Rattle.line_stream.specs.LineErrors.{run_fault}
use Rattle.line_stream.specs.declared.line_fault.StreamFault.{StreamFault}
use Rattle.line_stream.specs.declared.line_fault.StreamFault.TheVariants as stream
use Rattle.line_stream.specs.declared.line_fault.LineError.TheVariants as error
use Rattle.line_stream.specs.declared.line_fault.LineFault.TheVariants.{TooLong, NotUtf8}
use Rattle.line_stream.specs.declared.line_fault.LineFault.{LineFault}
use Rattle.segmenter.specs.SourceFaults.{IsRunFaultFor}
use Rattle.segmenter.specs.SourceRuns.{EndedBeforeReading}
use Rattle.segmenter.specs.SourceDicts.{IsDictOf, IsReportedFor, IsUsersError, LacksCells}

abbrev error_or : RunFault → Result ℕ RunFault → RunFault
error_or other (Ok n) = other
error_or other (Err fault) = fault

pub same_end : (f g : RunFault) → ◌≡◌ {A = Result ℕ RunFault} (Err f) (Err g) → f ≡ g
same_end f g e = ap (error_or f) e

-- ---- an error of the sources

abbrev fault_or : SourceFault → RunFault → SourceFault
fault_or other (run.Source fault) = fault
fault_or other (run.UserSource i fault) = fault
fault_or other (run.Read line) = other
fault_or other (run.Write sent) = other
fault_or other (run.NotUtf8 line) = other
fault_or other (run.TooLong line) = other
fault_or other (run.InputTooLong line) = other
fault_or other (run.Memory line) = other

source_by : (s : Sources) (fault reported : SourceFault) (end : RunFault) → ((end ≡ run.Memory 0) × (fault.kind ≡ Memory)) ⊎ ((end ≡ run.Source fault) × (fault.kind ≡ Memory → ⊥)) → IsMemoryOr fault (IsCompilationCause s fault)
    → end ≡ run.Source reported → IsCompilationCause s reported
source_by s fault reported end (inl (memory, want)) r e = absurd (let clash : run.Memory 0 ≡ run.Source reported = sym memory ∙ e in cc)
source_by s fault reported end (inr is) (inl memory) e = absurd (is.1 memory)
source_by s fault reported end (inr is) (inr cause) e = let same : run.Source fault ≡ run.Source reported = sym is.0 ∙ e in subst (IsCompilationCause s) (ap (fault_or fault) same) cause

pub source_reported : (s : Sources) (fault reported : SourceFault) (end : RunFault) → IsRunFaultFor run.Source fault end → IsMemoryOr fault (IsCompilationCause s fault)
    → ◌≡◌ {A = Result ℕ RunFault} (Err end) (Err (run.Source reported)) → IsCompilationCause s reported
source_reported s fault reported end ends r e = source_by s fault reported end ends.either r (same_end end (run.Source reported) e)

no_user_by : (fault reported : SourceFault) (i : ℕ) (end : RunFault) → ((end ≡ run.Memory 0) × (fault.kind ≡ Memory)) ⊎ ((end ≡ run.Source fault) × (fault.kind ≡ Memory → ⊥)) → end ≡ run.UserSource i reported → ⊥
no_user_by fault reported i end (inl (memory, want)) e = let clash : run.Memory 0 ≡ run.UserSource i reported = sym memory ∙ e in cc
no_user_by fault reported i end (inr is) e = let clash : run.Source fault ≡ run.UserSource i reported = sym is.0 ∙ e in cc

-- the error is not reported for a user dictionary
pub source_of_no_user : (fault reported : SourceFault) (i : ℕ) (end : RunFault) → IsRunFaultFor run.Source fault end → ◌≡◌ {A = Result ℕ RunFault} (Err end) (Err (run.UserSource i reported)) → ⊥
source_of_no_user fault reported i end ends e = no_user_by fault reported i end ends.either (same_end end (run.UserSource i reported) e)

first_by : (fault first : SourceFault) (end : RunFault) → ((end ≡ run.Memory 0) × (fault.kind ≡ Memory)) ⊎ ((end ≡ run.Source fault) × (fault.kind ≡ Memory → ⊥)) → IsCompileReportedFor first fault → IsReportedFor (run.Source first) end
first_by fault first end (inl (memory, want)) t = inr (inl memory)
first_by fault first end (inr is) (inl same) = inl (is.0 ∙ ap run.Source same)
first_by fault first end (inr is) (inr (inl memory)) = absurd (is.1 memory)
first_by fault first end (inr is) (inr (inr full)) = inr (inr (subst LacksCells (sym is.0) full))

pub source_first : (fault first : SourceFault) (end : RunFault) → IsRunFaultFor run.Source fault end → IsCompileReportedFor first fault → IsReportedFor (run.Source first) end
source_first fault first end ends t = first_by fault first end ends.either t

compiled_by : (s : Sources) (t : Tables) (fault : SourceFault) (first end : RunFault) → CompileTo s t → ((end ≡ run.Memory 0) × (fault.kind ≡ Memory)) ⊎ ((end ≡ run.Source fault) × (fault.kind ≡ Memory → ⊥))
    → IsMemoryOr fault (IsCompilationCause s fault) → IsReportedFor first end
compiled_by s t fault first end c (inl (memory, want)) r = inr (inl memory)
compiled_by s t fault first end c (inr is) (inl memory) = absurd (is.1 memory)
compiled_by s t fault first end c (inr is) (inr (inl cause)) = absurd (not_both_of s t fault c.have c.few_features cause)
compiled_by s t fault first end c (inr is) (inr (inr full)) = inr (inr (subst LacksCells (sym is.0) (ap (λ (f : SourceFault). f.kind) full.2.1)))

-- if the sources compile, an error reported in place of a user dictionary's is that memory or cells
-- ran out
pub source_before_users : (s : Sources) (t : Tables) (fault : SourceFault) (first end : RunFault) → CompileTo s t → IsRunFaultFor run.Source fault end
    → IsMemoryOr fault (IsCompilationCause s fault) → IsReportedFor first end
source_before_users s t fault first end c ends r = compiled_by s t fault first end c ends.either r

early_by : (fault : SourceFault) (end : RunFault) → ((end ≡ run.Memory 0) × (fault.kind ≡ Memory)) ⊎ ((end ≡ run.Source fault) × (fault.kind ≡ Memory → ⊥)) → EndedBeforeReading (Err end)
early_by fault end (inl (memory, want)) = subst (λ (e : RunFault). EndedBeforeReading (Err e)) (sym memory) refl
early_by fault end (inr is) = subst (λ (e : RunFault). EndedBeforeReading (Err e)) (sym is.0) tt

pub source_is_early : (fault : SourceFault) (end : RunFault) → IsRunFaultFor run.Source fault end → EndedBeforeReading (Err end)
source_is_early fault end ends = early_by fault end ends.either

-- ---- an error of user lexicons

pub users_are_early : (system : Tables) (users : List (List (List ℕ))) (end : RunFault) → IsUsersError system users end → EndedBeforeReading (Err end)
users_are_early system users (run.Source fault) r = absurd r
users_are_early system users (run.UserSource i fault) r = tt
users_are_early system users (run.Read line) r = absurd r
users_are_early system users (run.Write sent) r = absurd r
users_are_early system users (run.NotUtf8 line) r = absurd r
users_are_early system users (run.TooLong line) r = absurd r
users_are_early system users (run.InputTooLong line) r = absurd r
users_are_early system users (run.Memory line) r = r

pub users_report_no_source : (system : Tables) (users : List (List (List ℕ))) (end : RunFault) (reported : SourceFault) → IsUsersError system users end
    → ◌≡◌ {A = Result ℕ RunFault} (Err end) (Err (run.Source reported)) → ⊥
users_report_no_source system users end reported r e = subst (IsUsersError system users) (same_end end (run.Source reported) e) r

compile_to : (s : Sources) (dict : List ℕ) → IsDictOf s dict → CompileTo s (image_tables dict)
compile_to s dict d = record { have = d.2.have; few_features = d.2.compiled.few_features }

pub users_reported : (s : Sources) (dict : List ℕ) (users : List (List (List ℕ))) (end : RunFault) (i : ℕ) (reported : SourceFault) → IsDictOf s dict → IsUsersError (image_tables dict) users end
    → ◌≡◌ {A = Result ℕ RunFault} (Err end) (Err (run.UserSource i reported)) → IsUsersCause s users i reported
users_reported s dict users end i reported d r e =
    (image_tables dict, compile_to s dict d, subst (IsUsersError (image_tables dict) users) (same_end end (run.UserSource i reported) e) r)

-- ---- tables of the same kind and sizes accept the same user lexicons

fault_along : (t u : Tables) (lexicons : List (List ℕ)) (fault : SourceFault) → t.kind ≡ u.kind → t.sizes ≡ u.sizes → IsUserFault t lexicons fault → IsUserFault u lexicons fault
fault_along t u lexicons fault k z (s, inl h) = (sym k ∙ s, inl (subst (λ (sizes : MatrixSizes). AreLexicons sizes 3 [] lexicons (Err fault)) z h))
fault_along t u lexicons fault k z (s, inr h) = (sym k ∙ s, inr (h.0, subst (λ (sizes : MatrixSizes). HaveUserTables sizes lexicons h.0) z h.1, h.2))

along : (t u : Tables) (users : List (List (List ℕ))) (i : ℕ) (fault : SourceFault) → t.kind ≡ u.kind → t.sizes ≡ u.sizes → IsOfUser (IsUserFault t) t users i fault → IsOfUser (IsUserFault u) u users i fault
along t u users i fault k z h = record {
  lexicons = h.lexicons;
  there = h.there;
  fault_is = fault_along t u h.lexicons fault k z h.fault_is;
  before_compile = λ j others less e.
      let c = h.before_compile j others less e in
      (c.0, record { have = subst (λ (s : MatrixSizes). HaveUserTables s others c.0) z c.1.have; few_features = c.1.few_features });
}

-- the first error of the user lexicons is the first error for the image's tables
pub users_over : (s : Sources) (dict : List ℕ) (users : List (List (List ℕ))) (i : ℕ) (fault : SourceFault) → IsDictOf s dict → IsUsersFault s users i fault
    → IsOfUser (IsUserFault (image_tables dict)) (image_tables dict) users i fault
users_over s dict users i fault d h =
    let same : HaveSameMeaning h.0 (image_tables dict) = tables_are_one s h.0 (image_tables dict) h.1.have d.2.have in
    along h.0 (image_tables dict) users i fault same.kind same.sizes h.2

-- ---- a run that reached its loop did not end before reading

module _ (T : List ℕ → Result (List ℕ) LineFault → Type 0) (bound : ℕ) (from to : ReaderState) (before after : WriterState) where
  stream_not_early : (fault : StreamFault) → StreamOutcome T bound from to before after (Err fault) → EndedBeforeReading (Err (run_fault fault)) → ⊥
  stream_not_early (stream.Read line) ran early = early
  stream_not_early (stream.Write sent) ran early = early
  stream_not_early (stream.Line line (error.Bad TooLong)) ran early = early
  stream_not_early (stream.Line line (error.Bad NotUtf8)) ran early = early
  stream_not_early (stream.Line line error.Memory) ran early = let number = ran.ends.0.number in absurd (omega (arith, number, early))
  stream_not_early (stream.InputTooLong line) ran early = early

  pub not_early : (result : Result ℕ RunFault) → RunOutcome T bound from to before after result → EndedBeforeReading result → ⊥
  not_early (Ok lines) ran early = early
  not_early (Err reported) ran early = stream_not_early ran.0 ran.2 (subst (λ (e : RunFault). EndedBeforeReading (Err e)) ran.1 early)
