-- The errors that may be reported for invalid sources.
use Rattle.std.specs.Prelude.{◌≡◌, ◌⊎◌, ℕ, List, map, Result, Ok, Err}
use Rattle.std.specs.Borrow.{Bor}
use Rattle.mj_model.specs.declared.source_fault.SourceFault.{SourceFault}
use Rattle.mj_model.specs.declared.source_fault.SourceKind.TheVariants.{ArrayFull, Memory}
use Rattle.dict_compile.specs.declared.compiled.Compiled.{Compiled}
use Rattle.dict_compile.specs.declared.fault.CompileUserFault.{CompileUserFault}
use Rattle.dict_compile.specs.declared.fault.CompileUserFault.TheVariants.{NotSystem, Source}

-- the reported error is `fault`, out of memory, or too many cells
abbrev pub IsReportedFor : SourceFault → SourceFault → Type 0
IsReportedFor fault reported = (reported ≡ fault) ⊎ (reported.kind ≡ Memory) ⊎ (reported.kind ≡ ArrayFull)

-- the compilation fails, and reports `fault` or a lack of memory or cells
abbrev pub IsRejectedFor : {T : Type 0} → SourceFault → Result T SourceFault → Type 0
IsRejectedFor fault (Ok x) = ⊥
IsRejectedFor fault (Err reported) = IsReportedFor fault reported

-- the compilation of a user dictionary fails, and reports `fault` of its lexicons or a lack of
-- memory or cells
abbrev pub IsUserRejectedFor : SourceFault → Result Compiled CompileUserFault → Type 0
IsUserRejectedFor fault (Ok compiled) = ⊥
IsUserRejectedFor fault (Err NotSystem) = ⊥
IsUserRejectedFor fault (Err (Source reported)) = IsReportedFor fault reported

-- the bytes of lexicons
abbrev pub lexicons_of : List (Bor (List ℕ)) → List (List ℕ)
lexicons_of lexicons = map (λ (lexicon : Bor (List ℕ)). lexicon.now) lexicons
