-- Dictionaries that are compiled from sources.
use Rattle.std.specs.Prelude.{◌≡◌, ℕ, ◌⊎◌, List, map, Result, Ok, Err}
use Rattle.std.specs.Borrow.{Bor}
use Rattle.mj_model.specs.declared.run_fault.RunFault.{RunFault}
use Rattle.mj_model.specs.declared.run_fault.RunFault.TheVariants as run
use Rattle.mj_model.specs.declared.source_fault.SourceKind.TheVariants.{ArrayFull}
use Rattle.mj_model.specs.declared.sources.Sources.{Sources}
use Rattle.dict_compile.specs.Compilation.{IsCompilation, IsUserCause, IsUserCompilation}
use Rattle.dict_compile.specs.SourceOverlays.{IsOfUser}
use Rattle.mj_model.specs.Tables.{Tables}

-- the bytes `dict` are the system dictionary of these sources
abbrev pub IsDictOf : Sources → List ℕ → Type 0
IsDictOf s dict = (entries : ℕ) × (skipped : ℕ) × IsCompilation s dict entries skipped

-- the bytes `dict` are the user dictionary of these lexicons, for the tables of a system dictionary
abbrev pub IsUserDictOf : Tables → List (List ℕ) → List ℕ → Type 0
IsUserDictOf system lexicons dict = (entries : ℕ) × (skipped : ℕ) × IsUserCompilation system lexicons dict entries skipped

-- the bytes of the lexicons
abbrev pub lexicons_of : List (Bor (List ℕ)) → List (List ℕ)
lexicons_of lexicons = map (λ (lexicon : Bor (List ℕ)). lexicon.now) lexicons

-- the bytes of the lexicons of each user dictionary
abbrev pub users_of : List (Bor (List (Bor (List ℕ)))) → List (List (List ℕ))
users_of users = map (λ (lexicons : Bor (List (Bor (List ℕ)))). lexicons_of lexicons.now) users

-- why user lexicons are rejected: memory ran out, or one of them has an error
abbrev pub IsUsersError : Tables → List (List (List ℕ)) → RunFault → Type 0
IsUsersError system users (run.UserSource i fault) = IsOfUser (IsUserCause system) system users i fault
IsUsersError system users (run.Memory line) = line ≡ 0
IsUsersError system users fault = ⊥

-- the error is a full double array
abbrev pub LacksCells : RunFault → Type 0
LacksCells (run.Source fault) = fault.kind ≡ ArrayFull
LacksCells (run.UserSource i fault) = fault.kind ≡ ArrayFull
LacksCells fault = ⊥

-- the reported error is `fault`, or memory ran out before the first read, or the double array is
-- full
abbrev pub IsReportedFor : RunFault → RunFault → Type 0
IsReportedFor fault reported = (reported ≡ fault) ⊎ (reported ≡ run.Memory 0) ⊎ LacksCells reported

-- the result is an error that reports `fault`, or that memory or cells ran out
abbrev pub IsRejectedFor : {T : Type 0} → RunFault → Result T RunFault → Type 0
IsRejectedFor fault (Ok x) = ⊥
IsRejectedFor fault (Err reported) = IsReportedFor fault reported
