-- How the error of a compilation is reported.
use Rattle.std.specs.Prelude.{◌≡◌, ◌≢◌, ◌⊎◌, ℕ, ◌-◌, ◌<◌, ◌≤◌, Bool, true, List, Option, None, IfSome, string_bytes}
use Rattle.std.specs.Borrow.{Bor}
use Rattle.image_format.specs.ImageMeaning.{image_tables}
use Rattle.mj_model.specs.Tables.{User}
use Rattle.mj_model.specs.declared.overlay_fault.OverlayFault.TheVariants.{NotSystem}
use Rattle.mj_model.specs.declared.source_fault.SourceFault.{SourceFault}
use Rattle.mj_model.specs.declared.source_fault.SourceKind.TheVariants as kind
use Rattle.mj_model.specs.declared.source_fault.TheConstants.{CHAR_FILE, FIRST_LEXICON_FILE, MATRIX_FILE, NO_FILE, UNK_FILE}
use Rattle.programs.specs.Faults.{BelongsToNoFile, Names}
use Rattle.programs.specs.Paths.{IsFound, IsLexiconPath, IsPathOf}
use Rattle.programs.specs.declared.fault.Fault.{Fault}
use Rattle.programs.specs.declared.fault.Fault.TheVariants.{Memory, Overlay, Source, Sources}
use Rattle.programs.specs.declared.source_files.SourceFiles.{SourceFiles}
use Rattle.programs.specs.declared.whole_file.WholeFile.{WholeFile}
use Rattle.dictc_lib.specs.CompiledFiles.{IsErrorOfFiles, IsErrorOfLexicons, IsErrorOfMatrix}
use Rattle.dictc_lib.specs.SourceContents.{contents_of}
use Rattle.dictc_lib.specs.declared.compile_context.CompileContext.{CompileContext}
use Rattle.dictc_lib.specs.declared.compile_context.CompileContext.TheVariants.{Definitions, System}
use Rattle.dictc_lib.specs.declared.compile_error.CompileError.{CompileError}
use Rattle.dictc_lib.specs.declared.compile_error.CompileError.TheVariants.{Fault as ForFault, Reported}

-- ---- the path of an error

-- the path of the file with this number among the sources of a system dictionary
pub record IsSourcePath (matrix : List ℕ) (chars unk : WholeFile) (lexicons : List WholeFile) (number : ℕ) (path : Option (Bor (List ℕ))) : Type 0 where
  pub of_matrix : number ≡ MATRIX_FILE → IsFound matrix path
  pub of_chars : number ≡ CHAR_FILE → IsPathOf chars path
  pub of_unk : number ≡ UNK_FILE → IsPathOf unk path
  pub of_lexicon : FIRST_LEXICON_FILE ≤ number → number < NO_FILE → IsLexiconPath lexicons (number - FIRST_LEXICON_FILE) path
  pub of_no_file : number ≡ NO_FILE → path ≡ None

-- the path of the lexicon with this file number
pub record IsUserPath (lexicons : List WholeFile) (number : ℕ) (path : Option (Bor (List ℕ))) : Type 0 where
  pub of_lexicon : FIRST_LEXICON_FILE ≤ number → number < NO_FILE → IsLexiconPath lexicons (number - FIRST_LEXICON_FILE) path
  pub of_no_lexicon : (number < FIRST_LEXICON_FILE) ⊎ (number ≡ NO_FILE) → path ≡ None

-- the path of the file with this number in a context
abbrev pub IsPathIn : CompileContext → List WholeFile → ℕ → Option (Bor (List ℕ)) → Type 0
IsPathIn (Definitions matrix header chars unk) lexicons = IsSourcePath matrix.now chars.now unk.now lexicons
IsPathIn (System dict) lexicons = IsUserPath lexicons

-- the error is reported with this path, or without one if it belongs to no file
pub record IsErrorAt (path : Option (Bor (List ℕ))) (fault : SourceFault) (reported : Fault) : Type 0 where
  pub with_path : IfSome path (λ path. (BelongsToNoFile fault.kind → ⊥) → Names (λ name. Source name fault) path.now reported)
  pub without_path : (path ≡ None) ⊎ BelongsToNoFile fault.kind → reported ≡ Sources fault

-- ---- the reported error

-- the error belongs to a line of a lexicon
pub record IsOfALine (fault : SourceFault) : Type 0 where
  pub of_lexicon : FIRST_LEXICON_FILE ≤ fault.file
  pub of_a_file : fault.file ≢ NO_FILE
  pub of_line : 0 < fault.line
  pub of_an_entry : fault.kind ≢ kind.TooManyEntries
  pub not_memory : fault.kind ≢ kind.Memory

-- the error is reported alone with the path of its file, or among the errors of all lines if these
-- are requested and it is one of them
abbrev pub IsRejection : (Option (Bor (List ℕ)) → Type 0) → Bool → SourceFault → CompileError → Type 0
IsRejection IsPath all_faults fault Reported = (all_faults ≡ true) × IsOfALine fault
IsRejection IsPath all_faults fault (ForFault reported) =
    (all_faults ≡ true → IsOfALine fault → ⊥) × (path : Option (Bor (List ℕ))) × IsPath path × IsErrorAt path fault reported

-- the error has not been reported yet, and `IsOne` holds of it
abbrev pub IsForFault : (Fault → Type 0) → CompileError → Type 0
IsForFault IsOne Reported = ⊥
IsForFault IsOne (ForFault fault) = IsOne fault

-- the first error of `matrix.def` is reported with its path
abbrev pub IsMatrixRejection : List ℕ → SourceFiles → CompileError → Type 0
IsMatrixRejection matrix files =
    IsForFault (λ reported. (fault : SourceFault) × IsErrorOfMatrix matrix fault
    × (path : Option (Bor (List ℕ))) × IsFound (string_bytes files.matrix) path × IsErrorAt path fault reported)

-- the error of the other files is reported, or out of memory
abbrev pub IsRejectionOfFiles : List ℕ → SourceFiles → Bool → CompileError → Type 0
IsRejectionOfFiles matrix files all_faults error =
    (error ≡ ForFault Memory)
    ⊎ ((fault : SourceFault) × IsErrorOfFiles matrix files fault
    × IsRejection (IsSourcePath (string_bytes files.matrix) files.chars files.unk files.lexicons.items fault.file) all_faults fault error)

-- the error of a system dictionary's files is reported, or out of memory
abbrev pub IsRejectionOfSources : List ℕ → SourceFiles → Bool → CompileError → Type 0
IsRejectionOfSources matrix files all_faults error = IsMatrixRejection matrix files error ⊎ IsRejectionOfFiles matrix files all_faults error

-- the image at this path is reported as no system dictionary, unless an allocation failed
abbrev pub IsNotSystemAt : List ℕ → CompileError → Type 0
IsNotSystemAt dic = IsForFault (Names (λ name. Overlay name NotSystem) dic)

-- the error of a user dictionary's lexicons, or of its system dictionary, is reported
abbrev pub IsRejectionOfLexicons : List ℕ → List ℕ → List WholeFile → Bool → CompileError → Type 0
IsRejectionOfLexicons dic system lexicons all_faults error =
    (((image_tables system).kind ≡ User) × IsNotSystemAt dic error)
    ⊎ ((fault : SourceFault) × IsErrorOfLexicons system (contents_of lexicons) fault × IsRejection (IsUserPath lexicons fault.file) all_faults fault error)
