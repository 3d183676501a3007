-- The paths, codes and names of errors.
use Rattle.std.specs.Prelude.{◌≡◌, ◌⊎◌, ℕ, List, Contains, String, string_bytes, codes}
use Rattle.std.specs.declared.alloc.Global.{Global}
use Rattle.mj_model.specs.declared.image_fault.ImageFault.{ImageFault}
use Rattle.mj_model.specs.declared.source_fault.SourceKind.{SourceKind}
use Rattle.mj_model.specs.declared.source_fault.SourceKind.TheVariants as kind
use Rattle.mj_model.specs.FaultWords.{Words, source_words, format_words, run_words}
use Rattle.mj_model.specs.ImageFaultWords.{image_words, overlay_words}
use Rattle.std.specs.IoError.{error_kind}
use Rattle.std.specs.declared.io.ErrorKind.TheVariants.{OutOfMemory}
use Rattle.programs.specs.declared.reading.ReadFault.{ReadFault}
use Rattle.programs.specs.declared.reading.ReadFault.TheVariants.{Device, Endless, Memory as NoMemory}
use Rattle.programs.specs.declared.fault.Fault.{Fault}
use Rattle.programs.specs.declared.fault.Fault.TheVariants.{File, Source, Sources, Image, Overlay, Format, Run, Output, Memory}

-- errors that belong to no file: limits of the image as a whole, and allocation failures
abbrev pub BelongsToNoFile : SourceKind → Type 0
BelongsToNoFile fault = (fault ≡ kind.ArrayFull) ⊎ (fault ≡ kind.FeaturesTooLarge) ⊎ (fault ≡ kind.Memory)

-- the error names the file at `path`, unless it is an allocation failure
abbrev pub Names : (String Global → Fault) → List ℕ → Fault → Type 0
Names fault_at path reported = (reported ≡ Memory) ⊎ ((name : String Global) × (reported ≡ fault_at name) × (string_bytes name ≡ path))

-- the error names one of the files at `paths`, unless it is an allocation failure
abbrev pub NamesOneOf : List (String Global) → Fault → Type 0
NamesOneOf paths reported = (reported ≡ Memory) ⊎ ((path : String Global) × Contains paths path × Names File (string_bytes path) reported)

-- the error names the image at `path`, whose file can't be read or which is rejected
abbrev pub NamesFileOrImage : List ℕ → Fault → Type 0
NamesFileOrImage path reported = Names File path reported ⊎ ((fault : ImageFault) × Names (λ name. Image name fault) path reported)

-- reading failed because an allocation failed
abbrev pub IsForMemory : ReadFault → Type 0
IsForMemory (Device error) = error_kind error ≡ OutOfMemory
IsForMemory Endless = ⊥
IsForMemory NoMemory = Unit {0}

-- the code and the name of an error, as they are printed; a carried error gives its own
abbrev pub fault_words : Fault → Words
fault_words (File path) = record { code = codes "F1"; name = codes "File" }
fault_words (Source path fault) = source_words fault.kind
fault_words (Sources fault) = source_words fault.kind
fault_words (Image path fault) = image_words fault
fault_words (Overlay path fault) = overlay_words fault
fault_words (Format fault) = format_words fault
fault_words (Run fault) = run_words fault
fault_words Output = record { code = codes "F2"; name = codes "Output" }
fault_words Memory = record { code = codes "Memory"; name = codes "Memory" }
