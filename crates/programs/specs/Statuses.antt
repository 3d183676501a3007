-- The exit status of a program.
use Rattle.std.specs.Prelude.{◌≡◌, ◌⊎◌, ℕ, Result, Ok, Err}
use Rattle.std.specs.Borrow.{Bor}
use Rattle.command_lines.specs.Statuses.{exit_status as options_status}
use Rattle.command_lines.specs.declared.options_fault.OptionsFault.{OptionsFault}
use Rattle.command_lines.specs.declared.options_fault.OptionsFault.TheVariants.{Help}
use Rattle.mj_model.specs.declared.format_fault.FormatFault.{FormatFault}
use Rattle.mj_model.specs.declared.format_fault.FormatFault.TheVariants as format
use Rattle.mj_model.specs.declared.image_fault.ImageFault.{ImageFault}
use Rattle.mj_model.specs.declared.image_fault.ImageFault.TheVariants as image
use Rattle.mj_model.specs.declared.run_fault.RunFault.{RunFault}
use Rattle.mj_model.specs.declared.run_fault.RunFault.TheVariants as run
use Rattle.mj_model.specs.declared.source_fault.SourceKind.{SourceKind}
use Rattle.mj_model.specs.declared.source_fault.SourceKind.TheVariants as source
use Rattle.programs.specs.declared.fault.Fault.{Fault}
use Rattle.programs.specs.declared.fault.Fault.TheVariants.{File, Source, Sources, Image, Overlay, Format, Run, Output, Memory}

-- exit status for rejected input, a rejected format, a failed file or device, and out of memory
abbrev pub rejected : ℕ
rejected = 1

abbrev pub format_rejected : ℕ
format_rejected = 2

abbrev pub device_failed : ℕ
device_failed = 3

abbrev pub out_of_memory : ℕ
out_of_memory = 4

abbrev pub source_status : SourceKind → ℕ
source_status source.Memory = out_of_memory
source_status kind = rejected

abbrev pub image_status : ImageFault → ℕ
image_status image.Memory = out_of_memory
image_status fault = rejected

abbrev pub format_status : FormatFault → ℕ
format_status format.Memory = out_of_memory
format_status fault = format_rejected

abbrev pub run_status : RunFault → ℕ
run_status (run.Read line) = device_failed
run_status (run.Write sent) = device_failed
run_status (run.Memory line) = out_of_memory
run_status fault = rejected

-- the exit status of a program that ends with this error
abbrev pub status_of : Fault → ℕ
status_of (File path) = device_failed
status_of (Source path fault) = source_status fault.kind
status_of (Sources fault) = source_status fault.kind
status_of (Image path fault) = image_status fault
status_of (Overlay path fault) = rejected
status_of (Format fault) = format_status fault
status_of (Run fault) = run_status fault
status_of Output = device_failed
status_of Memory = out_of_memory

-- the exit status of a command line that gives no command: 0 for help that is printed
abbrev pub IsOptionsStatus : OptionsFault → ℕ → Type 0
IsOptionsStatus (Help text) status = (status ≡ 0) ⊎ (status ≡ device_failed)
IsOptionsStatus fault status = status ≡ options_status fault

-- the exit status of a command that ended with this result: 0, or that of its error
abbrev pub status_of_result : {E : Type 0} → (E → ℕ) → Result (Unit {0}) E → ℕ
status_of_result status (Ok done) = 0
status_of_result status (Err error) = status error

-- the exit status after a command line was parsed: the one of a result that the command ends with,
-- or of the error in the command line
abbrev pub IsCommandStatus : {C E : Type 0} → (E → ℕ) → (Bor C → Result (Unit {0}) E → Type 0) → Result C OptionsFault → ℕ → Type 0
IsCommandStatus status ends (Err fault) given = IsOptionsStatus fault given
IsCommandStatus {C} {E} status ends (Ok command) given =
    (shown : Bor C) × (result : Result (Unit {0}) E) × (shown.now ≡ command) × ends shown result × (given ≡ status_of_result status result)

-- the exit status of a program with these words on its command line, which `parses` relates to a
-- command
abbrev pub IsProgramStatus : {W C E : Type 0} → (E → ℕ) → (W → Result C OptionsFault → Type 0) → (Bor C → Result (Unit {0}) E → Type 0) → Result W OptionsFault → ℕ → Type 0
IsProgramStatus status parses ends (Err fault) given = IsOptionsStatus fault given
IsProgramStatus {W} {C} {E} status parses ends (Ok words) given = (parsed : Result C OptionsFault) × parses words parsed × IsCommandStatus status ends parsed given
