-- The exit status of a compilation without an image.
use Rattle.std.specs.Prelude.{ℕ}
use Rattle.programs.specs.Statuses.{rejected, status_of}
use Rattle.dictc_lib.specs.declared.compile_error.CompileError.{CompileError}
use Rattle.dictc_lib.specs.declared.compile_error.CompileError.TheVariants.{Fault, Reported}

-- the status of the error, or that of rejected sources if their errors were reported
abbrev pub status_of_end : CompileError → ℕ
status_of_end (Fault fault) = status_of fault
status_of_end Reported = rejected
