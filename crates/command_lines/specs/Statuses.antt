-- The exit status of a program that runs no command.
use Rattle.std.specs.Prelude.{ℕ}
use Rattle.command_lines.specs.declared.options_fault.OptionsFault.{OptionsFault}
use Rattle.command_lines.specs.declared.options_fault.OptionsFault.TheVariants.{Help, Bad, Memory}

-- the exit status for help, for an invalid command line, and for an allocation failure
abbrev pub exit_status : OptionsFault → ℕ
exit_status (Help text) = 0
exit_status (Bad text) = 2
exit_status Memory = 4
