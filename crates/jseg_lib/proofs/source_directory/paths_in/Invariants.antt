use Rattle.std.proofs.Common.{All, string_bytes}
use Rattle.jseg_lib.specs.Directories.{IsLexiconIn}
use Rattle.jseg_lib.proofs.source_directory.paths_in.Given as goal

abbrev pub invariant-loop-entry : goal.invariant-loop-entry
invariant-loop-entry g l = All (λ path. IsLexiconIn l.fn.dir (string_bytes path)) l.paths.items
