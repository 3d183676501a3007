-- The explanations of error codes.
use Rattle.std.specs.Prelude.{ℕ, ◌⊎◌, List}
use Rattle.command_lines.specs.Words.{IsSameWord}
use Rattle.command_lines.specs.declared.explanation.Explanation.{Explanation}

-- the word is the code or the name of the error, in upper or lower case
abbrev pub IsCalled : Explanation → List ℕ → Type 0
IsCalled one code_or_name = IsSameWord one.code.now code_or_name ⊎ IsSameWord one.name.now code_or_name
