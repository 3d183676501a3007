-- A lexicon that is added to earlier ones: its entries are appended, or its first error is
-- returned.
use Rattle.std.specs.Prelude.{◌≡◌, ℕ, List, ◌++◌, length, Some, None, Ok, Err, ◌⊎◌}
use Rattle.mj_model.specs.declared.source_fault.SourceFault.{SourceFault}
use Rattle.mj_model.specs.Dictionary.{first_outside}
use Rattle.mj_model.specs.Lexicon.{Reading, IsLexicon}
use Rattle.lex_source.specs.Lexicons.{LexiconRows}

-- the lines of the lexicon are accepted with ids within the sizes and appended to the old rows, and
-- `skipped` lines are skipped
pub record AddsLexicon (file : ℕ) (bytes : List ℕ) (old new : LexiconRows) (skipped : ℕ) : Type 0 where
  pub lines : Reading
  pub reads : IsLexicon file (length old.rows) bytes (Ok lines)
  pub within : first_outside file old.sizes lines.rows ≡ None
  pub sizes : new.sizes ≡ old.sizes
  pub added : new.rows ≡ old.rows ++ lines.rows
  pub skips : lines.skipped ≡ skipped

-- the first error of the lexicon's lines, or else of their ids
abbrev pub IsLexiconFault : ℕ → List ℕ → LexiconRows → SourceFault → Type 0
IsLexiconFault file bytes old fault =
    IsLexicon file (length old.rows) bytes (Err fault)
    ⊎ ((lines : Reading) × IsLexicon file (length old.rows) bytes (Ok lines) × (first_outside file old.sizes lines.rows ≡ Some fault))
