-- Rows whose ids lie outside a connection table.
use Rattle.std.specs.Prelude.{◌≡◌, ◌≤◌, ℕ, Bool, not, List, [], map, filter, flat_map, Option, Some, None}
use Rattle.std.specs.List.{AllByRecursion}
use Rattle.mj_model.specs.declared.matrix_sizes.MatrixSizes.{MatrixSizes}
use Rattle.mj_model.specs.Connection.{is_pair}
use Rattle.mj_model.specs.Lists.{IsMember}
use Rattle.mj_model.specs.Lexicon.{Row}

abbrev pub is_outside : MatrixSizes → Row → Bool
is_outside sizes row = not (is_pair sizes row.right row.left)

-- the lines of the rows whose ids lie outside the sizes
abbrev pub lines_outside : MatrixSizes → List Row → List ℕ
lines_outside sizes rows = map (λ (row : Row). row.line) (filter (is_outside sizes) rows)

-- the lines of the rows of all categories whose ids lie outside the sizes
abbrev pub all_lines_outside : MatrixSizes → List (List Row) → List ℕ
all_lines_outside sizes unknown = flat_map (lines_outside sizes) unknown

-- n is the least of the numbers
pub record IsLeast (numbers : List ℕ) (n : ℕ) : Type 0 where
  pub is_one : IsMember numbers n
  pub none_below : AllByRecursion (λ m. n ≤ m) numbers

-- the least of the numbers, if there are any
abbrev pub IsLeastOf : List ℕ → Option ℕ → Type 0
IsLeastOf numbers None = numbers ≡ []
IsLeastOf numbers (Some n) = IsLeast numbers n
