-- The words of a line up to its comment.
use Rattle.std.specs.Prelude.{ℕ, not, List, take_while}
use Rattle.mj_model.specs.CharDef.{starts_comment}

abbrev pub before_comment : List (List ℕ) → List (List ℕ)
before_comment words = take_while (λ word. not (starts_comment word)) words
