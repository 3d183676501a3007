-- The view of the iterator over the keys that are prefixes of a text.
use Rattle.std.specs.Prelude.{ℕ, List}
use Rattle.mj_model.specs.CellMap.{Cell}

-- the remaining hits by length and value, the cells, the text, and the number of bytes walked over
pub record HitsView : Type 0 where
  pub hits : List (ℕ × ℕ)
  pub cells : List Cell
  pub text : List ℕ
  pub walked : ℕ
