-- The best path of a text over dictionaries, and the cost of a path.
use Rattle.std.specs.Prelude.{ℕ, ℤ, List}
use Rattle.mj_model.specs.declared.word.Word.{Word}
use Rattle.mj_model.specs.Best.{IsBestPath}
use Rattle.mj_model.specs.Cost.{path_cost}
use Rattle.mj_model.specs.Paths.{IsPath}
use Rattle.mj_model.specs.Tables.{Overlay}
use Rattle.mj_model.specs.Words.{words}

-- the words are a path of the text
abbrev pub IsPathOver : Overlay → List ℕ → List Word → Type 0
IsPathOver o text path = (to : ℕ) × IsPath (words o text) path to

-- the words are the best path of the text
abbrev pub IsBestPathOver : Overlay → List ℕ → List Word → Type 0
IsBestPathOver o text path = IsBestPath (words o text) o.system.connection path

-- the cost of a path over dictionaries
abbrev pub cost_over : Overlay → List Word → ℤ
cost_over o path = path_cost o.system.connection path
