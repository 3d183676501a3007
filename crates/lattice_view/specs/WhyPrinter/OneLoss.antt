-- What is determined about the rival of a word: whether there is one, and its cost. Which of
-- several rivals of the same cost is printed is not.
use Rattle.std.specs.Prelude.{◌≡◌, ℕ, ℤ, List, Option, option_map}
use Rattle.mj_model.specs.declared.word.Word.{Word}
use Rattle.viterbi.specs.Rivals.RivalPaths.{IsRivalOrNone}
use Rattle.viterbi.specs.declared.rivals.rival_path.RivalPath.{RivalPath}

-- two rivals of a word have the same cost, and either both exist or neither does
abbrev pub HasOneLoss : Type 0
HasOneLoss = (words : ℕ → List Word) (conn : ℕ → ℕ → ℤ) (best : List Word) (w : Word) (rival other : Option RivalPath)
    → IsRivalOrNone words conn best w rival → IsRivalOrNone words conn best w other
    → option_map (λ (r : RivalPath). r.cost) other ≡ option_map (λ (r : RivalPath). r.cost) rival
