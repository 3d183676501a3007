-- The cost of a path. BOS and EOS, the start and the end of a sentence, have context id 0 and word
-- cost 0 (MeCab).
use Rattle.std.specs.Prelude.{ℕ, ℤ, ◌+ℤ◌, List, [], ◌∷◌}
use Rattle.mj_model.specs.declared.word.Word.{Word}

-- the cost of words after the right id `right`: their word costs, and all connection costs up to
-- EOS
abbrev pub cost_after : (ℕ → ℕ → ℤ) → ℕ → List Word → ℤ
cost_after conn right [] = conn right 0
cost_after conn right (w ∷ ws) = (conn right w.left +ℤ w.cost) +ℤ cost_after conn w.right ws

-- the cost of a path, which follows BOS
abbrev pub path_cost : (ℕ → ℕ → ℤ) → List Word → ℤ
path_cost conn ws = cost_after conn 0 ws
