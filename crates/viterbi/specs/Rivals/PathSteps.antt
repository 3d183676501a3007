-- The words of a path, each with its costs there.
use Rattle.std.specs.Prelude.{ℕ, ℤ, pos, ◌+ℤ◌, List, [], ◌∷◌, map}
use Rattle.mj_model.specs.declared.word.Word.{Word}
use Rattle.viterbi.specs.declared.rivals.step.PathStep.{PathStep}

-- the steps of words after a right id and a cost so far: each word with its connection cost and the
-- cost up to and including it
abbrev pub steps_after : (ℕ → ℕ → ℤ) → ℕ → ℤ → List Word → List PathStep
steps_after conn right total [] = []
steps_after conn right total (w ∷ ws) =
    (record { word = w; connection = conn right w.left; total = (total +ℤ conn right w.left) +ℤ w.cost })
    ∷ steps_after conn w.right ((total +ℤ conn right w.left) +ℤ w.cost) ws

-- the steps of a path, whose first word follows BOS
abbrev pub steps_of : (ℕ → ℕ → ℤ) → List Word → List PathStep
steps_of conn path = steps_after conn 0 (pos 0) path

-- the words of steps
abbrev pub words_of : List PathStep → List Word
words_of steps = map (λ s. s.word) steps

-- the right id at the end of words that follow a right id
abbrev pub right_after : ℕ → List Word → ℕ
right_after right [] = right
right_after right (w ∷ ws) = right_after w.right ws

-- the cost at the end of words that follow a right id and a cost so far
abbrev pub total_after : (ℕ → ℕ → ℤ) → ℕ → ℤ → List Word → ℤ
total_after conn right total [] = total
total_after conn right total (w ∷ ws) = total_after conn w.right ((total +ℤ conn right w.left) +ℤ w.cost) ws
