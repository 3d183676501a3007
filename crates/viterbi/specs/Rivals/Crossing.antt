-- Words that replace another word, and paths with such a word.
use Rattle.std.specs.Prelude.{◌≡◌, ℕ, ℤ, ◌<◌, ◌≤◌, List, Contains}
use Rattle.mj_model.specs.declared.word.Word.{Word}
use Rattle.mj_model.specs.Cost.{path_cost}
use Rattle.mj_model.specs.Paths.{IsPath}

-- a word, with the blanks before it, contains a position
abbrev pub Covers : Word → ℕ → Type 0
Covers v place = (v.place ≤ place) × (place < v.end)

-- two words have the same boundaries: the same position and the same end
abbrev pub HasBoundariesOf : Word → Word → Type 0
HasBoundariesOf v w = (v.place ≡ w.place) × (v.end ≡ w.end)

-- v replaces w: it contains the position of w, and has other boundaries
abbrev pub Replaces : Word → Word → Type 0
Replaces v w = Covers v w.place × (HasBoundariesOf v w → ⊥)

-- a path segments the text differently at w: one of its words replaces w
abbrev pub HasReplacement : List Word → Word → Type 0
HasReplacement path w = (v : Word) × Contains path v × Replaces v w

-- c is the cost of a path that segments the text differently at w
abbrev pub CostWithReplacement : (ℕ → List Word) → (ℕ → ℕ → ℤ) → Word → ℤ → Type 0
CostWithReplacement words conn w c = (path : List Word) × (to : ℕ) × IsPath words path to × HasReplacement path w × (c ≡ path_cost conn path)
