-- A path either has a word with the boundaries of a given word, or segments the text differently
-- there.
use Rattle.std.specs.Prelude.{ℕ, ◌<◌, ◌⊎◌, List, Contains}
use Rattle.mj_model.specs.declared.word.Word.{Word}
use Rattle.mj_model.specs.Best.{AreWords}
use Rattle.mj_model.specs.Paths.{IsPath}
use Rattle.viterbi.specs.Rivals.Crossing.{HasReplacement, HasBoundariesOf}

-- a path has a word with the boundaries of w
abbrev pub HasWordWithBoundariesOf : List Word → Word → Type 0
HasWordWithBoundariesOf path w = (v : Word) × Contains path v × HasBoundariesOf v w

-- each path past the position of a word has a word with its boundaries or one that replaces it
abbrev pub HasBoundariesOrDiffers : Type 0
HasBoundariesOrDiffers = (words : ℕ → List Word) (len : ℕ) → AreWords words len → (path : List Word) (to : ℕ) → IsPath words path to
    → (w : Word) → w.place < to → HasWordWithBoundariesOf path w ⊎ HasReplacement path w

-- no path has both a word with the boundaries of a word and one that replaces it
abbrev pub NeverBoth : Type 0
NeverBoth = (words : ℕ → List Word) (len : ℕ) → AreWords words len → (path : List Word) (to : ℕ) → IsPath words path to
    → (w : Word) → w.place < w.end → HasWordWithBoundariesOf path w → HasReplacement path w → ⊥
