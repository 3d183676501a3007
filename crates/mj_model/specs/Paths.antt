-- Chains of words, and paths.
use Rattle.std.specs.Prelude.{◌≡◌, ℕ, ◌≤◌, List, [], ◌∷◌, Contains}
use Rattle.mj_model.specs.declared.word.Word.{Word}

-- a chain of words: the first is a word at `from`, and each further one is a word at the end of the
-- word before it
abbrev pub IsChain : (ℕ → List Word) → ℕ → List Word → ℕ → Type 0
IsChain words from [] to = from ≡ to
IsChain words from (w ∷ ws) to = Contains (words from) w × IsChain words w.end ws to

-- a path to `to`: a chain from the start of the text, and no chain from there ends later
pub record IsPath (words : ℕ → List Word) (ws : List Word) (to : ℕ) : Type 0 where
  pub chain : IsChain words 0 ws to
  pub longest : (vs : List Word) (later : ℕ) → IsChain words 0 vs later → later ≤ to
