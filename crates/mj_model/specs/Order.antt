-- The order of paths: by cost, and at equal cost by the last word in which they differ.
use Rattle.std.specs.Prelude.{◌≡◌, ℕ, ℤ, ◌<ℤ◌, ◌<◌, List, [], ◌∷◌, slice_get, Some, ◌⊎◌, reverse}
use Rattle.mj_model.specs.declared.word.Word.{Word}
use Rattle.mj_model.specs.Cost.{path_cost}

-- v comes before w in a list of words
pub record IsEarlierIn (words : List Word) (v w : Word) : Type 0 where
  pub first : ℕ
  pub second : ℕ
  pub in_order : first < second
  pub has_first : slice_get words first ≡ Some v
  pub has_second : slice_get words second ≡ Some w

-- v is preferred to w: its position is later, or it is the same and v comes before w among the
-- words there
abbrev pub IsPreferred : (ℕ → List Word) → Word → Word → Type 0
IsPreferred words v w = (w.place < v.place) ⊎ ((v.place ≡ w.place) × IsEarlierIn (words v.place) v w)

-- at the first difference of two lists of words, the first list has the preferred word
abbrev pub WinsTie : (ℕ → List Word) → List Word → List Word → Type 0
WinsTie words [] ws = ⊥
WinsTie words (v ∷ vs) [] = ⊥
WinsTie words (v ∷ vs) (w ∷ ws) = IsPreferred words v w ⊎ ((v ≡ w) × WinsTie words vs ws)

-- path vs precedes path ws: it costs less, or as much and vs has the preferred word at the last
-- difference
abbrev pub IsBefore : (ℕ → List Word) → (ℕ → ℕ → ℤ) → List Word → List Word → Type 0
IsBefore words conn vs ws =
    (path_cost conn vs <ℤ path_cost conn ws)
    ⊎ ((path_cost conn vs ≡ path_cost conn ws) × WinsTie words (reverse vs) (reverse ws))
