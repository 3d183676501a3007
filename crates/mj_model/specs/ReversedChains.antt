-- Chains from the start of the text with the last word first, as the search builds them, and the
-- best chain to a position.
use Rattle.std.specs.Prelude.{◌≡◌, ℕ, ℤ, pos, ◌+ℤ◌, ◌<ℤ◌, List, [], ◌∷◌, Contains, ◌⊎◌}
use Rattle.mj_model.specs.declared.word.Word.{Word}
use Rattle.mj_model.specs.Order.{WinsTie, IsPreferred}

-- the words lead from the start of the text to the position `to`
abbrev pub IsChainTo : (ℕ → List Word) → List Word → ℕ → Type 0
IsChainTo words [] to = to ≡ 0
IsChainTo words (w ∷ ws) to = (w.end ≡ to) × Contains (words w.place) w × IsChainTo words ws w.place

-- the right id at the end of a chain
abbrev pub last_right : List Word → ℕ
last_right [] = 0
last_right (w ∷ ws) = w.right

-- the cost of a chain up to and including its last word
abbrev pub cost_to : (ℕ → ℕ → ℤ) → List Word → ℤ
cost_to conn [] = pos 0
cost_to conn (w ∷ ws) = (cost_to conn ws +ℤ conn (last_right ws) w.left) +ℤ w.cost

-- the cost of a chain and of its connection to a following word with left id `left`
abbrev pub cost_with_next : (ℕ → ℕ → ℤ) → List Word → ℕ → ℤ
cost_with_next conn ws left = cost_to conn ws +ℤ conn (last_right ws) left

-- vs with cost a is the same chain as ws with cost b, or precedes it
abbrev pub IsNoWorseThan : (ℕ → List Word) → ℤ → List Word → ℤ → List Word → Type 0
IsNoWorseThan words a vs b ws = (a <ℤ b) ⊎ ((a ≡ b) × ((vs ≡ ws) ⊎ WinsTie words vs ws))

-- word v with cost a is at least as good as word w with cost b: it costs less, or as much and is w
-- or is preferred to w
abbrev pub AtLeastAsGood : (ℕ → List Word) → ℤ → Word → ℤ → Word → Type 0
AtLeastAsGood words a v b w = (a <ℤ b) ⊎ ((a ≡ b) × ((v ≡ w) ⊎ IsPreferred words v w))

-- the best chain to the position `to`, if a word with left id `left` follows
pub record IsBestTo (words : ℕ → List Word) (conn : ℕ → ℕ → ℤ) (vs : List Word) (to left : ℕ) : Type 0 where
  pub chain : IsChainTo words vs to
  pub best : (ws : List Word) → IsChainTo words ws to → IsNoWorseThan words (cost_with_next conn vs left) vs (cost_with_next conn ws left) ws
