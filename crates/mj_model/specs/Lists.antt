-- Lists: consecutive numbers, and the members of a list.
use Rattle.std.specs.Prelude.{◌≡◌, ℕ, zero, suc, ◌⊎◌, List, [], ◌∷◌, ◌++◌}

-- the numbers from 1 to n
abbrev pub up_to : ℕ → List ℕ
up_to zero = []
up_to (suc n) = up_to n ++ suc n ∷ []

-- a list grows at its end by a list with the property `Is`
abbrev pub GrowsBy : {X : Type 0} → (List X → Type 0) → List X → List X → Type 0
GrowsBy {X} Is old new = (more : List X) × Is more × (new ≡ old ++ more)

-- x is a member of the list
abbrev pub IsMember : {X : Type 0} → List X → X → Type 0
IsMember [] x = ⊥
IsMember (y ∷ ys) x = (y ≡ x) ⊎ IsMember ys x

-- no member occurs twice in the list
abbrev pub AreDistinct : {X : Type 0} → List X → Type 0
AreDistinct [] = Unit {0}
AreDistinct (x ∷ xs) = (IsMember xs x → ⊥) × AreDistinct xs
