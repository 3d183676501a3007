-- The keys that are prefixes of a text, in the order in which a walk over the text finds them.
use Rattle.std.specs.Prelude.{◌≡◌, ℕ, suc, List, [], ◌∷◌, ◌++◌, take, drop, Option, None, Some, option_and_then, option_map, MatchOption}
use Rattle.mj_model.specs.CellMap.{Cell, base, step, value_in, value_of}
use Rattle.mj_model.specs.declared.cell_walk.steps.WalkState.{WalkState}
use Rattle.mj_model.specs.declared.cell_walk.walk.Walk.{Walk}

-- a hit of length n, if there is a value
abbrev pub hit_at : ℕ → Option ℕ → List (ℕ × ℕ)
hit_at n None = []
hit_at n (Some v) = (n, v) ∷ []

-- the hit of length n, if the first n bytes of the text are a key
abbrev pub hit_of : List Cell → List ℕ → ℕ → Option (ℕ × ℕ)
hit_of cells text n = option_map (λ v. (n, v)) (value_of cells (take n text))

-- the value of the key that ends at the state s
abbrev pub value_here : List Cell → ℕ → Option ℕ
value_here cells s = option_and_then (λ t. value_in (base cells t)) (step cells s 0)

-- the hits at and after the state that a step leads to, given the hits after each state
abbrev pub hits_with : (ℕ → List (ℕ × ℕ)) → List Cell → ℕ → Option ℕ → List (ℕ × ℕ)
hits_with after cells n None = []
hits_with after cells n (Some t) = hit_at n (value_here cells t) ++ after t

-- the hits after the state s, which n bytes lead to, over the remaining bytes
unfoldable pub hits_from : List Cell → ℕ → ℕ → List ℕ → List (ℕ × ℕ)
hits_from cells s n [] = []
hits_from cells s n (b ∷ bs) = hits_with (λ t. hits_from cells t (suc n) bs) cells (suc n) (step cells s (suc b))

abbrev pub hits_at : List Cell → Option WalkState → ℕ → List ℕ → List (ℕ × ℕ)
hits_at cells None n bytes = []
hits_at cells (Some place) n bytes = hits_from cells place.state n bytes

-- the remaining hits of a walk
abbrev pub hits_left : List Cell → List ℕ → Walk → List (ℕ × ℕ)
hits_left cells text walk = hits_at cells walk.place walk.length (drop walk.length text)

-- one step of a walk: it reaches a state, whose value is the next hit if it has one, or no hit
-- remains
abbrev pub IsStepOfWalk : List Cell → List ℕ → Walk → Walk → Option WalkState → Type 0
IsStepOfWalk cells text old new place =
    MatchOption place ((hits_left cells text old ≡ []) × (hits_left cells text new ≡ []))
    (λ at. hits_left cells text old ≡ hit_at new.length (value_here cells at.state) ++ hits_left cells text new)
