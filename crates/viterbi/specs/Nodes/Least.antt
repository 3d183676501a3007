-- The least of some costs.
use Rattle.std.specs.Prelude.{◌≡◌, ℤ, ◌<ℤ◌, ◌≤ℤ◌, ◌⊎◌, Option, Some, None}
use Rattle.viterbi.specs.declared.nodes.cost.ChainCost.{ChainCost}

-- the least cost that satisfies `Is`, or none if no cost does
abbrev pub IsLeastOf : (ℤ → Type 0) → Option ℤ → Type 0
IsLeastOf Is None = (c : ℤ) → Is c → ⊥
IsLeastOf Is (Some least) = Is least × ((c : ℤ) → Is c → least ≤ℤ c)

-- a chain's cost as a number
abbrev pub number_of : Option ChainCost → Option ℤ
number_of None = None
number_of (Some chain) = Some chain.cost

-- the lesser of the least cost so far, if there is one, and the next one
abbrev pub IsLesser : Option ChainCost → ChainCost → ChainCost → Type 0
IsLesser None next result = result ≡ next
IsLesser (Some least) next result = ((result ≡ next) × (next.cost <ℤ least.cost)) ⊎ ((result ≡ least) × (least.cost ≤ℤ next.cost))
