-- The ghost fact that dictionaries carry is a proposition: it has at most one proof.
use mathlib.Core.HLevel.{Unit-prop, ×_prop}
use Rattle.std.specs.Prelude.{List, [], ◌∷◌}
use Rattle.std.proofs.Props.{props}
use Rattle.mj_model.specs.Lists.{IsMember, AreDistinct}
use Rattle.mj_model.specs.Tables.{Tables}
use Rattle.word_lookup.specs.Fitting.{IsOverlay}

not_in : {X : Type 0} (xs : List X) (x : X) → IsProp (IsMember xs x → ⊥)
not_in xs x = Prim.hlevel props

AreDistinct-prop : {X : Type 0} (xs : List X) → IsProp (AreDistinct xs)
AreDistinct-prop [] = Unit-prop
AreDistinct-prop (x ∷ xs) = ×_prop (not_in xs x) (AreDistinct-prop xs)

-- `IsOverlay` has at most one proof
pub IsOverlay-prop : (system : Tables) (users : List Tables) → IsProp (IsOverlay system users)
unfolding IsOverlay
IsOverlay-prop system users = Prim.hlevel (props, AreDistinct-prop)
