-- The categories of mapped code points, as steps: each step applies from its code point on, up to
-- the next step.
use Rattle.std.specs.Prelude.{◌≡◌, ℕ, ◌+◌, ◌≤◌, nat_lt, if◌then◌else◌, List, [], ◌∷◌, Option, None}
use Rattle.std.specs.Option.{option_or}
use Rattle.mj_model.specs.declared.category.CharInfo.{CharInfo}
use Rattle.char_def.specs.declared.overlay.CategoryStep.{CategoryStep}

-- the categories that steps give to a code point, with `before` applying before the first of them
abbrev pub info_from : Option CharInfo → List CategoryStep → ℕ → Option CharInfo
info_from before [] code = before
info_from before (step ∷ steps) code = if nat_lt code step.first then before else info_from step.info steps code

-- the categories that steps give to a code point; before the first step nothing is mapped
abbrev pub info_by : List CategoryStep → ℕ → Option CharInfo
info_by steps code = info_from None steps code

-- the steps start at the code point `from` or after it, each after the one before
abbrev pub AreRising : ℕ → List CategoryStep → Type 0
AreRising from [] = Unit {0}
AreRising from (step ∷ steps) = (from ≤ step.first) × AreRising (step.first + 1) steps

-- the first step starts at this code point
abbrev pub StartAt : ℕ → List CategoryStep → Type 0
StartAt first [] = ⊥
StartAt first (step ∷ steps) = step.first ≡ first

-- the steps `above` laid over the steps `below`, which apply only to code points that `above` does
-- not cover
pub record AreOverlaid (below above steps : List CategoryStep) : Type 0 where
  pub rising : AreRising 0 steps
  pub agrees : (code : ℕ) → info_by steps code ≡ option_or (info_by above code) (info_by below code)
