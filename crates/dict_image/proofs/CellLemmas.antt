-- Which cells the rules allow.
use Rattle.std.proofs.Common.{◌≡◌, ℕ, ◌+◌, ◌<◌, ◌≤◌, pos, List, length, Option, Some, None, MatchOption, sym, ap, ◌∙◌, subst}
use Rattle.mj_model.specs.CellMap.{Cell as CellOf, base, check}
use Rattle.mj_model.specs.CellRules.{IsUsed}
use Rattle.mj_model.proofs.Basics.{same_pos}
use Rattle.dict_image.specs.Validation.Cells.{IsDistance, IsChildAt}

-- a used cell's distance from the base of the state that is its check
used_distance : (values : ℕ) (cells : List CellOf) (t state b : ℕ) → check cells t ≡ pos state → base cells state ≡ pos b → (u : IsUsed values cells t) → IsDistance b t u.code
used_distance values cells t state b named at u =
    let same : u.state ≡ state = same_pos u.state state (sym u.named ∙ named) in
    let from : u.from ≡ b = same_pos u.from b (sym u.based ∙ ap (base cells) same ∙ at) in
    record { positive = subst (λ (n : ℕ). 1 ≤ n) from u.positive; near = u.near; place = u.place ∙ ap (λ (n : ℕ). n + u.code) from }

pub child_by : (cells : List CellOf) (t state b : ℕ) (code : Option ℕ) → check cells t ≡ pos state → state < length cells → base cells state ≡ pos b
    → MatchOption code ((c : ℕ) → IsDistance b t c → ⊥) (IsDistance b t) → MatchOption code ((values : ℕ) → IsUsed values cells t → ⊥) (IsChildAt cells t)
child_by cells t state b None named within at far = λ values u. far u.code (used_distance values cells t state b named at u)
child_by cells t state b (Some c) named within at near = record { state = state; from = b; named = named; within = within; based = at; distance = near }
