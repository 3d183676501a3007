-- The path of a rival: a prefix of the best path, its own words, and a suffix of the best path.
use Rattle.std.specs.Prelude.{◌≡◌, ◌↔◌, ℕ, ℤ, ◌≤◌, List, [], ◌∷◌, ◌++◌, Option, Bool, true, false, Contains, length, reverse, Some, None}
use Rattle.mj_model.specs.declared.word.Word.{Word}
use Rattle.mj_model.specs.ReversedChains.{cost_to, last_right}
use Rattle.mj_model.specs.Cost.{path_cost}
use Rattle.mj_model.specs.Paths.{IsPath}
use Rattle.viterbi.specs.Nodes.Least.{IsLeastOf}
use Rattle.viterbi.specs.Rivals.Crossing.{CostWithReplacement, Replaces}
use Rattle.viterbi.specs.Rivals.PathSteps.{steps_after, words_of}
use Rattle.viterbi.specs.declared.rivals.rival_path.RivalPath.{RivalPath}
use Rattle.viterbi.specs.declared.rivals.rival_path.TheConstants.{STEPS_MAX}
use Rattle.viterbi.specs.declared.rivals.step.PathStep.{PathStep}

-- the path starts with these words
abbrev pub IsPrefix : List Word → List Word → Type 0
IsPrefix front path = (rest : List Word) × (path ≡ front ++ rest)

-- the path ends with these words
abbrev pub IsSuffix : List Word → List Word → Type 0
IsSuffix back path = (rest : List Word) × (path ≡ rest ++ back)

-- no step's word is on the path
abbrev pub AreOff : List Word → List PathStep → Type 0
AreOff path [] = Unit {0}
AreOff path (s ∷ steps) = (Contains path s.word → ⊥) × AreOff path steps

-- there are at most `STEPS_MAX` steps on one side of the rival's word, and exactly `STEPS_MAX` if
-- they don't reach the best path
pub record AreShown (reaches : Bool) (steps : List PathStep) : Type 0 where
  pub few : length steps ≤ STEPS_MAX
  pub left_out : reaches ≡ false → length steps ≡ STEPS_MAX

-- the rival's path is `front`, the steps and `back`. It is a path of least cost among those that
-- segment the text differently at w. One of its steps replaces w, and no step is on the best path.
-- `front` is a prefix of the best path exactly if `begins` is set, and `back` is a suffix exactly
-- if `ends` is set
pub record IsRivalPath (words : ℕ → List Word) (conn : ℕ → ℕ → ℤ) (best : List Word) (w : Word) (r : RivalPath) : Type 0 where
  pub front : List Word
  pub back : List Word
  pub to : ℕ
  pub is_path : IsPath words (front ++ (words_of r.steps.items ++ back)) to
  pub cost_is : r.cost ≡ path_cost conn (front ++ (words_of r.steps.items ++ back))
  pub least : IsLeastOf (CostWithReplacement words conn w) (Some r.cost)
  pub before : List PathStep
  pub chosen : PathStep
  pub after : List PathStep
  pub parts : r.steps.items ≡ before ++ chosen ∷ after
  pub takes_place : Replaces chosen.word w
  pub steps_are : r.steps.items ≡ steps_after conn (last_right (reverse front)) (cost_to conn (reverse front)) (words_of r.steps.items)
  pub off : AreOff best r.steps.items
  pub begins : (r.begins ≡ true) ↔ IsPrefix front best
  pub ends : (r.ends ≡ true) ↔ IsSuffix back best
  pub before_shown : AreShown r.begins before
  pub after_shown : AreShown r.ends after

-- the path of the best rival, or none if no path segments the text differently
abbrev pub IsRivalOrNone : (ℕ → List Word) → (ℕ → ℕ → ℤ) → List Word → Word → Option RivalPath → Type 0
IsRivalOrNone words conn best w None = IsLeastOf (CostWithReplacement words conn w) None
IsRivalOrNone words conn best w (Some r) = IsRivalPath words conn best w r
