-- The groups of a lexicon and their keys.
use Rattle.std.specs.Prelude.{◌≡◌, ℕ, ◌<◌, List, length, take, Option, Some, filter_map, option_map}
use Rattle.image_format.specs.declared.layout.KeyForm.{KeyForm}
use Rattle.image_format.specs.ImageMeaning.{group_in}
use Rattle.mj_model.specs.Lists.{up_to}

-- there are `groups` groups, each has a key, and `group` maps each key to its group
pub record AreGroups (groups : ℕ) (key : ℕ → List ℕ) (group : List ℕ → Option ℕ) : Type 0 where
  pub below : (text : List ℕ) (g : ℕ) → group text ≡ Some g → g < groups
  pub has_key : (g : ℕ) → g < groups → group (key g) ≡ Some g
  pub key_is : (text : List ℕ) (g : ℕ) → group text ≡ Some g → key g ≡ text

-- the group of the first `n` bytes of a text, as a hit of this length
abbrev pub hit_in : (List ℕ → Option ℕ) → List ℕ → ℕ → Option (ℕ × ℕ)
hit_in group text n = option_map (λ g. (n, g)) (group (take n text))

-- the keys that are prefixes of a text, the shortest first: their lengths in bytes, and their
-- groups
abbrev pub hits_in : KeyForm → ℕ → List ℕ → List ℕ → List (ℕ × ℕ)
hits_in form groups keys text = filter_map (hit_in (group_in form groups keys) text) (up_to (length text))
