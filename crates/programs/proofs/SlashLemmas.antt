-- A name is bare if a search finds no slash in it.
use Rattle.std.proofs.Common.{◌≡◌, ℕ, ◌<◌, Bool, true, false, not, List, [], length, get_or, refl}
use Rattle.std.proofs.lemmas.Bool.{both_ways}
use Rattle.std.proofs.lemmas.List.Elements.{All-from_get_or}
use Rattle.std.specs.Path.{slash}
use Rattle.std.specs.Prelude.{◌≢◌, Decides}
use Rattle.programs.specs.ImageDirs.{IsBare}

pub bare_without : (name : List ℕ) (found : Bool) → (name ≡ [] → ⊥) → (found ≡ true → (k : ℕ) × (k < length name) × (get_or name k 0 ≡ slash))
    → ((k : ℕ) → k < length name → get_or name k 0 ≡ slash → found ≡ true) → Decides (not found) (IsBare name)
bare_without name true some is has = ((λ no. absurd (both_ways false refl no)), λ bare. let at = is refl in absurd (bare.1 at.0 0 at.1 at.2))
bare_without name false some is has =
    ((λ _. (some, All-from_get_or (λ byte. byte ≢ slash) name 0 (λ i low same. both_ways false refl (has i low same)))), λ _. refl)
