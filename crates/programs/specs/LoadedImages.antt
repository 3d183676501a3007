-- Dictionaries that are loaded from images.
use Rattle.std.specs.Prelude.{◌≡◌, ◌⊎◌, ℕ, List, Contains, Result, Ok, Err, String, string_bytes}
use Rattle.std.specs.Borrow.{Bor}
use Rattle.std.specs.List.{AllZip}
use Rattle.std.specs.declared.alloc.Global.{Global}
use Rattle.image_format.specs.declared.digest_test.DigestTest.{DigestTest}
use Rattle.programs.specs.declared.fault.Fault.{Fault}
use Rattle.programs.specs.declared.fault.Fault.TheVariants.{Memory}

-- loading the image at `path` gave this result
abbrev pub IsLoadResult : {D : Type 0} → (Bor (List ℕ) → DigestTest → Result D Fault → Type 0) → DigestTest → List ℕ → Result D Fault → Type 0
IsLoadResult loads digest path result = (shown : Bor (List ℕ)) × (shown.now ≡ path) × loads shown digest result

-- each dictionary was loaded from its path, in the order of the paths
abbrev pub AreLoaded : {D : Type 0} → (Bor (List ℕ) → DigestTest → Result D Fault → Type 0) → DigestTest → List (String Global) → List D → Type 0
AreLoaded loads digest paths dicts = AllZip (λ path dict. IsLoadResult loads digest (string_bytes path) (Ok dict)) paths dicts

-- loading one of the images gave this error, or an allocation failed
abbrev pub IsErrorOfOne : {D : Type 0} → (Bor (List ℕ) → DigestTest → Result D Fault → Type 0) → DigestTest → List (String Global) → Fault → Type 0
IsErrorOfOne loads digest paths reported =
    (reported ≡ Memory) ⊎ ((path : String Global) × Contains paths path × IsLoadResult loads digest (string_bytes path) (Err reported))
