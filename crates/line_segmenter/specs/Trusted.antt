-- Images that the caller vouches for.
use Rattle.std.specs.Prelude.{◌≡◌, ℕ, List}
use Rattle.image_format.specs.ImageBytes.{header_of}
use Rattle.image_format.specs.ImageFaults.{IsIntact}
use Rattle.image_format.specs.declared.layout.TheConstants.{LAYOUT}

-- an intact image of the layout that this version writes; proofs don't unfold it
unfoldable pub IsTrusted : List ℕ → Type 0
IsTrusted image = IsIntact image × ((header_of image).layout ≡ LAYOUT)
