-- The errors of loading an image.
use Rattle.std.specs.Prelude.{◌≡◌, ◌⊎◌, ℕ, List}
use Rattle.image_format.specs.ImageFaults.{IsImageFault}
use Rattle.image_format.specs.declared.digest_test.DigestTest.{DigestTest}
use Rattle.mj_model.specs.declared.image_fault.ImageFault.{ImageFault}
use Rattle.mj_model.specs.declared.image_fault.ImageFault.TheVariants.{Memory}

-- out of memory, or the first error of the bytes
abbrev pub IsLoadFault : DigestTest → List ℕ → ImageFault → Type 0
IsLoadFault digest bytes fault = (fault ≡ Memory) ⊎ IsImageFault digest bytes fault
