-- The positions of the parts of a well-formed image.
use Rattle.std.proofs.Common.{ℕ, ◌<◌, ◌≤◌, ◌^◌, List, length, arith}
use Rattle.image_format.specs.ImageBytes.{header_of, section_end, total_length}
use Rattle.image_format.specs.ImageFaults.{IsAccepted, IsWellFormed}
use Rattle.image_format.specs.declared.digest_test.DigestTest.{DigestTest}
use Rattle.image_format.specs.declared.digest_test.DigestTest.TheVariants.{Verified, Skipped}
use Rattle.image_format.proofs.ImageFaultLaws.{well_formed_of}
use Rattle.dict_image.specs.Validation.Outlines.{IsImage}

pub is_formed : (bytes : List ℕ) → IsImage bytes → IsWellFormed bytes
unfolding IsImage
is_formed bytes w = w

pub from_formed : (bytes : List ℕ) → IsWellFormed bytes → IsImage bytes
unfolding IsImage
from_formed bytes w = w

pub sections_within : (bytes : List ℕ) → IsImage bytes → section_end (header_of bytes) 8 ≤ length bytes
unfolding IsImage
sections_within bytes w = let total : total_length (header_of bytes) ≤ length bytes = w.1.1.1.0 in omega (arith, total)

-- bytes that pass the tests, with or without the SHA-256's, are an image
pub from_accepted : (digest : DigestTest) (bytes : List ℕ) → IsAccepted digest bytes → IsImage bytes
from_accepted Verified bytes w = from_formed bytes (well_formed_of bytes w).0
from_accepted Skipped bytes w = from_formed bytes w

-- the end of the sections fits 64 bits, because the bytes lie in memory
pub ends_fit : (bytes : List ℕ) → IsImage bytes → length bytes < 2 ^ 64 → 2 ^ 64 ≤ section_end (header_of bytes) 8 → ⊥
ends_fit bytes w few far = let within = sections_within bytes w in omega (arith, within, few, far)
