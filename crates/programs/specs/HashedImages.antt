-- The bytes of an image as they are read, and the state of their hash.
use Rattle.std.specs.Prelude.{◌≡◌, ◌≤◌, ◌↔◌, ℕ, List, IfSome, length, take}
use Rattle.sha2.specs.Hashers.{Holds256}
use Rattle.image_format.specs.declared.digest_test.DigestTest.{DigestTest}
use Rattle.image_format.specs.ImageBytes.{header_of, header_length, section_end}
use Rattle.image_format.specs.ImageFaults.{PassesDigest}
use Rattle.programs.specs.declared.image_pieces.Hashed.{Hashed}
use Rattle.programs.specs.declared.image_pieces.ImagePieces.{ImagePieces}

-- the offset of the checksum of an image that has one
abbrev pub digest_place : List ℕ → ℕ
digest_place image = section_end (header_of image) 8

-- the hasher holds the bytes before offset `end`
pub record HasHashed (end : ℕ) (bytes : List ℕ) (hashed : Hashed) : Type 0 where
  pub end_is : hashed.end ≡ end
  pub holds : Holds256 hashed.hasher (take end bytes)

-- these bytes of an image have been received, at least its header; if bytes are hashed, they are
-- those before the checksum
pub record HasReceived (bytes : List ℕ) (pieces : ImagePieces) : Type 0 where
  pub bytes_are : pieces.bytes.items ≡ bytes
  pub header : header_length ≤ length bytes
  pub hashed : IfSome pieces.hashed (HasHashed (digest_place bytes) bytes)

-- two tests of the checksum give the same result for these bytes
abbrev pub AgreeOnDigest : DigestTest → DigestTest → List ℕ → Type 0
AgreeOnDigest requested left bytes = PassesDigest requested bytes ↔ PassesDigest left bytes
