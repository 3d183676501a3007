-- Errors that the first bytes of an image determine.
use Rattle.std.specs.Prelude.{◌≡◌, ℕ, ◌+◌, ◌≤◌, ◌<◌, ◌^◌, ◌⊎◌, List, ◌++◌, length, take, Option, Some, IfSome}
use Rattle.std.specs.Io.KnownBytes.{Consumes}
use Rattle.mj_model.specs.declared.image_fault.ImageFault.{ImageFault}
use Rattle.mj_model.specs.declared.image_fault.ImageFault.TheVariants.{BadSection, Memory as NoMemory, Truncated}
use Rattle.image_format.specs.declared.digest_test.DigestTest.{DigestTest}
use Rattle.image_format.specs.ImageBytes.{header_of, header_length, image_magic, total_length}
use Rattle.image_format.specs.ImageFaults.{IsImageFault}
use Rattle.image_format.specs.Layouts.{IsReadLayout}
use Rattle.dict_image.specs.Validation.BeforeMemory.{ReachKeys}
use Rattle.programs.specs.declared.fault.Fault.{Fault}
use Rattle.programs.specs.declared.fault.Fault.TheVariants as image
use Rattle.programs.specs.declared.image_reading.ImageReadFault.{ImageReadFault}
use Rattle.programs.specs.declared.image_reading.ImageReadFault.TheVariants.{Read, Image}

-- the number of bytes is the known one, if there is one, and fits a file: it is below 2^64
pub record HasLength (known : Option ℕ) (bytes : List ℕ) : Type 0 where
  pub few : length bytes < 2 ^ 64
  pub same : IfSome known (λ n. length bytes ≡ n)

-- the first error of an image, whether its checksum is tested or not
abbrev pub IsFaultOf : List ℕ → ImageFault → Type 0
IsFaultOf bytes fault = (digest : DigestTest) → IsImageFault digest bytes fault

-- the first error of all byte strings of this length that begin with `first`
abbrev pub IsFaultOfEach : Option ℕ → List ℕ → ImageFault → Type 0
IsFaultOfEach known first fault = (rest : List ℕ) → HasLength known (first ++ rest) → IsFaultOf (first ++ rest) fault

-- the bytes pass the tests of an image's magic and layout, and their header demands `reported` bytes in
-- all
pub record IsHead (first : List ℕ) (reported : ℕ) : Type 0 where
  pub long : header_length ≤ length first
  pub magic : take 8 first ≡ image_magic
  pub layout : IsReadLayout (header_of first).layout
  pub reported_is : reported ≡ total_length (header_of first)

-- bytes shorter than a header, or bytes that pass those tests and are no more than their header
-- demands
abbrev pub IsReadHead : List ℕ → Type 0
IsReadHead bytes = (length bytes < header_length) ⊎ ((demanded : ℕ) × IsHead bytes demanded × (length bytes ≤ demanded))

-- the bytes pass the tests of magic and layout, but their header demands more than `count` bytes,
-- or fewer
abbrev pub IsLengthFault : ℕ → List ℕ → ImageFault → Type 0
IsLengthFault count bytes fault =
    (demanded : ℕ) × IsHead bytes demanded × (((fault ≡ Truncated) × (count < demanded)) ⊎ ((fault ≡ BadSection 9) × (demanded < count)))

-- the first error of the bytes, or the error of the known number of bytes, which may be wrong
abbrev pub IsErrorOrKnownLength : Option ℕ → List ℕ → ImageFault → Type 0
IsErrorOrKnownLength known bytes fault = IsFaultOf bytes fault ⊎ ((count : ℕ) × (known ≡ Some count) × IsLengthFault count bytes fault)

-- an error of each byte string that begins with `first` and fits a file, by `IsErrorOrKnownLength`
abbrev pub IsErrorOrLengthOfEach : Option ℕ → List ℕ → ImageFault → Type 0
IsErrorOrLengthOfEach known first fault = (rest : List ℕ) → length (first ++ rest) < 2 ^ 64 → IsErrorOrKnownLength known (first ++ rest) fault

-- an error of the bytes of a reader, by `IsErrorOrKnownLength`, if these are known
abbrev pub IsErrorOrLengthAt : Option ℕ → Option (List ℕ) → ImageReadFault → Type 0
IsErrorOrLengthAt known remaining (Read fault) = Unit {0}
IsErrorOrLengthAt known remaining (Image fault) = IfSome remaining (λ bytes. length bytes < 2 ^ 64 → IsErrorOrKnownLength known bytes fault)

-- a reader's bytes are rejected only with their own first error
abbrev pub IsErrorAt : Option ℕ → Option (List ℕ) → ImageReadFault → Type 0
IsErrorAt known remaining (Read fault) = Unit {0}
IsErrorAt known remaining (Image fault) = IfSome remaining (λ bytes. HasLength known bytes → IsFaultOf bytes fault)

-- the bytes after `first` are rejected only with the first error of the whole, whatever length is
-- known
abbrev pub IsRestError : List ℕ → Option (List ℕ) → ImageReadFault → Type 0
IsRestError first remaining (Read fault) = Unit {0}
IsRestError first remaining (Image fault) = IfSome remaining (λ rest. IsFaultOf (first ++ rest) fault)

-- the bytes are rejected because there are more than their header demands
abbrev pub IsForLength : ImageReadFault → Type 0
IsForLength (Read fault) = Unit {0}
IsForLength (Image fault) = fault ≡ BadSection 9

-- unless there are too many bytes, they are rejected before more is read than a header and what one
-- read gives
abbrev pub IsRejectedEarly : Option (List ℕ) → Option (List ℕ) → ImageReadFault → Type 0
IsRejectedEarly before after (Read fault) = Unit {0}
IsRejectedEarly before after (Image fault) =
    (fault ≡ BadSection 9) ⊎ ((bytes : List ℕ) × Consumes before after bytes × (length bytes < header_length + 2 ^ 16))

-- the rejection of the image satisfies `IsSo`; other errors are not errors of the image's bytes
abbrev pub IfRejected : (ImageReadFault → Type 0) → Fault → Type 0
IfRejected IsSo (image.Image path fault) = IsSo (Image fault)
IfRejected IsSo reported = Unit {0}

-- the first error of the bytes, or the error of a reported file length that differs from theirs
abbrev pub IsFaultOrLength : List ℕ → ImageFault → Type 0
IsFaultOrLength bytes fault = IsFaultOf bytes fault ⊎ ((count : ℕ) × IsLengthFault count bytes fault)

-- an image is rejected only with the error of some opened file, if its bytes are known
abbrev pub IsErrorOfAFile : {F : Type 0} → (F → Option (List ℕ)) → Fault → Type 0
IsErrorOfAFile {F = F} remaining (image.Image path fault) =
    (opened : F) × IfSome (remaining opened) (λ bytes. length bytes < 2 ^ 64 → IsFaultOrLength bytes fault)
IsErrorOfAFile remaining reported = Unit {0}

-- an allocation failed for bytes that pass the tests before those of the keys, which allocate
-- nothing
abbrev pub IsOutOfMemoryLoad : DigestTest → List ℕ → ImageFault → Type 0
IsOutOfMemoryLoad digest bytes fault = (fault ≡ NoMemory) × ReachKeys digest bytes

-- loading an image fails only with the error of some opened file: of its bytes, of its reported
-- length, or out of memory after the first tests
abbrev pub IsLoadError : {F : Type 0} → DigestTest → (F → Option (List ℕ)) → Fault → Type 0
IsLoadError {F = F} digest remaining (image.Image path fault) =
    (opened : F)
    × IfSome (remaining opened) (λ bytes. length bytes < 2 ^ 64 → IsOutOfMemoryLoad digest bytes fault ⊎ (IsImageFault digest bytes fault ⊎ IsFaultOrLength bytes fault))
IsLoadError digest remaining reported = Unit {0}
