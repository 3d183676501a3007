-- The state of reading a file of connection costs.
use Rattle.std.specs.Prelude.{◌≡◌, ◌⊎◌, ℕ, ◌-◌, ◌^◌, min, List, [], ◌++◌, Option, IfSome, length, take}
use Rattle.std.specs.Io.KnownBytes.{Consumes, IsAtEnd}
use Rattle.matrix_def.specs.Reading.{AreRejectedFor, HasRead}
use Rattle.mj_model.specs.declared.source_fault.SourceFault.{SourceFault}
use Rattle.dictc_lib.specs.declared.matrix_file.MatrixFile.{MatrixFile}

-- the bytes that were read
pub record HasReceived (bytes : List ℕ) (file : MatrixFile) : Type 0 where
  pub read : HasRead bytes file.reader
  pub counted : file.bytes ≡ min (length bytes) (2 ^ 64 - 1)
  pub first : file.first.items ≡ take 3 bytes

-- the bytes are rejected with one error, whatever follows them
abbrev pub AreRejected : List ℕ → Type 0
AreRejected bytes = (fault : SourceFault) × AreRejectedFor fault bytes

-- the bytes that were read are rejected, whatever follows them
abbrev pub IsRejected : MatrixFile → Type 0
IsRejected file = (bytes : List ℕ) × HasReceived bytes file × AreRejected bytes

-- the bytes that were read are all of `bytes`, or a prefix that is rejected whatever follows
pub record HasReadEnough (bytes : List ℕ) (file : MatrixFile) : Type 0 where
  pub prefix : List ℕ
  pub remainder : List ℕ
  pub parts : bytes ≡ prefix ++ remainder
  pub received : HasReceived prefix file
  pub enough : (remainder ≡ []) ⊎ AreRejected prefix

-- between two states of a reader its bytes were read to the end, or until they were rejected
-- whatever follows
pub record IsReadUpTo (before after : Option (List ℕ)) (file : MatrixFile) : Type 0 where
  pub bytes : List ℕ
  pub consumed : Consumes before after bytes
  pub received : HasReceived bytes file
  pub stops : IsAtEnd after ⊎ AreRejected bytes

-- enough of some bytes was read: those that the reader had, if they are known
abbrev pub IsReadFrom : Option (List ℕ) → MatrixFile → Type 0
IsReadFrom remaining file = (bytes : List ℕ) × HasReadEnough bytes file × IfSome remaining (λ known. bytes ≡ known)

-- enough of the bytes of some opened file was read; the contract doesn't fix which file
abbrev pub IsOfAFile : {F : Type 0} → (F → Option (List ℕ)) → MatrixFile → Type 0
IsOfAFile {F = F} remaining file = (opened : F) × IsReadFrom (remaining opened) file
