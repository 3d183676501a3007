-- The error with which an image is rejected, from what is known of the bytes of its file.
use Rattle.std.proofs.Common.{◌≡◌, ℕ, ◌<◌, ◌^◌, List, length, ◌⊎◌, inl, inr, None, Some, sym, subst}
use Rattle.std.specs.Prelude.{Option, IfSome}
use Rattle.mj_model.specs.declared.image_fault.ImageFault.{ImageFault}
use Rattle.mj_model.specs.declared.image_fault.ImageFault.TheVariants.{Memory as NoMemory}
use Rattle.image_format.specs.declared.digest_test.DigestTest.{DigestTest}
use Rattle.image_format.specs.ImageFaults.{IsImageFault}
use Rattle.dict_image.specs.Validation.BeforeMemory.{ReachKeys}
use Rattle.programs.specs.Faults.{Names}
use Rattle.programs.specs.HashedImages.{AgreeOnDigest}
use Rattle.programs.specs.ImageHeads.{IfRejected, IsFaultOrLength, IsErrorOrKnownLength, IsErrorOrLengthAt, IsLoadError, IsErrorOfAFile, IsOutOfMemoryLoad}
use Rattle.programs.specs.Reading.{AreOfAFile}
use Rattle.programs.specs.declared.fault.Fault.{Fault}
use Rattle.programs.specs.declared.fault.Fault.TheVariants as fault
use Rattle.programs.specs.declared.image_reading.ImageReadFault.{ImageReadFault}
use Rattle.programs.specs.declared.image_reading.ImageReadFault.TheVariants.{Image}
use Rattle.programs.proofs.HashLemmas.{keys_alike}

if_some_so : {X : Type 0} (P Q : X → Type 0) (o : Option X) → ((x : X) → P x → Q x) → IfSome o P → IfSome o Q
if_some_so P Q None so p = tt
if_some_so P Q (Some x) so p = so x p

tested_of : (known : Option ℕ) (bytes : List ℕ) (found : ImageFault) → IsErrorOrKnownLength known bytes found → IsFaultOrLength bytes found
tested_of known bytes found (inl theirs) = inl theirs
tested_of known bytes found (inr reported) = inr (reported.0, reported.2)

of_same : (digest : DigestTest) (bytes known : List ℕ) (found : ImageFault) → bytes ≡ known → IsOutOfMemoryLoad digest bytes found ⊎ IsImageFault digest bytes found
    → IsOutOfMemoryLoad digest known found ⊎ (IsImageFault digest known found ⊎ IsFaultOrLength known found)
of_same digest bytes known found same (inl no_memory) = inl (subst (λ (b : List ℕ). IsOutOfMemoryLoad digest b found) same no_memory)
of_same digest bytes known found same (inr theirs) = inr (inl (subst (λ (b : List ℕ). IsImageFault digest b found) same theirs))

-- bytes that pass the tests with the remaining checksum test pass them with the requested one
out_of_memory_alike : (digest left : DigestTest) (bytes : List ℕ) (found : ImageFault) → AgreeOnDigest digest left bytes → (found ≡ NoMemory → ReachKeys left bytes)
    → (found ≡ NoMemory) ⊎ IsImageFault digest bytes found → IsOutOfMemoryLoad digest bytes found ⊎ IsImageFault digest bytes found
out_of_memory_alike digest left bytes found alike keys (inl memory) = inl (memory, keys_alike digest left bytes alike (keys memory))
out_of_memory_alike digest left bytes found alike keys (inr theirs) = inr theirs

-- the rejection of an image's bytes, as an error that names a path
pub reported_so : (IsSo : ImageReadFault → Type 0) (found : ImageFault) (path : List ℕ) (reported : Fault) → IsSo (Image found)
    → Names (λ name. fault.Image name found) path reported → IfRejected IsSo reported
reported_so IsSo found path reported so (inl memory) = subst (IfRejected IsSo) (sym memory) tt
reported_so IsSo found path reported so (inr named) = subst (IfRejected IsSo) (sym named.1) so

module _ {F : Type 0} (remaining : F → Option (List ℕ)) where
  -- the error of a file that was opened
  pub rejected_by : (file : F) (known : Option ℕ) (reported : Fault) → IfRejected (IsErrorOrLengthAt known (remaining file)) reported → IsErrorOfAFile remaining reported
  rejected_by file known (fault.Image path found) checked = (file, if_some_so _ _ (remaining file) (λ bytes is few. tested_of known bytes found (is few)) checked)
  rejected_by file known (fault.File path) checked = tt
  rejected_by file known (fault.Source path found) checked = tt
  rejected_by file known (fault.Sources found) checked = tt
  rejected_by file known (fault.Overlay path found) checked = tt
  rejected_by file known (fault.Format found) checked = tt
  rejected_by file known (fault.Run found) checked = tt
  rejected_by file known fault.Output checked = tt
  rejected_by file known fault.Memory checked = tt

  -- an image that is rejected before it is loaded
  pub read_error : (digest : DigestTest) (reported : Fault) → IsErrorOfAFile remaining reported → IsLoadError digest remaining reported
  read_error digest (fault.Image path found) rejected = (rejected.0, if_some_so _ _ (remaining rejected.0) (λ bytes is few. inr (inr (is few))) rejected.1)
  read_error digest (fault.File path) rejected = tt
  read_error digest (fault.Source path found) rejected = tt
  read_error digest (fault.Sources found) rejected = tt
  read_error digest (fault.Overlay path found) rejected = tt
  read_error digest (fault.Format found) rejected = tt
  read_error digest (fault.Run found) rejected = tt
  read_error digest fault.Output rejected = tt
  read_error digest fault.Memory rejected = tt

  -- the bytes of a file that are rejected while they are loaded
  pub load_error : (digest left : DigestTest) (bytes : List ℕ) (found : ImageFault) → AreOfAFile remaining bytes → AgreeOnDigest digest left bytes
      → (found ≡ NoMemory → ReachKeys left bytes) → (found ≡ NoMemory) ⊎ IsImageFault digest bytes found
      → (opened : F)
      × IfSome (remaining opened) (λ known. length known < 2 ^ 64 → IsOutOfMemoryLoad digest known found ⊎ (IsImageFault digest known found ⊎ IsFaultOrLength known found))
  load_error digest left bytes found are alike keys is =
      let no_memory = out_of_memory_alike digest left bytes found alike keys is in
      (are.0, if_some_so _ _ (remaining are.0) (λ known same few. of_same digest bytes known found same no_memory) are.1)
