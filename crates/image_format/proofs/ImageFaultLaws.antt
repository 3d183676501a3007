-- Image bytes are well formed, or have exactly one first error.
use Rattle.std.proofs.Common.{◌≡◌, ℕ, zero, suc, ◌<◌, ◌≤◌, ◌⊎◌, List, [], ◌∷◌, ◌++◌, sym, ap, ◌∙◌, inl, inr, refl, arith, subst}
use Rattle.std.proofs.lemmas.Bool.{cases_eq, cases_order}
use Rattle.mj_model.specs.declared.image_fault.ImageFault.{ImageFault}
use Rattle.mj_model.specs.declared.image_fault.ImageFault.TheVariants.{BadKey, BadToken, BadText}
use Rattle.image_format.specs.declared.digest_test.DigestTest.{DigestTest}
use Rattle.image_format.specs.declared.header.Header.{Header}
use Rattle.image_format.specs.declared.layout.KeyForm.{KeyForm}
use Rattle.image_format.specs.declared.layout.KeyForm.TheVariants as key
use Rattle.image_format.specs.ImageBytes.{header_of, section}
use Rattle.image_format.specs.Layouts.{key_form}
use Rattle.image_format.specs.ImageFaults.{key_tests, token_tests, Test, unless, unless_each, IsLeastWithout, PassAll, IsFirstFault, IsAccepted, IsImageFault, IsIntact, IsWellFormed, HasDigest, image_tests}

-- a sound test reports no error if it passes, an error if it does not, and never two errors
pub record IsSound (test : Test) : Type 0 where
  pub not_both : (fault : ImageFault) → test.Passes → test.Reports fault → ⊥
  pub one : (f g : ImageFault) → test.Reports f → test.Reports g → f ≡ g
  pub settled : (test.Passes → ⊥) → ((fault : ImageFault) → test.Reports fault → ⊥) → ⊥

unless_sound : (Fact : Type 0) (fault : ImageFault) → IsSound (unless Fact fault)
unless_sound Fact fault = record { not_both = λ reported passes reports. reports.0 passes; one = λ f g h k. h.1 ∙ sym k.1; settled = λ fails silent. silent fault (fails, refl) }

least_by : (n : ℕ) (Fact : ℕ → Type 0) (i j : ℕ) → IsLeastWithout n Fact i → IsLeastWithout n Fact j → (i ≡ j) ⊎ ((i < j) ⊎ (j < i)) → i ≡ j
least_by n Fact i j h k (inl same) = same
least_by n Fact i j h k (inr (inl less)) = absurd (h.without (k.before i less))
least_by n Fact i j h k (inr (inr less)) = absurd (k.without (h.before j less))

-- if there is no least number without the fact, the fact holds for all numbers
each_settled : (n : ℕ) (Fact : ℕ → Type 0) (k : ℕ) → k ≤ n → ((i : ℕ) → IsLeastWithout n Fact i → ⊥) → (((i : ℕ) → i < k → Fact i) → ⊥) → ⊥
each_settled n Fact zero within silent fails = fails (λ i less. absurd (omega (arith, less)))
each_settled n Fact (suc k) within silent fails =
    each_settled n Fact k (omega (arith, within)) silent (λ before. silent k (record {
      below = omega (arith, within);
      before = before;
      without = λ here. fails (λ i less. by_last before here i less (cases_eq i k));
    }))
  where
    by_last : ((i : ℕ) → i < k → Fact i) → Fact k → (i : ℕ) → i < suc k → (i ≡ k) ⊎ (i ≡ k → ⊥) → Fact i
    by_last before here i less (inl same) = subst Fact (sym same) here
    by_last before here i less (inr other) = before i (omega (arith, less, other))

each_sound : (n : ℕ) (Fact : ℕ → Type 0) (fault : ℕ → ImageFault) → IsSound (unless_each n Fact fault)
each_sound n Fact fault = record {
  not_both = λ reported passes reports. reports.1.without (passes reports.0 reports.1.below);
  one = λ f g h k. h.2 ∙ ap fault (least_by n Fact h.0 k.0 h.1 k.1 (cases_order h.0 k.0)) ∙ sym k.2;
  settled = λ fails silent. each_settled n Fact n (omega arith) (λ i least. silent (fault i) (i, least, refl)) fails;
}

abbrev AreSound : List Test → Type 0
AreSound [] = Unit {0}
AreSound (test ∷ tests) = IsSound test × AreSound tests

none_reported : (tests : List Test) (fault : ImageFault) → AreSound tests → PassAll tests → IsFirstFault tests fault → ⊥
none_reported [] fault sound all reported = reported
none_reported (test ∷ tests) fault sound all (inl reports) = sound.0.not_both fault all.0 reports
none_reported (test ∷ tests) fault sound all (inr later) = none_reported tests fault sound.1 all.1 later.1

some_reported : (tests : List Test) → AreSound tests → (PassAll tests → ⊥) → ((fault : ImageFault) → IsFirstFault tests fault → ⊥) → ⊥
some_reported [] sound fails silent = fails tt
some_reported (test ∷ tests) sound fails silent =
    sound.0.settled (λ passes. some_reported tests sound.1 (λ all. fails (passes, all)) (λ fault reported. silent fault (inr (passes, reported)))) (λ fault reports. silent fault (inl reports))

one_reported : (tests : List Test) (f g : ImageFault) → AreSound tests → IsFirstFault tests f → IsFirstFault tests g → f ≡ g
one_reported [] f g sound h k = absurd h
one_reported (test ∷ tests) f g sound (inl h) (inl k) = sound.0.one f g h k
one_reported (test ∷ tests) f g sound (inl h) (inr k) = absurd (sound.0.not_both f k.0 h)
one_reported (test ∷ tests) f g sound (inr h) (inl k) = absurd (sound.0.not_both g h.0 k)
one_reported (test ∷ tests) f g sound (inr h) (inr k) = one_reported tests f g sound.1 h.1 k.1

both_sound : (xs ys : List Test) → AreSound xs → AreSound ys → AreSound (xs ++ ys)
both_sound [] ys x y = y
both_sound (test ∷ xs) ys x y = (x.0, both_sound xs ys x.1 y)

keys_sound : (form : KeyForm) (groups : ℕ) (keys : List ℕ) → AreSound (key_tests form groups keys)
keys_sound key.Listed groups keys = (each_sound _ _ BadKey, (unless_sound _ _, tt))
keys_sound key.Cells groups keys = (unless_sound _ _, (each_sound _ _ BadKey, tt))

tokens_sound : (h : Header) (groups tokens features : List ℕ) → AreSound (token_tests h groups tokens features)
tokens_sound h groups tokens features = (unless_sound _ _, (unless_sound _ _, (each_sound _ _ BadToken, (each_sound _ _ BadText, tt))))

all_sound : (digest : DigestTest) (bytes : List ℕ) → AreSound (image_tests digest (header_of bytes) bytes)
all_sound digest bytes =
    let h = header_of bytes in
    let keys = key_tests (key_form h.layout) h.groups (section bytes 5) in
    let tokens = token_tests h (section bytes 6) (section bytes 7) (section bytes 8) in
    let lexicon = both_sound keys tokens (keys_sound (key_form h.layout) h.groups (section bytes 5)) (tokens_sound h (section bytes 6) (section bytes 7) (section bytes 8)) in
    (unless_sound _ _, (unless_sound _ _, (unless_sound _ _, (unless_sound _ _, (unless_sound _ _, (unless_sound _ _, (unless_sound _ _, (unless_sound _ _, (unless_sound _ _, (unless_sound _ _, (unless_sound _ _, lexicon)))))))))))

-- an accepted image has no error
pub no_fault : (digest : DigestTest) (bytes : List ℕ) (fault : ImageFault) → IsAccepted digest bytes → IsImageFault digest bytes fault → ⊥
no_fault digest bytes fault accepted h = none_reported (image_tests digest (header_of bytes) bytes) fault (all_sound digest bytes) accepted h

-- bytes have at most one first error
pub fault_is_one : (digest : DigestTest) (bytes : List ℕ) (f g : ImageFault) → IsImageFault digest bytes f → IsImageFault digest bytes g → f ≡ g
fault_is_one digest bytes f g h k = one_reported (image_tests digest (header_of bytes) bytes) f g (all_sound digest bytes) h k

-- bytes that are not accepted have an error
pub some_fault : (digest : DigestTest) (bytes : List ℕ) → (IsAccepted digest bytes → ⊥) → ((fault : ImageFault) → IsImageFault digest bytes fault → ⊥) → ⊥
some_fault digest bytes fails silent = some_reported (image_tests digest (header_of bytes) bytes) (all_sound digest bytes) fails silent

-- an intact image is well formed and has the right SHA-256; its test is the third of `end_tests`
pub well_formed_of : (bytes : List ℕ) → IsIntact bytes → IsWellFormed bytes × HasDigest bytes
well_formed_of bytes w = ((w.0, (w.1.0, (w.1.1.0, (w.1.1.1.0, (w.1.1.1.1.0, ((λ _. tt), w.1.1.1.1.1.1)))))), w.1.1.1.1.1.0)

pub intact_of : (bytes : List ℕ) → IsWellFormed bytes × HasDigest bytes → IsIntact bytes
intact_of bytes both = let w = both.0 in (w.0, (w.1.0, (w.1.1.0, (w.1.1.1.0, (w.1.1.1.1.0, (both.1, w.1.1.1.1.1.1))))))
