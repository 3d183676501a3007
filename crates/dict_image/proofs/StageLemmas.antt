-- The tests of an image, stage by stage.
use Rattle.std.proofs.Common.{◌≡◌, ℕ, List, [], ◌∷◌, ◌++◌, inl, inr, ap, ◌∙◌, subst}
use Rattle.mj_model.specs.declared.image_fault.ImageFault.{ImageFault}
use Rattle.image_format.specs.declared.digest_test.DigestTest.{DigestTest}
use Rattle.image_format.specs.declared.header.Header.{Header}
use Rattle.image_format.specs.ImageBytes.{header_of, section}
use Rattle.image_format.specs.ImageFaults.{Test, PassAll, IsFirstFault, IsAccepted, IsImageFault}
use Rattle.image_format.specs.ImageFaults.{prefix_tests, end_tests, header_tests, system_tests, key_tests, token_tests, section_tests}
use Rattle.image_format.specs.Layouts.{key_form}
use Rattle.dict_image.specs.Validation.BeforeMemory.{ReachKeys}

pub pass_both : (xs ys : List Test) → PassAll xs → PassAll ys → PassAll (xs ++ ys)
pass_both [] ys p q = q
pass_both (x ∷ xs) ys p q = (p.0, pass_both xs ys p.1 q)

pub reported_first : (xs ys : List Test) (fault : ImageFault) → IsFirstFault xs fault → IsFirstFault (xs ++ ys) fault
reported_first [] ys fault t = absurd t
reported_first (x ∷ xs) ys fault (inl t) = inl t
reported_first (x ∷ xs) ys fault (inr t) = inr (t.0, reported_first xs ys fault t.1)

pub reported_later : (xs ys : List Test) (fault : ImageFault) → PassAll xs → IsFirstFault ys fault → IsFirstFault (xs ++ ys) fault
reported_later [] ys fault p t = t
reported_later (x ∷ xs) ys fault p t = inr (p.0, reported_later xs ys fault p.1 t)

pub end_reported : (digest : DigestTest) (bytes : List ℕ) (fault : ImageFault) → PassAll (prefix_tests (header_of bytes) bytes) → IsFirstFault (end_tests digest (header_of bytes) bytes) fault → IsImageFault digest bytes fault
end_reported digest bytes fault front reported =
    reported_later (prefix_tests (header_of bytes) bytes) (end_tests digest (header_of bytes) bytes ++ section_tests (header_of bytes) bytes) fault front
    (reported_first (end_tests digest (header_of bytes) bytes) (section_tests (header_of bytes) bytes) fault reported)

pub section_reported : (digest : DigestTest) (bytes : List ℕ) (h : Header) (fault : ImageFault) → h ≡ header_of bytes → PassAll (prefix_tests (header_of bytes) bytes) → PassAll (end_tests digest (header_of bytes) bytes) → IsFirstFault (section_tests h bytes) fault → IsImageFault digest bytes fault
section_reported digest bytes h fault e front end reported =
    reported_later (prefix_tests (header_of bytes) bytes) (end_tests digest (header_of bytes) bytes ++ section_tests (header_of bytes) bytes) fault front
    (reported_later (end_tests digest (header_of bytes) bytes) (section_tests (header_of bytes) bytes) fault end (subst (λ (g : Header). IsFirstFault (section_tests g bytes) fault) e reported))

pub all_pass : (digest : DigestTest) (bytes : List ℕ) (h : Header) → h ≡ header_of bytes → PassAll (prefix_tests (header_of bytes) bytes) → PassAll (end_tests digest (header_of bytes) bytes) → PassAll (section_tests h bytes) → IsAccepted digest bytes
all_pass digest bytes h e front end rest =
    pass_both (prefix_tests (header_of bytes) bytes) (end_tests digest (header_of bytes) bytes ++ section_tests (header_of bytes) bytes) front
    (pass_both (end_tests digest (header_of bytes) bytes) (section_tests (header_of bytes) bytes) end (subst (λ (g : Header). PassAll (section_tests g bytes)) e rest))

-- accepted bytes pass the tests before those of the keys
pass_prefix : (xs ys : List Test) → PassAll (xs ++ ys) → PassAll xs × PassAll ys
pass_prefix [] ys p = (tt, p)
pass_prefix (x ∷ xs) ys p = let more = pass_prefix xs ys p.1 in ((p.0, more.0), more.1)

pub to_keys : (digest : DigestTest) (bytes : List ℕ) → IsAccepted digest bytes → ReachKeys digest bytes
to_keys digest bytes accepted =
    let h = header_of bytes in
    let front = pass_prefix (prefix_tests h bytes) (end_tests digest h bytes ++ section_tests h bytes) accepted in
    let ends = pass_prefix (end_tests digest h bytes) (section_tests h bytes) front.1 in
    let keys : List Test = key_tests (key_form h.layout) h.groups (section bytes 5) ++ token_tests h (section bytes 6) (section bytes 7) (section bytes 8) in
    let system : List Test = system_tests h (section bytes 1) (section bytes 2) (section bytes 3) (section bytes 4) in
    let numbers = pass_prefix (header_tests h) (system ++ keys) ends.1 in
    (front.0, ends.0, (numbers.0, (pass_prefix system keys numbers.1).0))

-- ---- stages on equal sections

pub same_system : (h : Header) (s1 s2 s3 s4 t1 t2 t3 t4 : List ℕ) → s1 ≡ t1 → s2 ≡ t2 → s3 ≡ t3 → s4 ≡ t4 → system_tests h s1 s2 s3 s4 ≡ system_tests h t1 t2 t3 t4
same_system h s1 s2 s3 s4 t1 t2 t3 t4 e1 e2 e3 e4 =
    ap (λ (xs : List ℕ). system_tests h xs s2 s3 s4) e1 ∙ ap (λ (xs : List ℕ). system_tests h t1 xs s3 s4) e2
    ∙ ap (λ (xs : List ℕ). system_tests h t1 t2 xs s4) e3 ∙ ap (λ (xs : List ℕ). system_tests h t1 t2 t3 xs) e4

pub same_tokens : (h : Header) (s1 s2 s3 t1 t2 t3 : List ℕ) → s1 ≡ t1 → s2 ≡ t2 → s3 ≡ t3 → token_tests h s1 s2 s3 ≡ token_tests h t1 t2 t3
same_tokens h s1 s2 s3 t1 t2 t3 e1 e2 e3 =
    ap (λ (xs : List ℕ). token_tests h xs s2 s3) e1 ∙ ap (λ (xs : List ℕ). token_tests h t1 xs s3) e2 ∙ ap (λ (xs : List ℕ). token_tests h t1 t2 xs) e3
