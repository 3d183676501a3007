-- UTF-8 by its first byte. The kit's rule, on a byte and the three before it, determines the bytes
-- that may follow.
use Rattle.std.proofs.Common.{◌≡◌, ℕ, ◌<◌, ◌≤◌, ◌↔◌, List, [], ◌∷◌, IsUtf8, inl, inr, arith}
use Rattle.std.proofs.lemmas.Str.{IsUtf8-append}
use Rattle.simdutf8.specs.Steps.{Step, StepsThen, IsClosed, least_after, most_after}
use Rattle.simdutf8.specs.Steps.Step.{first, second, later}
use Rattle.simdutf8.proofs.Chars.{least_is, most_is, StepsThen-IsUtf8, closed-IsUtf8}
use Rattle.dict_image.specs.declared.validation.utf8_state.Utf8State.TheVariants.{Between, OneTail, TwoTails, ThreeTails, AfterE0, AfterEd, AfterF0, AfterF4, Broken}
use Rattle.dict_image.specs.Validation.Utf8States.{ByteThen, IsOneTail, AreTwoTails, IsAfter}

abbrev IsTail : ℕ → Type 0
IsTail b = (0x80 ≤ b) × (b ≤ 0xBF)

-- ---- characters

utf8 : (bytes : List ℕ) → StepsThen IsClosed 0 0 0 bytes → IsUtf8 bytes
utf8 bytes steps = (StepsThen-IsUtf8 bytes).0 steps

two_bytes : (a b : ℕ) (more : List ℕ) → (0xC2 ≤ a) × (a ≤ 0xDF) → IsTail b → IsUtf8 more → IsUtf8 (a ∷ b ∷ more)
two_bytes a b more h k u =
    let l = least_is a in
    let m = most_is a in
    IsUtf8-append (a ∷ b ∷ []) more
    (utf8 (a ∷ b ∷ []) (first (omega arith) (inr (omega arith)), (second (omega arith) (omega arith) (omega arith), omega arith))) u

three_bytes : (a b c : ℕ) (more : List ℕ) → (0xE0 ≤ a) × (a ≤ 0xEF) → (least_after a ≤ b) × (b ≤ most_after a) → IsTail c → IsUtf8 more → IsUtf8 (a ∷ b ∷ c ∷ more)
three_bytes a b c more h k j u =
    let l = least_is a in
    let m = most_is a in
    IsUtf8-append (a ∷ b ∷ c ∷ []) more
    (utf8 (a ∷ b ∷ c ∷ []) (first (omega arith) (inr (omega arith)), (second (omega arith) (omega arith) k, (later (inr (omega arith)) (omega arith) (omega arith), omega arith)))) u

four_bytes : (a b c d : ℕ) (more : List ℕ) → (0xF0 ≤ a) × (a ≤ 0xF4) → (least_after a ≤ b) × (b ≤ most_after a) → IsTail c → IsTail d → IsUtf8 more → IsUtf8 (a ∷ b ∷ c ∷ d ∷ more)
four_bytes a b c d more h k j i u =
    let l = least_is a in
    let m = most_is a in
    IsUtf8-append (a ∷ b ∷ c ∷ d ∷ []) more
    (utf8 (a ∷ b ∷ c ∷ d ∷ [])
    (first (omega arith) (inr (omega arith)), (second (omega arith) (omega arith) k, (later (inr (omega arith)) (omega arith) (omega arith), (later (inl (omega arith)) (omega arith) (omega arith), omega arith)))))
    u

-- ---- the bytes after a first byte

steps : (a : ℕ) (more : List ℕ) → IsUtf8 (a ∷ more) → StepsThen IsClosed 0 0 0 (a ∷ more)
steps a more u = (StepsThen-IsUtf8 (a ∷ more)).1 u

-- a second byte lies within its bounds, and no text ends before it
second_of : (a b : ℕ) → 0xC2 ≤ a → Step 0 0 a b → (a ≤ 0xF4) × (least_after a ≤ b) × (b ≤ most_after a)
second_of a b h (first p q) = absurd (omega arith)
second_of a b h (second p q r) = (q.1, r.0, r.1)
second_of a b h (later (inl p) q r) = absurd (omega arith)
second_of a b h (later (inr p) q r) = absurd (omega arith)

third_of : (a b c : ℕ) → 0xE0 ≤ a → Step 0 a b c → IsTail c
third_of a b c h (first p q) = absurd (omega arith)
third_of a b c h (second p q r) = absurd (omega arith)
third_of a b c h (later p q r) = omega arith

fourth_of : (a b c d : ℕ) → 0xF0 ≤ a → Step a b c d → IsTail d
fourth_of a b c d h (first p q) = absurd (omega arith)
fourth_of a b c d h (second p q r) = absurd (omega arith)
fourth_of a b c d h (later p q r) = omega arith

third_tail : (a b : ℕ) (more : List ℕ) → (0xE0 ≤ a) × (a ≤ 0xEF) → IsTail b → StepsThen IsClosed 0 a b more → IsOneTail more
third_tail a b [] h k s = absurd (omega arith)
third_tail a b (c ∷ more) h k s =
    let t = third_of a b c h.0 s.0 in
    (t.0, t.1, closed-IsUtf8 a b c more (omega arith) s.1)

fourth_tail : (a b c : ℕ) (more : List ℕ) → (0xF0 ≤ a) × (a ≤ 0xF4) → IsTail b → IsTail c → StepsThen IsClosed a b c more → IsOneTail more
fourth_tail a b c [] h k j s = absurd (omega arith)
fourth_tail a b c (d ∷ more) h k j s =
    let t = fourth_of a b c d h.0 s.0 in
    (t.0, t.1, closed-IsUtf8 b c d more (omega arith) s.1)

two_tails : (a b : ℕ) (more : List ℕ) → (0xF0 ≤ a) × (a ≤ 0xF4) → IsTail b → StepsThen IsClosed 0 a b more → AreTwoTails more
two_tails a b [] h k s = absurd (omega arith)
two_tails a b (c ∷ more) h k s =
    let t = third_of a b c (omega arith) s.0 in
    (t.0, t.1, fourth_tail a b c more h k t s.1)

-- ---- the characters that a first byte starts

pub one_started : (a : ℕ) → a ≤ 0x7F → IsAfter Between a Between
one_started a h more = (
  λ u. closed-IsUtf8 0 0 a more (omega arith) (steps a more u).1,
  λ u. IsUtf8-append (a ∷ []) more (utf8 (a ∷ []) (first (omega arith) (inl (omega arith)), omega arith)) u,
)

two_from : (a : ℕ) (more : List ℕ) → (0xC2 ≤ a) × (a ≤ 0xDF) → StepsThen IsClosed 0 0 a more → IsOneTail more
two_from a [] h s = absurd (omega arith)
two_from a (b ∷ more) h s =
    let t = second_of a b h.0 s.0 in
    let l = least_is a in
    let m = most_is a in
    (omega arith, omega arith, closed-IsUtf8 0 a b more (omega arith) s.1)

two_to : (a : ℕ) (more : List ℕ) → (0xC2 ≤ a) × (a ≤ 0xDF) → IsOneTail more → IsUtf8 (a ∷ more)
two_to a [] h t = absurd t
two_to a (b ∷ more) h t = two_bytes a b more h (t.0, t.1) t.2

pub two_started : (a : ℕ) → (0xC2 ≤ a) × (a ≤ 0xDF) → IsAfter Between a OneTail
two_started a h more = (λ u. two_from a more h (steps a more u).1, two_to a more h)

three_from : (a least most : ℕ) (more : List ℕ) → (0xE0 ≤ a) × (a ≤ 0xEF) → least_after a ≡ least → most_after a ≡ most → StepsThen IsClosed 0 0 a more → ByteThen least most IsOneTail more
three_from a least most [] h l m s = absurd (omega arith)
three_from a least most (b ∷ more) h l m s =
    let t = second_of a b (omega arith) s.0 in
    let low = least_is a in
    let high = most_is a in
    (omega arith, omega arith, third_tail a b more h (omega arith) s.1)

three_to : (a least most : ℕ) (more : List ℕ) → (0xE0 ≤ a) × (a ≤ 0xEF) → least_after a ≡ least → most_after a ≡ most → ByteThen least most IsOneTail more → IsUtf8 (a ∷ more)
three_to a least most [] h l m t = absurd t
three_to a least most (b ∷ []) h l m t = absurd t.2
three_to a least most (b ∷ c ∷ more) h l m t = three_bytes a b c more h (omega arith) (t.2.0, t.2.1) t.2.2

three_started : (a least most : ℕ) → (0xE0 ≤ a) × (a ≤ 0xEF) → least_after a ≡ least → most_after a ≡ most → (more : List ℕ) → IsUtf8 (a ∷ more) ↔ ByteThen least most IsOneTail more
three_started a least most h l m more = (λ u. three_from a least most more h l m (steps a more u).1, three_to a least most more h l m)

four_from : (a least most : ℕ) (more : List ℕ) → (0xF0 ≤ a) × (a ≤ 0xF4) → least_after a ≡ least → most_after a ≡ most → StepsThen IsClosed 0 0 a more → ByteThen least most AreTwoTails more
four_from a least most [] h l m s = absurd (omega arith)
four_from a least most (b ∷ more) h l m s =
    let t = second_of a b (omega arith) s.0 in
    let low = least_is a in
    let high = most_is a in
    (omega arith, omega arith, two_tails a b more h (omega arith) s.1)

four_to : (a least most : ℕ) (more : List ℕ) → (0xF0 ≤ a) × (a ≤ 0xF4) → least_after a ≡ least → most_after a ≡ most → ByteThen least most AreTwoTails more → IsUtf8 (a ∷ more)
four_to a least most [] h l m t = absurd t
four_to a least most (b ∷ []) h l m t = absurd t.2
four_to a least most (b ∷ c ∷ []) h l m t = absurd t.2.2
four_to a least most (b ∷ c ∷ d ∷ more) h l m t = four_bytes a b c d more h (omega arith) (t.2.0, t.2.1) (t.2.2.0, t.2.2.1) t.2.2.2

four_started : (a least most : ℕ) → (0xF0 ≤ a) × (a ≤ 0xF4) → least_after a ≡ least → most_after a ≡ most → (more : List ℕ) → IsUtf8 (a ∷ more) ↔ ByteThen least most AreTwoTails more
four_started a least most h l m more = (λ u. four_from a least most more h l m (steps a more u).1, four_to a least most more h l m)

pub started_by_e0 : (a : ℕ) → a ≡ 0xE0 → IsAfter Between a AfterE0
started_by_e0 a e = three_started a 0xA0 0xBF (omega arith) (let l = least_is a in omega arith) (let m = most_is a in omega arith)

pub started_by_ed : (a : ℕ) → a ≡ 0xED → IsAfter Between a AfterEd
started_by_ed a e = three_started a 0x80 0x9F (omega arith) (let l = least_is a in omega arith) (let m = most_is a in omega arith)

pub started_by_f0 : (a : ℕ) → a ≡ 0xF0 → IsAfter Between a AfterF0
started_by_f0 a e = four_started a 0x90 0xBF (omega arith) (let l = least_is a in omega arith) (let m = most_is a in omega arith)

pub started_by_f4 : (a : ℕ) → a ≡ 0xF4 → IsAfter Between a AfterF4
started_by_f4 a e = four_started a 0x80 0x8F (omega arith) (let l = least_is a in omega arith) (let m = most_is a in omega arith)

pub started_before_ed : (a : ℕ) → (0xE1 ≤ a) × (a ≤ 0xEC) → IsAfter Between a TwoTails
started_before_ed a h = three_started a 0x80 0xBF (omega arith) (let l = least_is a in omega arith) (let m = most_is a in omega arith)

pub started_past_ed : (a : ℕ) → (0xEE ≤ a) × (a ≤ 0xEF) → IsAfter Between a TwoTails
started_past_ed a h = three_started a 0x80 0xBF (omega arith) (let l = least_is a in omega arith) (let m = most_is a in omega arith)

pub started_before_f4 : (a : ℕ) → (0xF1 ≤ a) × (a ≤ 0xF3) → IsAfter Between a ThreeTails
started_before_f4 a h = four_started a 0x80 0xBF (omega arith) (let l = least_is a in omega arith) (let m = most_is a in omega arith)

-- a byte that starts no character
no_first : (a : ℕ) → 0x80 ≤ a → Step 0 0 0 a → 0xC0 ≤ a
no_first a h (first p (inl q)) = absurd (omega arith)
no_first a h (first p (inr q)) = q
no_first a h (second p q r) = absurd (omega arith)
no_first a h (later (inl p) q r) = absurd (omega arith)
no_first a h (later (inr p) q r) = absurd (omega arith)

no_second : (a b : ℕ) → (0xC2 ≤ a → 0xF4 < a) → 0xC0 ≤ a → Step 0 0 a b → ⊥
no_second a b h lead (first p q) = omega arith
no_second a b h lead (second p q r) = omega arith
no_second a b h lead (later (inl p) q r) = omega arith
no_second a b h lead (later (inr p) q r) = omega arith

none_from : (a : ℕ) (more : List ℕ) → 0x80 ≤ a → (0xC2 ≤ a → 0xF4 < a) → StepsThen IsClosed 0 0 0 (a ∷ more) → ⊥
none_from a [] h k s = let lead = no_first a h s.0 in omega arith
none_from a (b ∷ more) h k s = no_second a b k (no_first a h s.0) s.1.0

pub none_started : (a : ℕ) → 0x80 ≤ a → (0xC2 ≤ a → 0xF4 < a) → IsAfter Between a Broken
none_started a h k more = (λ u. none_from a more h k (steps a more u), λ none. absurd none)
