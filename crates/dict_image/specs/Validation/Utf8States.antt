-- States of a UTF-8 decoder, by the bytes that may follow. (RFC 3629, section 4)
use Rattle.std.specs.Prelude.{ℕ, ◌≤◌, ◌↔◌, List, [], ◌∷◌, ◌++◌, IsUtf8}
use Rattle.dict_image.specs.declared.validation.utf8_state.Utf8State.{Utf8State}
use Rattle.dict_image.specs.declared.validation.utf8_state.Utf8State.TheVariants.{Between, OneTail, TwoTails, ThreeTails, AfterE0, AfterEd, AfterF0, AfterF4, Broken}

-- a byte from `least` to `most`, then bytes that satisfy `After`
abbrev pub ByteThen : ℕ → ℕ → (List ℕ → Type 0) → List ℕ → Type 0
ByteThen least most After [] = ⊥
ByteThen least most After (byte ∷ more) = (least ≤ byte) × (byte ≤ most) × After more

-- the last tail byte of a character, then UTF-8
abbrev pub IsOneTail : List ℕ → Type 0
IsOneTail = ByteThen 0x80 0xBF IsUtf8

-- the last two tail bytes of a character, then UTF-8
abbrev pub AreTwoTails : List ℕ → Type 0
AreTwoTails = ByteThen 0x80 0xBF IsOneTail

-- the last three tail bytes of a character, then UTF-8
abbrev pub AreThreeTails : List ℕ → Type 0
AreThreeTails = ByteThen 0x80 0xBF AreTwoTails

-- the bytes that may follow a state
abbrev pub Accepts : Utf8State → List ℕ → Type 0
Accepts Between = IsUtf8
Accepts OneTail = IsOneTail
Accepts TwoTails = AreTwoTails
Accepts ThreeTails = AreThreeTails
Accepts AfterE0 = ByteThen 0xA0 0xBF IsOneTail
Accepts AfterEd = ByteThen 0x80 0x9F IsOneTail
Accepts AfterF0 = ByteThen 0x90 0xBF AreTwoTails
Accepts AfterF4 = ByteThen 0x80 0x8F AreTwoTails
Accepts Broken = λ _. ⊥

-- the state after `bytes`: it accepts exactly the bytes that complete them to UTF-8
abbrev pub HasUtf8State : List ℕ → Utf8State → Type 0
HasUtf8State bytes state = (more : List ℕ) → IsUtf8 (bytes ++ more) ↔ Accepts state more

-- the state after one more byte
abbrev pub IsAfter : Utf8State → ℕ → Utf8State → Type 0
IsAfter state byte next = (more : List ℕ) → Accepts state (byte ∷ more) ↔ Accepts next more
