-- What a reader gave.
use Rattle.std.specs.Prelude.{◌≡◌, ℕ, ◌+◌, ◌≤◌, ◌<◌, List, ◌++◌, Option, IfSome, length}
use Rattle.std.specs.Io.KnownBytes.{Consumes, IsAtEnd}
use Rattle.programs.specs.declared.prefix_read.PrefixRead.{PrefixRead}
use Rattle.programs.specs.declared.prefix_read.PrefixRead.TheVariants.{Whole, More}

-- between two states the reader gave at least `count` bytes
abbrev pub GivesAtLeast : ℕ → Option (List ℕ) → Option (List ℕ) → Type 0
GivesAtLeast count before after = (bytes : List ℕ) × Consumes before after bytes × (count ≤ length bytes)

-- the bytes of some file when it was opened, if they are known; the contract doesn't fix which file
abbrev pub AreOfAFile : {F : Type 0} → (F → Option (List ℕ)) → List ℕ → Type 0
AreOfAFile {F = F} remaining bytes = (opened : F) × IfSome (remaining opened) (λ known. bytes ≡ known)

-- between two states the reader gave the bytes that `now` has after `earlier`
abbrev pub IsReadOn : List ℕ → Option (List ℕ) → Option (List ℕ) → List ℕ → Type 0
IsReadOn earlier before after now = (part : List ℕ) × Consumes before after part × (now ≡ earlier ++ part)

-- the result of at most `reads` reads of at most `width` bytes each, until more than `most` bytes
-- were given: either the reader ended and gave no more than `most`, or it gave more, and each read
-- that was made gave at least one byte
abbrev pub IsPrefixRead : {P : Type 0} → (P → List ℕ → Type 0) → ℕ → ℕ → ℕ → List ℕ → Option (List ℕ) → Option (List ℕ) → PrefixRead P → Type 0
IsPrefixRead given most reads width earlier before after (Whole taken) =
    (now : List ℕ) × given taken now × IsReadOn earlier before after now × IsAtEnd after × (length now ≤ length earlier + most)
IsPrefixRead given most reads width earlier before after (More taken left) =
    (now : List ℕ) × given taken now × IsReadOn earlier before after now
    × (length earlier + most < length now) × (length earlier + reads ≤ length now + left)
    × (length now ≤ length earlier + most + width)
