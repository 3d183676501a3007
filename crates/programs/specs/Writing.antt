-- What a writer received.
use Rattle.std.specs.Prelude.{ℕ, ◌<◌, List, Option, length, take}
use Rattle.std.specs.Io.KnownBytes.{Appends}

-- the writer received a proper prefix of the bytes
abbrev pub AppendsPrefix : Option (List ℕ) → Option (List ℕ) → List ℕ → Type 0
AppendsPrefix before after bytes = (sent : ℕ) × (sent < length bytes) × Appends before after (take sent bytes)

-- some opened file received these bytes, if its contents are known; the contract doesn't fix which
-- file
abbrev pub WasAppended : {F : Type 0} → (F → Option (List ℕ)) → List ℕ → Type 0
WasAppended {F = F} contents bytes = (before : F) × (after : F) × Appends (contents before) (contents after) bytes
