-- The first error of a source.
use Rattle.std.specs.Prelude.{◌≡◌, ℕ, List, [], ◌∷◌, ◌⊎◌, Option, Some, None}
use Rattle.mj_model.specs.declared.source_fault.SourceFault.{SourceFault}
use Rattle.mj_model.specs.declared.source_fault.SourceKind.{SourceKind}
use Rattle.mj_model.specs.declared.source_fault.SourceKind.TheVariants.{Memory}

-- the error of a line, or else that of the following lines
abbrev pub fault_or : ℕ → ℕ → Option SourceKind → Option SourceFault → Option SourceFault
fault_or file line None others = others
fault_or file line (Some kind) others = Some (record { file = file; line = line; kind = kind })

-- the first error that a test finds in the numbered lines of a file
abbrev pub first_fault : ℕ → (List ℕ → Option SourceKind) → List (ℕ × List ℕ) → Option SourceFault
first_fault file test [] = None
first_fault file test (line ∷ lines) = fault_or file line.0 (test line.1) (first_fault file test lines)

-- the error is a failed allocation, or it has this cause
abbrev pub IsMemoryOr : SourceFault → Type 0 → Type 0
IsMemoryOr fault Cause = (fault.kind ≡ Memory) ⊎ Cause
