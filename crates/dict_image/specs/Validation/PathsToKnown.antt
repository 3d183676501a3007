-- States, and the path back over them to a cached cell.
use Rattle.std.specs.Prelude.{◌≡◌, ℕ, ◌<◌, ◌≤◌, pos, List, [], ◌∷◌, length, reverse}
use Rattle.mj_model.specs.CellMap.{Cell, base, check}
use Rattle.dict_image.specs.declared.validation.keys.KnownCell.{KnownCell}
use Rattle.dict_image.specs.Validation.KeyPrefixes.{IsKeyPrefixOf}

-- a cell from which steps lead
pub record IsState (cells : List Cell) (s : ℕ) : Type 0 where
  pub within : s < length cells
  pub from : ℕ
  pub based : base cells s ≡ pos from
  pub positive : 1 ≤ from

-- steps lead from cell `from` over these states, the last of which is `to`
abbrev pub LeadOn : List Cell → ℕ → List ℕ → ℕ → Type 0
LeadOn cells from [] to = from ≡ to
LeadOn cells from (t ∷ ts) to = (check cells t ≡ pos from) × IsState cells t × LeadOn cells t ts to

-- `path` holds the states on the path back from `state`, which is the first, to a cached cell
pub record IsPathToKnown (cells : List Cell) (state : ℕ) (path : List ℕ) (known : KnownCell) : Type 0 where
  pub prefix : IsKeyPrefixOf cells known.cell known.prefix
  pub leads : LeadOn cells known.cell (reverse path) state
