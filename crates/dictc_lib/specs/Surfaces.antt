-- The surfaces of lexicons, and the longest one.
use Rattle.std.specs.Prelude.{◌≡◌, ◌<◌, ◌≤◌, ◌⊎◌, ℕ, ◌+◌, ◌-◌, ◌^◌, min, All, List, [], ◌∷◌, ◌++◌, length, map, Option, Some, None, Ok, Err}
use Rattle.mj_model.specs.Lexicon.{IsLexicon, Row}
use Rattle.mj_model.specs.declared.source_fault.SourceFault.{SourceFault}
use Rattle.mj_model.specs.declared.source_fault.TheConstants.{FIRST_LEXICON_FILE}
use Rattle.dictc_lib.specs.declared.surfaces.Surface.{Surface}

-- the surface of an entry of the lexicon with index `number`
abbrev pub surface_of : ℕ → Row → Surface
surface_of number row = record { bytes = length row.surface; lexicon = number; line = row.line }

-- the surfaces of the entries of a lexicon
abbrev pub surfaces_of : ℕ → List Row → List Surface
surfaces_of number rows = map (surface_of number) rows

-- the lexicon with index `number` has these surfaces
abbrev pub HasSurfaces : ℕ → List ℕ → List Surface → Type 0
HasSurfaces number lexicon surfaces =
    (file : ℕ) × (skipped : ℕ) × (rows : List Row)
    × IsLexicon file 0 lexicon (Ok (record { rows = rows; skipped = skipped })) × (surfaces ≡ surfaces_of number rows)

-- lexicons whose indices start at `number` have these surfaces
abbrev pub HaveSurfaces : ℕ → List (List ℕ) → List Surface → Type 0
HaveSurfaces number [] surfaces = surfaces ≡ []
HaveSurfaces number (lexicon ∷ lexicons) surfaces =
    (its : List Surface) × (others : List Surface) × HasSurfaces number lexicon its
    × HaveSurfaces (number + 1) lexicons others × (surfaces ≡ its ++ others)

-- the first of the longest surfaces; None if there are no surfaces
abbrev pub IsLongestIn : List Surface → Option Surface → Type 0
IsLongestIn surfaces None = surfaces ≡ []
IsLongestIn surfaces (Some longest) =
    (before : List Surface) × (after : List Surface) × (surfaces ≡ before ++ longest ∷ after)
    × All (λ surface. surface.bytes < longest.bytes) before × All (λ surface. surface.bytes ≤ longest.bytes) after

-- the first of the longest surfaces of lexicons
abbrev pub IsLongestOf : List (List ℕ) → Option Surface → Type 0
IsLongestOf lexicons longest = (surfaces : List Surface) × HaveSurfaces 0 lexicons surfaces × IsLongestIn surfaces longest

-- the file number of the lexicon with this index, limited to 32 bits
abbrev pub lexicon_file : ℕ → ℕ
lexicon_file number = min (FIRST_LEXICON_FILE + number) (2 ^ 32 - 1)

-- the first rejected lexicon has this error, and all before it are accepted
pub record HaveFirstFault (lexicons : List (List ℕ)) (fault : SourceFault) : Type 0 where
  pub before : List (List ℕ)
  pub rejected : List ℕ
  pub following : List (List ℕ)
  pub parts : lexicons ≡ before ++ rejected ∷ following
  pub accepted : (surfaces : List Surface) × HaveSurfaces 0 before surfaces
  pub is_fault : IsLexicon (lexicon_file (length before)) 0 rejected (Err fault)

-- the longer of two surfaces, or the first if they are equally long
abbrev pub IsLongerOf : Option Surface → Option Surface → Option Surface → Type 0
IsLongerOf None second longer = longer ≡ second
IsLongerOf (Some one) None longer = longer ≡ Some one
IsLongerOf (Some one) (Some two) longer =
    ((longer ≡ Some one) × (two.bytes ≤ one.bytes)) ⊎ ((longer ≡ Some two) × (one.bytes < two.bytes))
