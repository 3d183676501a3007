-- The dictionary of a list of lexicons: their accepted lines, sorted by the bytes of the surfaces.
-- Lines with equal surfaces keep their source order. The number of an entry is its index in this
-- list.
use Rattle.std.specs.Prelude.{◌≡◌, ℕ, ◌+◌, min, if◌then◌else◌, List, [], ◌∷◌, ◌++◌, length, map, Option, Some, None, Result, Ok, Err, IsSortedByKey, ◌⊎◌}
use Rattle.std.specs.Cmp.Lexicographic.{slice_cmp}
use Rattle.std.specs.List.{enumerate_from}
use Rattle.std.specs.List.Sorted.{IsStableByKey, IsPermutation}
use Rattle.std.specs.Ordering.{nat_cmp}
use Rattle.mj_model.specs.declared.source_fault.TheConstants.{LAST_LEXICON_FILE}
use Rattle.mj_model.specs.declared.source_fault.SourceFault.{SourceFault}
use Rattle.mj_model.specs.declared.source_fault.SourceKind.TheVariants.{IdOutside}
use Rattle.mj_model.specs.declared.matrix_sizes.MatrixSizes.{MatrixSizes}
use Rattle.mj_model.specs.Connection.{is_pair}
use Rattle.mj_model.specs.Lexicon.{Row, Reading, IsLexicon}
use Rattle.mj_model.specs.Tables.{Lexeme}

abbrev pub surface_of : Row → List ℕ
surface_of row = row.surface

-- the rows sorted by the bytes of their surfaces; rows with equal surfaces keep their order
pub record IsInOrder (rows ordered : List Row) : Type 0 where
  pub same_rows : IsPermutation rows ordered
  pub by_surface : IsSortedByKey surface_of (slice_cmp nat_cmp) ordered
  pub in_source_order : IsStableByKey surface_of (slice_cmp nat_cmp) rows ordered

-- the entry of a numbered row
abbrev pub lexeme_of : (ℕ × Row) → Lexeme
lexeme_of r = record { surface = r.1.surface; token = record { number = r.0; left = r.1.left; right = r.1.right; cost = r.1.cost; feature = r.1.feature } }

-- the lexicon of a dictionary with these rows
abbrev pub IsLexiconOf : List Row → List Lexeme → Type 0
IsLexiconOf rows lexicon = (ordered : List Row) × IsInOrder rows ordered × (lexicon ≡ map lexeme_of (enumerate_from 0 ordered))

-- the error of the first row whose ids lie outside the sizes
abbrev pub first_outside : ℕ → MatrixSizes → List Row → Option SourceFault
first_outside file sizes [] = None
first_outside file sizes (row ∷ rows) =
    if is_pair sizes row.right row.left
    then first_outside file sizes rows
    else Some (record { file = file; line = row.line; kind = IdOutside })

-- the number of the file after a lexicon, at most `LAST_LEXICON_FILE`
abbrev pub next_file : ℕ → ℕ
next_file file = min (file + 1) LAST_LEXICON_FILE

-- the result of reading the lexicons from number `file` on, after the rows `before`: all rows, or
-- the first error; the contents of each file are checked before its ids
abbrev pub AreLexicons : MatrixSizes → ℕ → List Row → List (List ℕ) → Result (List Row) SourceFault → Type 0
AreLexicons sizes file before [] read = read ≡ Ok before
AreLexicons sizes file before (bytes ∷ more) read =
    ((fault : SourceFault) × IsLexicon file (length before) bytes (Err fault) × (read ≡ Err fault))
    ⊎ ((lines : Reading) × (fault : SourceFault) × IsLexicon file (length before) bytes (Ok lines) × (first_outside file sizes lines.rows ≡ Some fault) × (read ≡ Err fault))
    ⊎ ((lines : Reading) × IsLexicon file (length before) bytes (Ok lines) × (first_outside file sizes lines.rows ≡ None)
    × AreLexicons sizes (next_file file) (before ++ lines.rows) more read)
