-- The table that explains a line: its columns, and the rows of the best path and of the rivals of
-- its words.
use Rattle.std.specs.Prelude.{ℕ, ℤ, ◌-ℤ◌, Bool, true, false, List, [], ◌∷◌, ◌++◌, length, flat_map, Option, Some, None, codes}
use Rattle.std.specs.Fmt.{decimal, signed_decimal}
use Rattle.mj_model.specs.Printed.{feature_of}
use Rattle.mj_model.specs.Tables.{Overlay}
use Rattle.mj_model.specs.Laws.{between}
use Rattle.viterbi.specs.declared.rivals.step.PathStep.{PathStep}
use Rattle.viterbi.specs.declared.rivals.rival_path.RivalPath.{RivalPath}
use Rattle.lattice_view.specs.LatticePrinter.Escapes.{in_cell}
use Rattle.lattice_view.specs.LatticePrinter.Tsv.{cost_cell, tsv_line}

-- the heading of the table
abbrev pub why_heading : List ℕ
why_heading = tsv_line (
    codes "path" ∷ codes "start" ∷ codes "surface" ∷ codes "connection" ∷ codes "cost" ∷ codes "total" ∷ codes "lost" ∷ codes "feature" ∷ [])

-- the path of a row: the best one, or a rival, with what it lost
abbrev pub path_cell : Option ℤ → List ℕ
path_cell None = codes "best"
path_cell (Some by) = codes "rival"

-- the row of a word on a path, with its costs
abbrev pub step_row : Overlay → List ℕ → Option ℤ → PathStep → List ℕ
step_row o line lost s =
    let w = s.word in
    tsv_line (
    path_cell lost ∷ decimal w.start ∷ flat_map in_cell (between line w.start w.end)
    ∷ signed_decimal s.connection ∷ signed_decimal w.cost ∷ signed_decimal s.total
    ∷ cost_cell lost ∷ flat_map in_cell (feature_of o w.origin) ∷ [])

-- the row that replaces words of a rival that are left out
abbrev pub gap_row : ℤ → List ℕ
gap_row by = tsv_line (path_cell (Some by) ∷ [] ∷ codes "..." ∷ [] ∷ [] ∷ [] ∷ cost_cell (Some by) ∷ [] ∷ [])

-- the row for words that are left out, unless the rival meets the best path there
abbrev pub gap_unless : Bool → ℤ → List ℕ
gap_unless true by = []
gap_unless false by = gap_row by

-- the rows of a rival; `best` is the cost of the line's best path
abbrev pub rival_rows : Overlay → List ℕ → ℤ → RivalPath → List ℕ
rival_rows o line best r =
    let by = r.cost -ℤ best in
    gap_unless r.begins by ++ (flat_map (step_row o line (Some by)) r.steps.items ++ gap_unless r.ends by)

-- the rows of a rival, or none if there is no rival
abbrev pub rows_if_some : Overlay → List ℕ → ℤ → Option RivalPath → List ℕ
rows_if_some o line best None = []
rows_if_some o line best (Some r) = rival_rows o line best r

-- the row of EOS, at the end of a line, with the cost of its connection and the cost of the best
-- path
abbrev pub eos_row : List ℕ → ℤ → ℤ → List ℕ
eos_row line connection total =
    tsv_line (path_cell None ∷ decimal (length line) ∷ codes "EOS" ∷ signed_decimal connection ∷ codes "0" ∷ signed_decimal total ∷ [] ∷ [] ∷ [])
