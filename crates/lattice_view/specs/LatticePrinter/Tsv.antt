-- A lattice as a table: a heading, a row for each node, and an empty line after them.
use Rattle.std.specs.Prelude.{ℕ, ℤ, Bool, true, false, List, [], ◌∷◌, ◌++◌, flat_map, Option, Some, None, codes}
use Rattle.std.specs.Fmt.{decimal, signed_decimal}
use Rattle.mj_model.specs.declared.word.Origin.{Origin}
use Rattle.mj_model.specs.declared.word.Origin.TheVariants.{Known, Unknown}
use Rattle.mj_model.specs.Printed.{feature_of}
use Rattle.mj_model.specs.Tables.{Overlay}
use Rattle.mj_model.specs.Laws.{between}
use Rattle.lattice_view.specs.LatticePrinter.Escapes.{in_cell}
use Rattle.lattice_view.specs.LatticePrinter.MarkedNodes.{Marked, lost}

-- a line of a table: its cells with tabs between them
abbrev pub tsv_line : List (List ℕ) → List ℕ
tsv_line [] = codes "\n"
tsv_line (cell ∷ []) = cell ++ codes "\n"
tsv_line (cell ∷ next ∷ more) = cell ++ (codes "\t" ++ tsv_line (next ∷ more))

-- the heading of the table
abbrev pub tsv_heading : List ℕ
tsv_heading = tsv_line (
    codes "place" ∷ codes "start" ∷ codes "end" ∷ codes "surface" ∷ codes "left" ∷ codes "right" ∷ codes "cost"
    ∷ codes "known" ∷ codes "dictionary" ∷ codes "token"
    ∷ codes "total" ∷ codes "through" ∷ codes "lost" ∷ codes "best" ∷ codes "feature" ∷ [])

-- whether a word comes from a lexicon
abbrev pub known_cell : Origin → List ℕ
known_cell (Known dict token) = codes "known"
known_cell (Unknown token) = codes "unknown"

-- the number of the dictionary of a known word
abbrev pub dictionary_cell : Origin → List ℕ
dictionary_cell (Known dict token) = decimal dict
dictionary_cell (Unknown token) = []

-- the number of a word's entry
abbrev pub token_of : Origin → ℕ
token_of (Known dict token) = token
token_of (Unknown token) = token

-- a cost, or an empty cell
abbrev pub cost_cell : Option ℤ → List ℕ
cost_cell None = []
cost_cell (Some cost) = signed_decimal cost

-- an asterisk on the best path
abbrev pub best_cell : Bool → List ℕ
best_cell true = codes "*"
best_cell false = []

-- the row of a node; `best` is the cost of the line's best path
abbrev pub tsv_row : Overlay → List ℕ → ℤ → Marked → List ℕ
tsv_row o line best m =
    let w = m.node.word in
    tsv_line (
    decimal w.place ∷ decimal w.start ∷ decimal w.end ∷ flat_map in_cell (between line w.start w.end)
    ∷ decimal w.left ∷ decimal w.right ∷ signed_decimal w.cost
    ∷ known_cell w.origin ∷ dictionary_cell w.origin ∷ decimal (token_of w.origin)
    ∷ signed_decimal m.node.total ∷ cost_cell m.node.through ∷ cost_cell (lost best m.node) ∷ best_cell m.is_best
    ∷ flat_map in_cell (feature_of o m.node.word.origin) ∷ [])
