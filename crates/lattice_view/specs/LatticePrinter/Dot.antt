-- A lattice as a graph in Graphviz's language DOT: a circle for each position, named by its offset,
-- and a box for each node, between the positions of its start and end.
use Rattle.std.specs.Prelude.{◌≡◌, ℕ, ℤ, Bool, true, false, List, [], ◌∷◌, ◌++◌, flat_map, slice_get, unwrap_or, Option, Some, None, codes}
use Rattle.std.specs.Fmt.{decimal, signed_decimal}
use Rattle.mj_model.specs.Fields.{AreFields}
use Rattle.mj_model.specs.Printed.{feature_of}
use Rattle.mj_model.specs.Tables.{Overlay}
use Rattle.mj_model.specs.Laws.{between}
use Rattle.lattice_view.specs.LatticePrinter.Escapes.{label_text}
use Rattle.lattice_view.specs.LatticePrinter.MarkedNodes.{Marked, lost}
use Rattle.lattice_view.specs.LatticePrinter.Tsv.{cost_cell}

-- the concatenation of texts
abbrev pub joined : List (List ℕ) → List ℕ
joined = flat_map (λ (text : List ℕ). text)

-- the graph is drawn from left to right, with the line as its label
abbrev pub dot_head : List ℕ → List ℕ
dot_head line = joined (codes "digraph {\n  rankdir=LR;\n  label=\"" ∷ label_text line ∷ codes "\";\n  node [shape=circle];\n" ∷ [])

-- further attributes of the box of a node on the best path
abbrev pub box_style : Bool → List ℕ
box_style true = codes ", color=red, penwidth=2"
box_style false = []

-- attributes of the edges of a node on the best path
abbrev pub edge_style : Bool → List ℕ
edge_style true = codes " [color=red, penwidth=2]"
edge_style false = []

-- the text before the number by which a node lost
abbrev pub lost_word : Option ℤ → List ℕ
lost_word None = codes "no path"
lost_word (Some by) = codes "lost "

-- the box of a node up to its surface
abbrev pub box_start : List ℕ → Marked → List ℕ
box_start line m =
    let w = m.node.word in
    joined (codes "  w" ∷ decimal m.number ∷ codes " [shape=box" ∷ box_style m.is_best ∷ codes ", label=\"" ∷ label_text (between line w.start w.end) ∷ codes "\\n" ∷ [])

-- the word cost, the least cost up to and including the node, and by how much it lost; then the
-- edges from its start position to the box and on to its end
abbrev pub box_costs : ℤ → Marked → List ℕ
box_costs best m =
    let w = m.node.word in
    joined (
    codes "\\ncost " ∷ signed_decimal w.cost ∷ codes "\\ntotal " ∷ signed_decimal m.node.total
    ∷ codes "\\n" ∷ lost_word (lost best m.node) ∷ cost_cell (lost best m.node) ∷ codes "\"];\n  "
    ∷ decimal w.place ∷ codes " -> w" ∷ decimal m.number ∷ codes " -> " ∷ decimal w.end ∷ edge_style m.is_best ∷ codes ";\n" ∷ [])

-- a node with a field of its feature; `best` is the cost of the line's best path
abbrev pub dot_word : List ℕ → ℤ → Marked → List ℕ → List ℕ
dot_word line best m field = box_start line m ++ (label_text field ++ box_costs best m)

-- a node with the first field of its feature
abbrev pub PrintsWord : Overlay → List ℕ → ℤ → Marked → List ℕ → Type 0
PrintsWord o line best m text =
    (fields : List (List ℕ)) × AreFields (feature_of o m.node.word.origin) fields × (text ≡ dot_word line best m (unwrap_or (slice_get fields 0) []))

-- the end of the graph
abbrev pub dot_tail : List ℕ
dot_tail = codes "}\n"
