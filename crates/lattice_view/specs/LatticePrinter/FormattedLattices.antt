-- A printed lattice, in either form.
use Rattle.std.specs.Prelude.{◌≡◌, ℕ, ◌+◌, ℤ, Bool, true, false, List, [], ◌∷◌, ◌++◌, codes}
use Rattle.mj_model.specs.Tables.{Overlay}
use Rattle.viterbi.specs.declared.nodes.lattice_node.LatticeNode.{LatticeNode}
use Rattle.lattice_view.specs.declared.lattice_printer.format.LatticeForm.{LatticeForm}
use Rattle.lattice_view.specs.declared.lattice_printer.format.LatticeForm.TheVariants.{Tsv, Dot}
use Rattle.lattice_view.specs.declared.lattice_printer.format.LatticeFormat.{LatticeFormat}
use Rattle.lattice_view.specs.LatticePrinter.Dot.{PrintsWord, dot_head, dot_tail}
use Rattle.lattice_view.specs.LatticePrinter.MarkedNodes.{Marked, is_within, lost}
use Rattle.lattice_view.specs.LatticePrinter.Tsv.{tsv_heading, tsv_row}

-- the text before the nodes
abbrev pub head : LatticeForm → List ℕ → List ℕ
head Tsv line = tsv_heading
head Dot line = dot_head line

-- the text after the nodes
abbrev pub tail : LatticeForm → List ℕ
tail Tsv = codes "\n"
tail Dot = dot_tail

-- the text of a node
abbrev pub PrintsIn : LatticeForm → Overlay → List ℕ → ℤ → Marked → List ℕ → Type 0
PrintsIn Tsv o line best m text = text ≡ tsv_row o line best m
PrintsIn Dot o line best m text = PrintsWord o line best m text

-- the text if the flag is set, and no text otherwise
abbrev pub PrintsIf : Bool → (List ℕ → Type 0) → List ℕ → Type 0
PrintsIf true Shows text = Shows text
PrintsIf false Shows text = text ≡ []

-- the text of a node, or none if it lost by more than the format's limit
abbrev pub PrintsWithin : LatticeFormat → Overlay → List ℕ → ℤ → Marked → List ℕ → Type 0
PrintsWithin f o line best m text = PrintsIf (is_within f.within (lost best m.node)) (PrintsIn f.form o line best m) text

-- the text of consecutive nodes from `number` on, each with whether it is on the best path
abbrev pub PrintsNodes : (Marked → List ℕ → Type 0) → ℕ → List LatticeNode → List Bool → List ℕ → Type 0
PrintsNodes Shows number [] on_best text = text ≡ []
PrintsNodes Shows number (n ∷ ns) [] text = ⊥
PrintsNodes Shows number (n ∷ ns) (b ∷ bs) text =
    (first : List ℕ) × (more : List ℕ) × Shows (record { number = number; node = n; is_best = b }) first
    × PrintsNodes Shows (number + 1) ns bs more × (text ≡ first ++ more)

-- the text of a line's lattice in a format; `best` is the cost of the best path
pub record IsFormattedLattice (f : LatticeFormat) (o : Overlay) (line : List ℕ) (best : ℤ) (nodes : List LatticeNode) (on_best : List Bool) (text : List ℕ) : Type 0 where
  pub words : List ℕ
  pub of_words : PrintsNodes (PrintsWithin f o line best) 0 nodes on_best words
  pub is : text ≡ head f.form line ++ (words ++ tail f.form)
