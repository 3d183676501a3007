-- A node of a line's lattice, as the code stores it.
use Rattle.std.specs.Prelude.{ℕ, ℤ, ◌^◌, List, Option, Some, None}
use Rattle.mj_model.specs.Bounds.{IsWithin}
use Rattle.mj_model.specs.Tables.{Overlay}
use Rattle.viterbi.specs.declared.nodes.lattice_node.LatticeNode.{LatticeNode}
use Rattle.lattice.specs.TextOver.{SurfaceLiesIn}
use Rattle.lattice_view.specs.LatticePrinter.MarkedNodes.{Marked}
use Rattle.lattice_view.specs.declared.lattice_printer.marked_node.MarkedNode.{MarkedNode}
use Rattle.word_lookup.specs.Overlays.{overlay_of}

-- the dictionaries of the node's word
abbrev pub overlay_in : MarkedNode → Overlay
overlay_in m = overlay_of m.dictionaries.now

-- the node with its number and its mark
abbrev pub marked_of : MarkedNode → Marked
marked_of m = record { number = m.number; node = m.node.now; is_best = m.is_best }

-- the cost is far from overflow of 64 bits
abbrev pub IsLow : ℤ → Type 0
IsLow cost = IsWithin (2 ^ 40) cost

-- the cost, if there is one, is far from overflow
abbrev pub IsLowIfSome : Option ℤ → Type 0
IsLowIfSome None = Unit {0}
IsLowIfSome (Some cost) = IsLow cost

-- the node's word lies in the line, and the cost of the paths through it is far from overflow
pub record LiesInLine (line : List ℕ) (n : LatticeNode) : Type 0 where
  pub word : SurfaceLiesIn line n.word
  pub through_low : IsLowIfSome n.through

-- the node lies in its line, and the cost of the best path is far from overflow
pub record IsPrintable (m : MarkedNode) : Type 0 where
  pub lies : LiesInLine m.text.now m.node.now
  pub best_low : IsLow m.best
