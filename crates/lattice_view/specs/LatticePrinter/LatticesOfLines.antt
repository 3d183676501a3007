-- The lattice of a line, as the code stores it.
use Rattle.std.specs.Prelude.{◌≡◌, ℕ, length, slice_get, Some}
use Rattle.mj_model.specs.Tables.{Overlay}
use Rattle.viterbi.specs.declared.nodes.lattice_node.LatticeNode.{LatticeNode}
use Rattle.lattice_view.specs.LatticePrinter.NodesInLine.{IsLow, IsPrintable, LiesInLine, overlay_in}
use Rattle.lattice_view.specs.declared.lattice_printer.marked_node.MarkedNode.{MarkedNode}
use Rattle.lattice_view.specs.declared.lattice_printer.formatted_lattice.LineLattice.{LineLattice}
use Rattle.word_lookup.specs.Overlays.{overlay_of}

-- the dictionaries of the lattice's words
abbrev pub overlay_of_lattice : LineLattice → Overlay
overlay_of_lattice l = overlay_of l.dictionaries.now

-- the nodes of the lattice can be printed
pub record ArePrintable (l : LineLattice) : Type 0 where
  pub each : (i : ℕ) (n : LatticeNode) → slice_get l.nodes.now i ≡ Some n → LiesInLine l.text.now n
  pub best_low : IsLow l.best
  pub marks : length l.on_best.now ≡ length l.nodes.now

-- `m` is the node with this number
pub record IsMarkedAt (l : LineLattice) (number : ℕ) (m : MarkedNode) : Type 0 where
  pub printable : IsPrintable m
  pub overlay_is : overlay_in m ≡ overlay_of_lattice l
  pub text_is : m.text.now ≡ l.text.now
  pub best_is : m.best ≡ l.best
  pub number_is : m.number ≡ number
  pub node_is : slice_get l.nodes.now number ≡ Some m.node.now
  pub mark_is : slice_get l.on_best.now number ≡ Some m.is_best
