-- What is printed for a line in a view.
use Rattle.std.specs.Prelude.{ℕ, List, Result}
use Rattle.lattice_view.specs.LatticePrinter.PrintedLattices.{LatticeLineResult}
use Rattle.line_stream.specs.declared.line_fault.LineFault.{LineFault}
use Rattle.mj_model.specs.Tables.{Overlay}
use Rattle.lattice_view.specs.WhyPrinter.PrintedWhy.{WhyLineResult}
use Rattle.jseg_lib.specs.declared.views.View.{View}
use Rattle.jseg_lib.specs.declared.views.View.TheVariants.{Lattice, Why}

-- what is printed for a line in a view: its lattice, or the costs of its best path and their rivals
abbrev pub ViewLineResult : View → Overlay → List ℕ → Result (List ℕ) LineFault → Type 0
ViewLineResult (Lattice format) o = LatticeLineResult format o
ViewLineResult Why o = WhyLineResult o
