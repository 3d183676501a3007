-- The lattice that a line prints with dictionaries, or the error of the line.
use Rattle.std.specs.Prelude.{ℕ, List, Result, Ok, Err}
use Rattle.mj_model.specs.declared.word.Word.{Word}
use Rattle.mj_model.specs.Tables.{Overlay}
use Rattle.mj_model.specs.BestOver.{IsBestPathOver, cost_over}
use Rattle.line_stream.specs.GoodLines.{IsBad, IsGood}
use Rattle.line_stream.specs.declared.line_fault.LineFault.{LineFault}
use Rattle.lattice.specs.TextOver.{IsMarkedOver}
use Rattle.lattice.specs.declared.marking.MarkedLattice.{MarkedLattice}
use Rattle.lattice_view.specs.declared.lattice_printer.format.LatticeFormat.{LatticeFormat}
use Rattle.lattice_view.specs.LatticePrinter.FormattedLattices.{IsFormattedLattice}

-- the lattice of a line in a format: all its nodes, each with its least costs and whether it is on
-- the best path
pub record PrintsLattice (f : LatticeFormat) (o : Overlay) (line text : List ℕ) : Type 0 where
  pub best : List Word
  pub lattice : MarkedLattice
  pub is_best : IsBestPathOver o line best
  pub is_lattice : IsMarkedOver o line best lattice
  pub is_sheet : IsFormattedLattice f o line (cost_over o best) lattice.nodes.items lattice.on_best.items text

-- a valid line prints its lattice in a format, and an invalid one has an error
abbrev pub LatticeLineResult : LatticeFormat → Overlay → List ℕ → Result (List ℕ) LineFault → Type 0
LatticeLineResult f o line (Ok text) = IsGood line × PrintsLattice f o line text
LatticeLineResult f o line (Err fault) = IsBad line fault
