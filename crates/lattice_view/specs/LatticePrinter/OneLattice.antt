-- A line prints one lattice.
use Rattle.std.specs.Prelude.{◌≡◌, ℕ, List, Result}
use Rattle.mj_model.specs.Tables.{Overlay}
use Rattle.mj_model.specs.Laws.{HasWords}
use Rattle.line_stream.specs.declared.line_fault.LineFault.{LineFault}
use Rattle.lattice_view.specs.LatticePrinter.PrintedLattices.{LatticeLineResult}
use Rattle.lattice_view.specs.declared.lattice_printer.format.LatticeFormat.{LatticeFormat}

-- with dictionaries whose words have text, a line has at most one result as its lattice in a
-- format: one text or one error
abbrev pub HasOneLattice : Type 0
HasOneLattice = (f : LatticeFormat) (o : Overlay) (line : List ℕ) → HasWords o
    → (reported other : Result (List ℕ) LineFault) → LatticeLineResult f o line reported → LatticeLineResult f o line other → other ≡ reported
