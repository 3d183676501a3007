-- The costs of a connection table are those that the rows of its source list, for every pair. No
-- row has a pair outside the sizes.
use Rattle.std.proofs.Common.{◌≡◌, ℕ, Bool, true, false, cond, ◌&&◌, List, [], ◌∷◌, reverse, refl, sym, ap, ◌∙◌, subst}
use mathlib.Core.List.{reverse_aux}
use Rattle.std.specs.Prelude.{pos, Option, Some, None, Result, Ok, Err, nat_le, find, filter, not, ◌==◌, ◌*◌}
use Rattle.std.specs.List.{AllByRecursion, filter_map, cons_option}
use Rattle.std.specs.Option.{option_map_or}
use Rattle.std.proofs.lemmas.Bool.{eqb-true}
use Rattle.mj_model.specs.declared.limits.TheConstants.{MATRIX_CELLS_MAX}
use Rattle.mj_model.specs.declared.source_fault.SourceFault.{SourceFault}
use Rattle.mj_model.specs.declared.source_fault.SourceKind.TheVariants.{PairOutside, TooLarge}
use Rattle.mj_model.specs.declared.matrix_sizes.MatrixSizes.{MatrixSizes}
use Rattle.mj_model.specs.Connection.{Cell, Connection, is_pair, cell_from, cell_fault, row_fault, words_of, sizes_from, matrix_fault, connection_unless, connection_under, connection_from, connection_of, connection_cost}
use Rattle.mj_model.specs.FirstFault.{first_fault, fault_or}
use Rattle.mj_model.specs.Lines.{numbered_lines, is_blank_line}
use Rattle.mj_model.proofs.Basics.{both_parts}
use Rattle.matrix_def.specs.Costs.{CostTable, IsTableOf, cost_of, matrix_cost}

-- ---- the cells of a connection lie within its sizes

abbrev IsWithinSizes : MatrixSizes → Cell → Type 0
IsWithinSizes sizes cell = is_pair sizes cell.right cell.left ≡ true

abbrev row_cell : (ℕ × List ℕ) → Option Cell
row_cell row = cell_from (words_of row.1)

cell_by : (sizes : MatrixSizes) (line : ℕ) (cell : Cell) (b : Bool) (others : Option SourceFault) → is_pair sizes cell.right cell.left ≡ b
    → fault_or 0 line (cond b None (Some PairOutside)) others ≡ None → IsWithinSizes sizes cell × (others ≡ None)
cell_by sizes line cell true others e h = (e, h)
cell_by sizes line cell false others e h = absurd (cc)

cells_by : (sizes : MatrixSizes) (line : ℕ) (found : Option Cell) (others : Option SourceFault) (cells : List Cell)
    → fault_or 0 line (cell_fault sizes found) others ≡ None → (others ≡ None → AllByRecursion (IsWithinSizes sizes) cells)
    → AllByRecursion (IsWithinSizes sizes) (cons_option found cells)
cells_by sizes line None others cells h rest = absurd (cc)
cells_by sizes line (Some cell) others cells h rest =
    let p = cell_by sizes line cell (is_pair sizes cell.right cell.left) others refl h in (p.0, rest p.1)

cells_within : (sizes : MatrixSizes) (rows : List (ℕ × List ℕ)) → first_fault 0 (row_fault sizes) rows ≡ None → AllByRecursion (IsWithinSizes sizes) (filter_map row_cell rows)
cells_within sizes [] h = tt
cells_within sizes (row ∷ rows) h =
    cells_by sizes row.0 (row_cell row) (first_fault 0 (row_fault sizes) rows) (filter_map row_cell rows) h (λ e. cells_within sizes rows e)

abbrev AreWithin : Connection → Type 0
AreWithin c = AllByRecursion (IsWithinSizes c.sizes) c.cells

abbrev GivesWithin : Result Connection SourceFault → Type 0
GivesWithin (Ok c) = AreWithin c
GivesWithin (Err fault) = Unit {0}

unless_within : (fault : Option SourceFault) (sizes : MatrixSizes) (rows : List (ℕ × List ℕ)) → first_fault 0 (row_fault sizes) rows ≡ fault → GivesWithin (connection_unless fault sizes rows)
unless_within None sizes rows e = cells_within sizes rows e
unless_within (Some fault) sizes rows e = tt

large_within : (b : Bool) (line : ℕ) (read : Result Connection SourceFault) → GivesWithin read → GivesWithin (cond b read (Err (matrix_fault line TooLarge)))
large_within true line read h = h
large_within false line read h = tt

under_within : (line : ℕ) (sizes : Option MatrixSizes) (rows : List (ℕ × List ℕ)) → GivesWithin (connection_under line sizes rows)
under_within line None rows = tt
under_within line (Some sizes) rows = large_within (nat_le (sizes.right * sizes.left) MATRIX_CELLS_MAX) line (connection_unless (first_fault 0 (row_fault sizes) rows) sizes rows)
    (unless_within (first_fault 0 (row_fault sizes) rows) sizes rows refl)

from_within : (lines : List (ℕ × List ℕ)) → GivesWithin (connection_from lines)
from_within [] = tt
from_within (header ∷ rows) = under_within header.0 (sizes_from (words_of header.1)) rows

connection_within : (bytes : List ℕ) (c : Connection) → connection_of bytes ≡ Ok c → AreWithin c
connection_within bytes c e = subst GivesWithin e (from_within (filter (λ line. not (is_blank_line line.1)) (numbered_lines bytes)))

-- ---- no cell has a pair outside the sizes

all_reversed : (P : Cell → Type 0) (xs ys : List Cell) → AllByRecursion P xs → AllByRecursion P ys → AllByRecursion P (reverse_aux xs ys)
all_reversed P [] ys h k = k
all_reversed P (x ∷ xs) ys h k = all_reversed P xs (x ∷ ys) h.1 (h.0, k)

abbrev is_cell : ℕ → ℕ → Cell → Bool
is_cell right left cell = cell.right == right && cell.left == left

none_by : (sizes : MatrixSizes) (right left : ℕ) (cell : Cell) (b : Bool) (others : Option Cell) → is_cell right left cell ≡ b → IsWithinSizes sizes cell
    → is_pair sizes right left ≡ false → others ≡ None → cond b (Some cell) others ≡ None
none_by sizes right left cell false others e within out rest = rest
none_by sizes right left cell true others e within out rest =
    let both = both_parts (cell.right == right) (cell.left == left) e in
    let r = eqb-true cell.right right both.0 in
    let l = eqb-true cell.left left both.1 in
    let inside : is_pair sizes right left ≡ true = ap (λ n. is_pair sizes n left) (sym r) ∙ ap (λ n. is_pair sizes cell.right n) (sym l) ∙ within in
    absurd (let bad = sym out ∙ inside in cc)

none_found : (sizes : MatrixSizes) (right left : ℕ) (cells : List Cell) → AllByRecursion (IsWithinSizes sizes) cells → is_pair sizes right left ≡ false → find (is_cell right left) cells ≡ None
none_found sizes right left [] h out = refl
none_found sizes right left (cell ∷ cells) h out =
    none_by sizes right left cell (is_cell right left cell) (find (is_cell right left) cells) refl h.0 out (none_found sizes right left cells h.1 out)

-- ---- the table's costs are the source's

cost_by : (b : Bool) (c : Connection) (m : CostTable) (right left : ℕ) → IsTableOf c m → AreWithin c → is_pair m.sizes right left ≡ b
    → cond b (matrix_cost m right left) (pos 0) ≡ connection_cost c right left
cost_by true c m right left t within e = t.costs right left e
cost_by false c m right left t within e =
    let out : is_pair c.sizes right left ≡ false = ap (λ (sizes : MatrixSizes). is_pair sizes right left) (sym t.sizes) ∙ e in
    sym (ap (λ found. option_map_or (λ (cell : Cell). cell.cost) found (pos 0)) (none_found c.sizes right left (reverse c.cells) (all_reversed (IsWithinSizes c.sizes) c.cells [] within tt) out))

pub costs_are : (bytes : List ℕ) (c : Connection) (m : CostTable) → connection_of bytes ≡ Ok c → IsTableOf c m → cost_of m ≡ connection_cost c
costs_are bytes c m e t = λ i right left. cost_by (is_pair m.sizes right left) c m right left t (connection_within bytes c e) refl i
