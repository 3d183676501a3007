-- The rows of `matrix.def`, one after another: each sets its cell, and the last row of a repeated
-- pair counts.
use Rattle.std.proofs.Common.{◌≡◌, ℕ, ◌+◌, ◌*◌, ◌<◌, Bool, false, cond, ltb, ◌&&◌, List, [], ◌∷◌, ◌++◌, length, get_or, set, reverse, refl, sym, ◌∙◌, ap, subst, arith, Option, Some, None, inl, inr, get_or-set_same, get_or-set_other, mul_comm}
use Rattle.std.specs.Prelude.{ℤ, pos, find, ◌==◌, IsTrue}
use Rattle.std.specs.List.{cons_option}
use Rattle.std.specs.Option.{option_map_or}
use Rattle.std.proofs.lemmas.Bool.{cases_Bool, cases_eq, cond-true, cond-false, eq-eqb, ne_eqb, and_from, and_parts, ltb-true, and_left, and_right}
use Rattle.std.proofs.lemmas.Nat.{mul-add-lt, same_from_place}
use Rattle.std.proofs.lemmas.List.{reverse-append}
use Rattle.std.proofs.lemmas.List.Elements.{filter_map-append}
use Rattle.mj_model.specs.declared.source_fault.SourceFault.{SourceFault}
use Rattle.mj_model.specs.declared.source_fault.SourceKind.{SourceKind}
use Rattle.mj_model.specs.declared.source_fault.SourceKind.TheVariants.{PairOutside}
use Rattle.mj_model.specs.FirstFault.{fault_or, first_fault}
use Rattle.mj_model.specs.declared.matrix_sizes.MatrixSizes.{MatrixSizes}
use Rattle.mj_model.specs.Connection.{Cell, cell_from, words_of, cell_fault, row_fault, connection_cost, is_pair}
use Rattle.matrix_def.specs.Costs.{CostTable, IsMatrix, IsTableOf, cell_at, matrix_cost}
use Rattle.matrix_def.specs.Rows.{cells_of, IsFilledBy, IsRow}

-- ---- errors

no_fault : (file line : ℕ) (here : Option SourceKind) (others : Option SourceFault) → fault_or file line here others ≡ None → (here ≡ None) × (others ≡ None)
no_fault file line None others is = (refl, is)
no_fault file line (Some kind) others is = absurd (cc)

fault-append : (file : ℕ) (test : List ℕ → Option SourceKind) (xs ys : List (ℕ × List ℕ)) → first_fault file test xs ≡ None → first_fault file test (xs ++ ys) ≡ first_fault file test ys
fault-append file test [] ys none = refl
fault-append file test (x ∷ xs) ys none =
    let p = no_fault file x.0 (test x.1) (first_fault file test xs) none in
    ap (λ (here : Option SourceKind). fault_or file x.0 here (first_fault file test (xs ++ ys))) p.0 ∙ fault-append file test xs ys p.1

row_good : (sizes : MatrixSizes) (line : List ℕ) (cell : Cell) → IsRow sizes line cell → row_fault sizes line ≡ None
row_good sizes line cell r = ap (cell_fault sizes) r.listed ∙ ap (λ (b : Bool). cond b None (Some PairOutside)) r.within

-- ---- costs

ids_below : (sizes : MatrixSizes) (right left : ℕ) → IsTrue (is_pair sizes right left) → (right < sizes.right) × (left < sizes.left)
ids_below sizes right left pair =
    let p = and_parts (ltb right sizes.right) (ltb left sizes.left) pair in
    (ltb-true right sizes.right p.0, ltb-true left sizes.left p.1)

cost_more : (sizes : MatrixSizes) (cells : List Cell) (x : Cell) (right left : ℕ) →
    connection_cost (record { sizes = sizes; cells = cells ++ x ∷ [] }) right left
    ≡ cond (x.right == right && x.left == left) x.cost (connection_cost (record { sizes = sizes; cells = cells }) right left)
cost_more sizes cells x right left =
    let test : Cell → Bool = λ cell. cell.right == right && cell.left == left in
    let price : Option Cell → ℤ = λ found. option_map_or (λ (cell : Cell). cell.cost) found (pos 0) in
    ap (λ (cs : List Cell). price (find test cs)) (reverse-append cells (x ∷ []))
    ∙ elim (cases_Bool (test x)) [
      | inl same ↦ ap price (cond-true (test x) (Some x) (find test (reverse cells)) same) ∙ sym (cond-true (test x) x.cost (price (find test (reverse cells))) same)
      | inr other ↦ ap price (cond-false (test x) (Some x) (find test (reverse cells)) other) ∙ sym (cond-false (test x) x.cost (price (find test (reverse cells))) other)
    ]

pub within_table : (m : CostTable) (right left : ℕ) → IsMatrix m → IsTrue (is_pair m.sizes right left) → cell_at m right left < length m.costs
within_table m right left formed pair =
    let cells : length m.costs ≡ m.sizes.right * m.sizes.left = formed.cells in
    let p = ids_below m.sizes right left pair in
    let low : right * m.sizes.left + left < m.sizes.left * m.sizes.right = mul-add-lt right m.sizes.left left m.sizes.right p.0 p.1 in
    let turned : m.sizes.left * m.sizes.right ≡ m.sizes.right * m.sizes.left = mul_comm m.sizes.left m.sizes.right in
    omega arith

-- the cell that is set
cost_here : (m : CostTable) (right left : ℕ) (z : ℤ) → IsMatrix m → IsTrue (is_pair m.sizes right left) → get_or (set m.costs (cell_at m right left) z) (cell_at m right left) (pos 0) ≡ z
cost_here m right left z formed p = get_or-set_same m.costs (cell_at m right left) z (pos 0) (within_table m right left formed p)

apart : (m : CostTable) (a b right left : ℕ) → IsTrue (is_pair m.sizes a b) → IsTrue (is_pair m.sizes right left) → ((a ≡ right) × (b ≡ left) → ⊥) → cell_at m right left ≡ cell_at m a b → ⊥
apart m a b right left p q differ same =
    let parts = same_from_place right left a b m.sizes.left (ids_below m.sizes right left q).1 (ids_below m.sizes a b p).1 same in
    differ (sym parts.0, sym parts.1)

costs_more : (sizes : MatrixSizes) (cells : List Cell) (m : CostTable) (x : Cell) → IsMatrix m → IsTrue (is_pair m.sizes x.right x.left) → IsTableOf (record { sizes = sizes; cells = cells }) m
    → (right left : ℕ) → IsTrue (is_pair m.sizes right left)
    → get_or (set m.costs (cell_at m x.right x.left) x.cost) (cell_at m right left) (pos 0) ≡ connection_cost (record { sizes = sizes; cells = cells ++ x ∷ [] }) right left
costs_more sizes cells m x formed p holds right left q =
    let before : ℤ = connection_cost (record { sizes = sizes; cells = cells }) right left in
    let now : connection_cost (record { sizes = sizes; cells = cells ++ x ∷ [] }) right left ≡ cond (x.right == right && x.left == left) x.cost before = cost_more sizes cells x right left in
    let old : matrix_cost m right left ≡ before = holds.costs right left q in
    let kept : ((x.right ≡ right) × (x.left ≡ left) → ⊥) → (x.right == right && x.left == left) ≡ false
    → get_or (set m.costs (cell_at m x.right x.left) x.cost) (cell_at m right left) (pos 0) ≡ connection_cost (record { sizes = sizes; cells = cells ++ x ∷ [] }) right left =
    λ differ other.
    get_or-set_other m.costs (cell_at m x.right x.left) (cell_at m right left) x.cost (pos 0) (apart m x.right x.left right left p q differ) ∙ old
    ∙ sym (now ∙ cond-false (x.right == right && x.left == left) x.cost before other) in
    elim (cases_eq x.right right) [
      | inl same_right ↦ elim (cases_eq x.left left) [
        | inl same_left ↦
            let same : cell_at m right left ≡ cell_at m x.right x.left = ap (λ (a : ℕ). a * m.sizes.left + left) (sym same_right) ∙ ap (λ (b : ℕ). x.right * m.sizes.left + b) (sym same_left) in
            ap (λ (k : ℕ). get_or (set m.costs (cell_at m x.right x.left) x.cost) k (pos 0)) same ∙ cost_here m x.right x.left x.cost formed p
            ∙ sym (now ∙ cond-true (x.right == right && x.left == left) x.cost before (and_from (x.right == right) (x.left == left) (eq-eqb x.right right same_right) (eq-eqb x.left left same_left)))
        | inr other ↦ kept (λ e. other e.1) (and_right (x.right == right) (x.left == left) (ne_eqb x.left left other))
      ]
      | inr other ↦ kept (λ e. other e.0) (and_left (x.right == right) (x.left == left) (ne_eqb x.right right other))
    ]

-- ---- the rows so far

cells-append : (rows : List (ℕ × List ℕ)) (line : ℕ × List ℕ) (cell : Cell) → cell_from (words_of line.1) ≡ Some cell → cells_of (rows ++ line ∷ []) ≡ cells_of rows ++ cell ∷ []
cells-append rows line cell listed =
    filter_map-append (λ row. cell_from (words_of row.1)) rows (line ∷ []) ∙ ap (λ (found : Option Cell). cells_of rows ++ cons_option found []) listed

-- a row's ids lie within the table
pub row_pair : (sizes : MatrixSizes) (m : CostTable) (line : List ℕ) (cell : Cell) → m.sizes ≡ sizes → IsRow sizes line cell → IsTrue (is_pair m.sizes cell.right cell.left)
row_pair sizes m line cell same r = subst (λ (s : MatrixSizes). IsTrue (is_pair s cell.right cell.left)) (sym same) r.within

-- one more row sets its cell
pub row_filled : (sizes : MatrixSizes) (rows : List (ℕ × List ℕ)) (m new : CostTable) (row : ℕ × List ℕ) (cell : Cell) → IsFilledBy sizes rows m → IsMatrix m → IsRow sizes row.1 cell
    → new ≡ record m { costs = set m.costs (cell_at m cell.right cell.left) cell.cost } → IsFilledBy sizes (rows ++ row ∷ []) new
row_filled sizes rows m new row cell h formed r set_is =
    let p = row_pair sizes m row.1 cell h.1.sizes r in
    let held : IsTableOf (record { sizes = sizes; cells = cells_of (rows ++ row ∷ []) }) (record m { costs = set m.costs (cell_at m cell.right cell.left) cell.cost }) = record {
      sizes = h.1.sizes;
      costs = λ right left q.
          costs_more sizes (cells_of rows) m cell formed p h.1 right left q
          ∙ ap (λ (cs : List Cell). connection_cost (record { sizes = sizes; cells = cs }) right left) (sym (cells-append rows row cell r.listed));
    } in
    let none = fault-append 0 (row_fault sizes) rows (row ∷ []) h.0 ∙ ap (λ (o : Option SourceKind). fault_or 0 row.0 o None) (row_good sizes row.1 cell r) in
    (none, subst (λ (t : CostTable). IsTableOf (record { sizes = sizes; cells = cells_of (rows ++ row ∷ []) }) t) (sym set_is) held)

-- an invalid row is the first error, whatever follows
pub row_bad : (sizes : MatrixSizes) (rows more : List (ℕ × List ℕ)) (m : CostTable) (row : ℕ × List ℕ) (kind : SourceKind) → IsFilledBy sizes rows m → row_fault sizes row.1 ≡ Some kind
    → first_fault 0 (row_fault sizes) (rows ++ row ∷ more) ≡ Some (record { file = 0; line = row.0; kind = kind })
row_bad sizes rows more m row kind h bad =
    fault-append 0 (row_fault sizes) rows (row ∷ more) h.0 ∙ ap (λ (o : Option SourceKind). fault_or 0 row.0 o (first_fault 0 (row_fault sizes) more)) bad
