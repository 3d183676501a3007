-- A column of costs that lie in rows of one width is set cost by cost.
use Rattle.std.proofs.Common.{◌≡◌, ℕ, ℤ, ◌+◌, ◌*◌, ◌<◌, Some, List, length, set, slice_get, inl, inr, sym, ap, ◌∙◌, arith, subst}
use Rattle.std.proofs.lemmas.Bool.{cases_eq, cases_lt}
use Rattle.std.proofs.lemmas.List.{length-set}
use Rattle.dict_image.specs.Columns.{IsColumnSet}
use Rattle.dict_image.proofs.RowLemmas.{in_rows}
use Rattle.dict_image.proofs.SetLemmas.{set_elsewhere, set_here}

-- costs of different rows have different indexes
apart : (row other width column before : ℕ) → column < width → before < column → row * width + before ≡ other * width + column → ⊥
apart row other width column before within less same = elim (cases_lt row other) [
  | inl earlier ↦
      let up = in_rows row other width before earlier (omega (arith, within, less)) in
      omega (arith, up, same)
  | inr later ↦ elim (cases_eq row other) [
    | inl equal ↦
        let at = ap (λ (n : ℕ). n * width) equal in
        omega (arith, at, same, less)
    | inr differs ↦
        let up = in_rows other row width column (omega (arith, later, differs)) within in
        omega (arith, up, same)
  ]
]

-- a cost more of a column
pub set_more : (cost : ℕ → ℤ) (width height row column : ℕ) (old rows : List ℤ) → length old ≡ height * width → row < height → column < width
    → IsColumnSet cost width row column old rows → IsColumnSet cost width (row + 1) column old (set rows (row * width + column) (cost row))
set_more cost width height row column old rows long before within are =
    let i : ℕ = row * width + column in
    let x : ℤ = cost row in
    let many = are.many in
    let there : i < length rows = omega (arith, many, long, in_rows row height width column before within) in
    record {
      many = length-set rows i x ∙ many;
      set = λ r less. elim (cases_lt r row) [
        | inl earlier ↦
            let up = in_rows r row width column earlier within in
            set_elsewhere rows i (r * width + column) x (λ same. omega (arith, up, same)) ∙ are.set r earlier
        | inr later ↦
            let is : r ≡ row = omega (arith, later, less) in
            subst (λ (k : ℕ). slice_get (set rows i x) (k * width + column) ≡ Some (cost k)) (sym is) (set_here rows i x there)
      ];
      kept = λ r b less. set_elsewhere rows i (r * width + b) x (apart r row width column b within less) ∙ are.kept r b less;
    }
