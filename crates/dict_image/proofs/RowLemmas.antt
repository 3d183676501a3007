-- Costs in rows of one width: rows are appended to them, and each row is a part of them.
use Rattle.std.proofs.Common.{◌≡◌, ℕ, ℤ, pos, ◌+◌, ◌-◌, ◌*◌, ◌<◌, ◌≤◌, ◌++◌, Some, List, length, drop, inl, inr, slice_get, slice_range, sym, ap, ◌∙◌, arith, subst}
use Rattle.std.proofs.Math.Nat.{add-mul, mul-le-mul_right, one-mul}
use Rattle.std.proofs.Math.ListN.{length-append}
use Rattle.std.proofs.lemmas.Bool.{cases_lt}
use Rattle.std.proofs.lemmas.List.{get_or-drop, get_or-take, get_or-append-add, get_or_append_left, length-drop, length-take}
use Rattle.std.proofs.lemmas.Option.{slice_get-get_or}
use Rattle.dict_image.specs.Rows.{AreRows}

-- ---- lists that are appended

in_left : (xs ys : List ℤ) (i : ℕ) → i < length xs → slice_get (xs ++ ys) i ≡ slice_get xs i
in_left xs ys i within =
    let long = length-append xs ys in
    slice_get-get_or (xs ++ ys) i (pos 0) (omega (arith, within, long)) ∙ ap Some (get_or_append_left xs ys (pos 0) i within) ∙ sym (slice_get-get_or xs i (pos 0) within)

in_right : (xs ys : List ℤ) (i : ℕ) → i < length ys → slice_get (xs ++ ys) (length xs + i) ≡ slice_get ys i
in_right xs ys i within =
    let long = length-append xs ys in
    slice_get-get_or (xs ++ ys) (length xs + i) (pos 0) (omega (arith, within, long)) ∙ ap Some (get_or-append-add xs ys i (pos 0)) ∙ sym (slice_get-get_or ys i (pos 0) within)

-- ---- rows that are appended

pub next_row : (row width : ℕ) → (row + 1) * width ≡ row * width + width
next_row row width = add-mul row 1 width ∙ ap (λ (n : ℕ). row * width + n) (one-mul width)

-- the costs of a row precede those of a later one
pub in_rows : (row end width column : ℕ) → row < end → column < width → row * width + column < end * width
in_rows row end width column before within =
    let up = mul-le-mul_right {m = row + 1} {n = end} width (omega (arith, before)) in
    let next = next_row row width in
    omega (arith, up, next, within)

-- the costs of the rows from `first` on
abbrev pub later_cost : (ℕ → ℕ → ℤ) → ℕ → ℕ → ℕ → ℤ
later_cost cost first row column = cost (first + row) column

later_row : (cost : ℕ → ℕ → ℤ) (width first count : ℕ) (old block : List ℤ) → length old ≡ first * width → AreRows (later_cost cost first) width count block
    → (row column : ℕ) → row < count → column < width → slice_get (old ++ block) ((first + row) * width + column) ≡ Some (cost (first + row) column)
later_row cost width first count old block had more row column before within =
    let added = more.many in
    let there = in_rows row count width column before within in
    let inside : row * width + column < length block = omega (arith, there, added) in
    let split = add-mul first row width in
    let at : length old + (row * width + column) ≡ (first + row) * width + column = omega (arith, had, split) in
    subst (λ (i : ℕ). slice_get (old ++ block) i ≡ Some (cost (first + row) column)) at
    (in_right old block (row * width + column) inside ∙ more.each row column before within)

pub rows_more : (cost : ℕ → ℕ → ℤ) (width first count : ℕ) (old block : List ℤ) → AreRows cost width first old → AreRows (later_cost cost first) width count block
    → AreRows cost width (first + count) (old ++ block)
rows_more cost width first count old block are more =
    let had = are.many in
    let added = more.many in
    let long = length-append old block in
    let split = add-mul first count width in
    record {
      many = omega (arith, had, added, long, split);
      each = λ row column before within. elim (cases_lt row first) [
        | inl earlier ↦ in_left old block (row * width + column) (subst (λ (n : ℕ). row * width + column < n) (sym had) (in_rows row first width column earlier within)) ∙ are.each row column earlier within
        | inr later ↦
            let is : first + (row - first) ≡ row = omega (arith, later) in
            subst (λ (r : ℕ). slice_get (old ++ block) (r * width + column) ≡ Some (cost r column)) is
            (later_row cost width first count old block had more (row - first) column (omega (arith, later, before)) within)
      ];
    }

-- ---- a row of them

-- a row lies among the rows
pub row_within : (cost : ℕ → ℕ → ℤ) (width end : ℕ) (rows : List ℤ) (row : ℕ) → AreRows cost width end rows → row < end → row * width + width ≤ length rows
row_within cost width end rows row are before =
    let up = mul-le-mul_right {m = row + 1} {n = end} width (omega (arith, before)) in
    let next = next_row row width in
    let many = are.many in
    omega (arith, up, next, many)

pub part_long : (xs : List ℤ) (from width : ℕ) → from + width ≤ length xs → length (slice_range xs from (from + width)) ≡ width
part_long xs from width within = omega (arith, length-take ((from + width) - from) (drop from xs), length-drop from xs, within)

in_part : (xs : List ℤ) (from width i : ℕ) → from + width ≤ length xs → i < width → slice_get (slice_range xs from (from + width)) i ≡ slice_get xs (from + i)
in_part xs from width i within less =
    let long = part_long xs from width within in
    let taken : i < (from + width) - from = omega (arith, less) in
    slice_get-get_or (slice_range xs from (from + width)) i (pos 0) (omega (arith, less, long))
    ∙ ap Some (get_or-take ((from + width) - from) (drop from xs) i (pos 0) taken ∙ get_or-drop from xs i (pos 0))
    ∙ sym (slice_get-get_or xs (from + i) (pos 0) (omega (arith, within, less)))

pub in_row : (cost : ℕ → ℕ → ℤ) (width end : ℕ) (rows : List ℤ) (row column : ℕ) → AreRows cost width end rows → row < end → column < width
    → slice_get (slice_range rows (row * width) (row * width + width)) column ≡ Some (cost row column)
in_row cost width end rows row column are before less =
    in_part rows (row * width) width column (row_within cost width end rows row are before) less
    ∙ are.each row column before less
