-- A list is extended, and what was appended is then replaced.
use Rattle.std.proofs.Common.{◌≡◌, ℕ, ℤ, ◌+◌, ◌-◌, ◌≤◌, ◌++◌, List, length, take, drop, sym, ap, ◌∙◌, arith}
use Rattle.std.proofs.Math.ListN.{length-append}
use Rattle.std.proofs.Math.Seq.{take-append_seam}
use Rattle.std.proofs.lemmas.List.{append-nil, drop_all, length-drop, take_all}

-- an extended list begins with the list before
pub extended : (old added : List ℤ) (start long : ℕ) → start ≡ length old → start ≤ long → take start (take long old ++ added) ≡ old
extended old added start long at fits =
    ap (λ (n : ℕ). take n (take long old ++ added)) at
    ∙ ap (λ (xs : List ℤ). take (length old) (xs ++ added)) (take_all long old (omega (arith, at, fits)))
    ∙ take-append_seam old added

-- items of `seen` that start at `start`, replaced by `block`
abbrev pub with_tail : List ℤ → ℕ → List ℤ → List ℤ
with_tail seen start block = take start seen ++ (block ++ drop (length seen - start) (drop start seen))

tail_is : (seen old block : List ℤ) (start : ℕ) → take start seen ≡ old → with_tail seen start block ≡ old ++ block
tail_is seen old block start first =
    let long = length-drop start seen in
    ap (λ (xs : List ℤ). xs ++ (block ++ drop (length seen - start) (drop start seen))) first
    ∙ ap (λ (ys : List ℤ). old ++ (block ++ ys)) (drop_all (length seen - start) (drop start seen) (omega (arith, long)))
    ∙ ap (λ (zs : List ℤ). old ++ zs) (append-nil block)

-- a vector of `long` items has the replaced ones once its slice is returned
pub tail_replaced : (seen items old block : List ℤ) (start long : ℕ) → take start seen ≡ old → length items ≡ long → length old + length block ≡ long
    → old ++ block ≡ take long (with_tail seen start block ++ drop (length (with_tail seen start block)) items)
tail_replaced seen items old block start long first whole sum =
    let added = length-append old block in
    sym (
    ap (λ (xs : List ℤ). take long (xs ++ drop (length xs) items)) (tail_is seen old block start first)
    ∙ ap (λ (ys : List ℤ). take long ((old ++ block) ++ ys)) (drop_all (length (old ++ block)) items (omega (arith, whole, sum, added)))
    ∙ ap (λ (xs : List ℤ). take long xs) (append-nil (old ++ block))
    ∙ take_all long (old ++ block) (omega (arith, sum, added))
    )
