-- Items of equal length, one after another.
use Rattle.std.proofs.Common.{◌≡◌, ℕ, zero, suc, ◌+◌, ◌*◌, ◌<◌, List, [], ◌∷◌, ◌++◌, length, drop, get_or, ap, ◌∙◌, arith}
use Rattle.std.specs.Prelude.{flat_map}
use Rattle.std.proofs.lemmas.List.{length-append}
use Rattle.std.proofs.Math.Nat.{mul-suc}
use Rattle.std.proofs.Math.Seq.{drop-append-add}

module _ {X : Type 0} (f : X → List ℕ) (n : ℕ) (long : (x : X) → length (f x) ≡ n) where
  pub items_length : (xs : List X) → length (flat_map f xs) ≡ n * length xs
  items_length [] = omega (arith)
  items_length (x ∷ xs) =
      let e = items_length xs in
      let l = long x in
      let whole : length (flat_map f (x ∷ xs)) ≡ length (f x) + length (flat_map f xs) = length-append (f x) (flat_map f xs) in
      let more = mul-suc n (length xs) in
      omega (arith, e, l, whole, more)

  -- item k starts n * k bytes after the first one
  pub item_at : (xs : List X) (k : ℕ) (d : X) → k < length xs → drop (n * k) (flat_map f xs) ≡ f (get_or xs k d) ++ flat_map f (drop (suc k) xs)
  item_at [] k d less = absurd (omega (arith, less))
  item_at (x ∷ xs) zero d less =
      let none : n * 0 ≡ 0 = omega (arith) in
      ap (λ m. drop m (flat_map f (x ∷ xs))) none
  item_at (x ∷ xs) (suc k) d less =
      let l = long x in
      let further : n * suc k ≡ length (f x) + n * k = let more = mul-suc n k in omega (arith, l, more) in
      ap (λ m. drop m (f x ++ flat_map f xs)) further
      ∙ drop-append-add (f x) (flat_map f xs) (n * k)
      ∙ item_at xs k d (omega (arith, less))
