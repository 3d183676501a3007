-- A buffer that is filled with elements of a list from its start.
use Rattle.std.proofs.Common.{◌≡◌, ℕ, ◌+◌, ◌<◌, List, [], ◌∷◌, ◌++◌, length, take, drop, get_or, sym, ap, ◌∙◌, arith}
use Rattle.std.specs.Prelude.{min, slice_set}
use Rattle.std.proofs.lemmas.List.{append_assoc, drop_more, length-set, length-take-le, set_at, take_more}
use Rattle.capi.specs.Outputs.{with_front}

-- the first elements are written, and the remainder of the buffer is unchanged
pub record IsFilling {X : Type 0} (all : List X) (i : ℕ) (before now : List X) : Type 0 where
  pub written : now ≡ take i all ++ drop i before
  pub long : length now ≡ length before

pub filling_more : {X : Type 0} (all : List X) (i : ℕ) (before now : List X) (x : X) → IsFilling all i before now → i < length all → i < length now → x ≡ get_or all i x
    → IsFilling all (i + 1) before (slice_set now i x)
filling_more {X} all i before now x f low room is =
    let long = f.long in
    let front : length (take i all) ≡ i = length-take-le i all (omega (arith, low)) in
    let more : take (i + 1) all ≡ take i all ++ x ∷ [] = take_more all i x low ∙ ap (λ (z : X). take i all ++ z ∷ []) (sym is) in
    let rest : drop i before ≡ get_or before i x ∷ drop (i + 1) before = drop_more before i x (omega (arith, room, long)) in
    record {
      written = ap (λ (xs : List X). slice_set xs i x) (f.written ∙ ap (λ (xs : List X). take i all ++ xs) rest)
          ∙ set_at (take i all) (get_or before i x) (drop (i + 1) before) x i front
          ∙ sym (ap (λ (xs : List X). xs ++ drop (i + 1) before) more ∙ append_assoc (take i all) (x ∷ []) (drop (i + 1) before));
      long = length-set now i x ∙ long;
    }

-- a buffer that is full
pub filling_ends : {X : Type 0} (all : List X) (i : ℕ) (before now : List X) → IsFilling all i before now → i ≡ min (length all) (length before) → now ≡ with_front all before
filling_ends {X} all i before now f ends = f.written ∙ ap (λ (n : ℕ). take n all ++ drop n before) ends
