-- Tokens in the order of their numbers.
use Rattle.std.proofs.Common.{◌≡◌, ℕ, zero, suc, ◌+◌, ◌-◌, ◌*◌, ◌<◌, ◌≤◌, List, length, ap, ◌∙◌, arith}
use Rattle.std.proofs.lemmas.List.FromFn.{length-map-range_with_len}
use Rattle.image_format.specs.ImageMeaning.{tokens_in}
use Rattle.image_format.specs.ImageSections.{IsIndex, index_at, token_from}

-- a list of an index that rises there is not empty
pub some_tokens : (tokens features index : List ℕ) (i : ℕ) → index_at index i < index_at index (suc i) → 0 < length (tokens_in tokens features index i)
some_tokens tokens features index i rising =
    let e = length-map-range_with_len (token_from tokens features) (index_at index i) (index_at index (suc i) - index_at index i) in
    omega (arith, e, rising)

-- ---- indexes

-- an index never decreases
pub index_rises : (lists low high : ℕ) (index : List ℕ) (n i : ℕ) → IsIndex lists low high index → i + n ≡ lists → index_at index i ≤ high
index_rises lists low high index zero i is all =
    let e : i ≡ lists = omega (arith, all) in
    let last : index_at index i ≡ high = ap (index_at index) e ∙ is.last in
    omega (arith, last)
index_rises lists low high index (suc n) i is all =
    let rest = index_rises lists low high index n (suc i) is (omega (arith, all)) in
    let step = is.rising i (omega (arith, all)) in
    omega (arith, rest, step)

pub index_within : (lists low high : ℕ) (index : List ℕ) (i : ℕ) → IsIndex lists low high index → i ≤ lists → index_at index i ≤ high
index_within lists low high index i is within = index_rises lists low high index (lists - i) i is (omega (arith, within))

-- list i of an index lies within it, and its numbers do not decrease
pub list_within : (lists low high : ℕ) (index : List ℕ) (i : ℕ) → IsIndex lists low high index → i < lists → 4 * (i + 2) ≤ length index
list_within lists low high index i is less = let f = is.fills in omega (arith, f, less)

pub list_rises : (lists low high : ℕ) (index : List ℕ) (i : ℕ) → IsIndex lists low high index → i < lists → index_at index i ≤ index_at index (suc i)
list_rises lists low high index i is less = let r = is.rising i less in omega (arith, r)

-- equal lists of equal sections
pub same_list : (tokens features index old_tokens old_features old_index : List ℕ) (i : ℕ) → tokens ≡ old_tokens → features ≡ old_features → index ≡ old_index → tokens_in tokens features index i ≡ tokens_in old_tokens old_features old_index i
same_list tokens features index old_tokens old_features old_index i a b c =
    ap (λ (xs : List ℕ). tokens_in xs features index i) a ∙ ap (λ (xs : List ℕ). tokens_in old_tokens xs index i) b ∙ ap (λ (xs : List ℕ). tokens_in old_tokens old_features xs i) c
