-- A row of entries is a part of the section of tokens.
use Rattle.std.proofs.Common.{◌≡◌, ℕ, zero, suc, ◌+◌, ◌-◌, ◌*◌, ◌/◌, ◌<◌, ◌≤◌, List, ◌∷◌, ◌++◌, length, take, drop, map, slice_range, Some, sym, ap, ◌∙◌, refl, arith}
use Rattle.std.specs.Prelude.{slice_get}
use Rattle.std.specs.Int.{cast_signed, w16}
use Rattle.std.specs.List.{range_with_len}
use Rattle.std.proofs.Math.Nat.{mul-div-le}
use Rattle.std.proofs.lemmas.List.{drop_at, length-drop, length-take, map-append, take-append-drop}
use Rattle.std.proofs.lemmas.List.FromFn.{get_or-map-range_with_len, length-map-range_with_len, take-map-range_with_len}
use Rattle.std.proofs.lemmas.Option.{slice_get-get_or}
use Rattle.image_format.specs.ImageBytes.{all_tokens, header_of, number_at, section}
use Rattle.image_format.specs.ImageMeaning.{image_tables, image_token}
use Rattle.image_format.proofs.NumberLemmas.{number_after, number_kept}
use Rattle.dict_image.specs.Validation.Outlines.{IsImage}
use Rattle.mj_model.specs.Tables.{Token}
use Rattle.dict_image.specs.declared.ids_and_cost.IdsAndCost.{IdsAndCost}
use Rattle.dict_image.specs.EntryRows.{stored_ids, stored_row}
use Rattle.dict_image.specs.Numbered.{numbered_tokens}
use Rattle.dict_image.specs.Views.{ids_and_cost_of}
use Rattle.dict_image.proofs.FormedLemmas.{tokens_are}
use Rattle.dict_image.proofs.NumberLemmas.{range_joined}
use Rattle.dict_image.proofs.NumberedTokens.{all_numbered, numbered_count}

-- ---- one entry of a row

pub row_length : (tokens : List ℕ) → length (stored_row tokens) ≡ length tokens / 16
row_length tokens = length-map-range_with_len (stored_ids tokens) 0 (length tokens / 16)

-- its token lies among the bytes
pub within_row : (tokens : List ℕ) (i : ℕ) → i < length (stored_row tokens) → 16 * (i + 1) ≤ length tokens
within_row tokens i less =
    let n = row_length tokens in
    let m = mul-div-le (length tokens) 16 in
    omega (arith, n, m, less)

pub ids_there : (tokens : List ℕ) (i : ℕ) → i < length (stored_row tokens) → slice_get (stored_row tokens) i ≡ Some (stored_ids tokens i)
ids_there tokens i less =
    let n = row_length tokens in
    slice_get-get_or (stored_row tokens) i (stored_ids tokens i) less
    ∙ ap Some (get_or-map-range_with_len (stored_ids tokens) 0 (length tokens / 16) i i (stored_ids tokens i) (omega (arith, n, less)) (omega arith))

-- ---- a part of the section

module _ (tokens : List ℕ) (first count : ℕ) (within : 16 * (first + count) ≤ length tokens) where
  abbrev part : List ℕ
  part = slice_range tokens (16 * first) (16 * first + 16 * count)

  part_long : length part ≡ 16 * count
  part_long = omega (arith, length-take ((16 * first + 16 * count) - 16 * first) (drop (16 * first) tokens), length-drop (16 * first) tokens, within)

  number_in_part : (n at to : ℕ) → at + n ≤ 16 * count → to ≡ 16 * first + at → number_at n part at ≡ number_at n tokens to
  number_in_part n at to less place =
      let size = (16 * first + 16 * count) - 16 * first in
      let rest = drop size (drop (16 * first) tokens) in
      let whole : take (16 * first) tokens ++ (part ++ rest) ≡ tokens = ap (λ (xs : List ℕ). take (16 * first) tokens ++ xs) (take-append-drop size (drop (16 * first) tokens)) ∙ take-append-drop (16 * first) tokens in
      let front : length (take (16 * first) tokens) ≡ 16 * first = omega (arith, length-take (16 * first) tokens, within) in
      sym (number_kept n at part rest (omega (arith, part_long, less))) ∙ sym (number_after n at (take (16 * first) tokens) (part ++ rest) to (omega (arith, front, place)))
      ∙ ap (λ (xs : List ℕ). number_at n xs to) whole

  ids_in_part : (i : ℕ) → i < count → stored_ids part i ≡ stored_ids tokens (first + i)
  ids_in_part i less =
      let left = number_in_part 2 (16 * i) (16 * (first + i)) (omega (arith, less)) (omega arith) in
      let right = number_in_part 2 (16 * i + 2) (16 * (first + i) + 2) (omega (arith, less)) (omega arith) in
      let cost = number_in_part 2 (16 * i + 4) (16 * (first + i) + 4) (omega (arith, less)) (omega arith) in
      λ k. record { left = left k; right = right k; cost = cast_signed w16 (cost k) }

  all_in_part : (a n : ℕ) → a + n ≤ count → map (stored_ids part) (range_with_len a n) ≡ map (stored_ids tokens) (range_with_len (first + a) n)
  all_in_part a zero less = refl
  all_in_part a (suc n) less =
      let next : first + (a + 1) ≡ first + a + 1 = omega arith in
      ap (λ (ids : IdsAndCost). ids ∷ map (stored_ids part) (range_with_len (a + 1) n)) (ids_in_part a (omega (arith, less)))
      ∙ ap (λ (all : List IdsAndCost). stored_ids tokens (first + a) ∷ all) (all_in_part (a + 1) n (omega (arith, less)) ∙ ap (λ (b : ℕ). map (stored_ids tokens) (range_with_len b n)) next)

  pub part_is : stored_row part ≡ map (stored_ids tokens) (range_with_len first count)
  part_is =
      let many : length part / 16 ≡ count = let long = part_long in omega (arith, long) in
      let begin : first + 0 ≡ first = omega arith in
      ap (λ (n : ℕ). map (stored_ids part) (range_with_len 0 n)) many ∙ all_in_part 0 count (omega arith) ∙ ap (λ (b : ℕ). map (stored_ids tokens) (range_with_len b count)) begin

-- ---- a row of an image's entries

ids_of_tokens : (bytes : List ℕ) (a n : ℕ) → map ids_and_cost_of (map (image_token bytes) (range_with_len a n)) ≡ map (stored_ids (section bytes 7)) (range_with_len a n)
ids_of_tokens bytes a zero = refl
ids_of_tokens bytes a (suc n) = ap (λ (all : List IdsAndCost). stored_ids (section bytes 7) a ∷ all) (ids_of_tokens bytes (a + 1) n)

drop_range : {X : Type 0} (f : ℕ → X) (first more : ℕ) → drop first (map f (range_with_len 0 (first + more))) ≡ map f (range_with_len first more)
drop_range f first more =
    let front = map f (range_with_len 0 first) in
    let begin : 0 + first ≡ first = omega arith in
    ap (drop first) (ap (map f) (range_joined 0 first more) ∙ map-append f (range_with_len 0 first) (range_with_len (0 + first) more))
    ∙ drop_at front (map f (range_with_len (0 + first) more)) first (length-map-range_with_len f 0 first)
    ∙ ap (λ (b : ℕ). map f (range_with_len b more)) begin

pub row_room : (bytes : List ℕ) (first count : ℕ) → IsImage bytes → first + count ≤ length (numbered_tokens (image_tables bytes)) → 16 * (first + count) ≤ length (section bytes 7)
row_room bytes first count w within =
    let room = (tokens_are bytes (all_tokens (header_of bytes)) w (omega arith)).room in
    let many = numbered_count bytes w in
    omega (arith, room, many, within)

pub row_of_image : (bytes : List ℕ) (first count : ℕ) → IsImage bytes → first + count ≤ length (numbered_tokens (image_tables bytes))
    → stored_row (slice_range (section bytes 7) (16 * first) (16 * first + 16 * count)) ≡ map ids_and_cost_of (take count (drop first (numbered_tokens (image_tables bytes))))
row_of_image bytes first count w within =
    let f = image_token bytes in
    let n = all_tokens (header_of bytes) in
    let many = numbered_count bytes w in
    let all : n ≡ first + (n - first) = omega (arith, many, within) in
    let here : take count (drop first (numbered_tokens (image_tables bytes))) ≡ map f (range_with_len first count) =
    ap (λ (ts : List Token). take count (drop first ts)) (all_numbered bytes w ∙ ap (λ (k : ℕ). map f (range_with_len 0 k)) all)
    ∙ ap (take count) (drop_range f first (n - first)) ∙ take-map-range_with_len f first (n - first) count (omega (arith, many, within)) in
    part_is (section bytes 7) first count (row_room bytes first count w within) ∙ sym (ids_of_tokens bytes first count) ∙ ap (map ids_and_cost_of) (sym here)
