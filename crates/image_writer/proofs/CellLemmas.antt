-- Cells and starts that are appended to others are read back.
use Rattle.std.proofs.Common.{◌≡◌, ℕ, ◌+◌, ◌*◌, ◌/◌, ◌^◌, ◌<◌, ℤ, List, [], ◌++◌, length, Some, inl, inr, sym, ap, ◌∙◌, refl, arith}
use Rattle.std.specs.Prelude.{slice_get}
use Rattle.std.specs.Int.{w32, cast_signed, cast_unsigned}
use Rattle.std.proofs.lemmas.Bool.{cases_lt}
use Rattle.std.proofs.lemmas.Int.{to_z-of_z}
use Rattle.std.proofs.Math.Facts.{Fits-of_z}
use Rattle.std.proofs.lemmas.List.{length-append, ext_get_or}
use Rattle.std.proofs.lemmas.List.FromFn.{length-map-range_with_len, get_or-map-range_with_len}
use Rattle.std.proofs.lemmas.Option.{get_or_from_slice_get}
use mir.Val.{SFits}
use Rattle.byteorder.specs.Endian.{little_bytes}
use Rattle.byteorder.specs.Numbers.{length-bytes_low_first}
use Rattle.mj_model.specs.CellMap.{Cell, cell_at, free_cell}
use Rattle.image_format.specs.ImageBytes.{signed_4_at}
use Rattle.image_format.specs.ImageSections.{stored_cell, stored_cells}
use Rattle.image_writer.specs.TokenBytes.{cell_bytes_of}
use Rattle.image_writer.specs.Written.{HoldsCells, HoldsNumbers}
use Rattle.image_format.proofs.NumberLemmas.{number_kept, number_after, number_back}

-- ---- numbers of 4 bytes

pub numbers_more : (f : ℕ → ℕ) (n : ℕ) (bytes : List ℕ) (x : ℕ) → HoldsNumbers f n bytes → x ≡ f n → x < 2 ^ 32 → HoldsNumbers f (n + 1) (bytes ++ little_bytes 4 x)
numbers_more f n bytes x holds is fits =
    let fill = holds.fill in
    record {
      fill = length-append bytes (little_bytes 4 x) ∙ (let b = length-bytes_low_first 0 4 x in omega (arith, fill, b));
      each = λ g less. elim (cases_lt g n) [
        | inl before ↦ number_kept 4 (4 * g) bytes (little_bytes 4 x) (omega (arith, fill, before)) ∙ holds.each g before
        | inr now ↦
            let e : n ≡ g = omega (arith, now, less) in
            number_after 4 0 bytes (little_bytes 4 x) (4 * g) (omega (arith, fill, e)) ∙ number_back 4 x [] fits ∙ is ∙ ap f e
      ];
    }

-- ---- cells

pub cells_more : (cells : List Cell) (n : ℕ) (bytes : List ℕ) (b c : ℤ) → HoldsCells cells n bytes → slice_get cells n ≡ Some (b, c) → SFits w32 b → SFits w32 c → HoldsCells cells (n + 1) (bytes ++ cell_bytes_of (b, c))
cells_more cells n bytes b c holds at base check =
    let fill = holds.fill in
    let more : List ℕ = cell_bytes_of (b, c) in
    record {
      fill = length-append bytes more ∙ (let l : length more ≡ 8 = refl in omega (arith, fill, l));
      each = λ k less. elim (cases_lt k n) [
        | inl before ↦
            (λ j. (cast_signed w32 (number_kept 4 (8 * k) bytes more (omega (arith, fill, before)) j), cast_signed w32 (number_kept 4 (8 * k + 4) bytes more (omega (arith, fill, before)) j)))
            ∙ holds.each k before
        | inr now ↦
            let e : n ≡ k = omega (arith, now, less) in
            let first : signed_4_at (bytes ++ more) (8 * k) ≡ b =
            ap (cast_signed w32) (number_after 4 0 bytes more (8 * k) (omega (arith, fill, e)) ∙ number_back 4 (cast_unsigned w32 b) (little_bytes 4 (cast_unsigned w32 c)) (Fits-of_z base).fits) ∙ to_z-of_z w32 b base in
            let second : signed_4_at (bytes ++ more) (8 * k + 4) ≡ c =
            ap (cast_signed w32) (number_after 4 4 bytes more (8 * k + 4) (omega (arith, fill, e)) ∙ number_back 4 (cast_unsigned w32 c) [] (Fits-of_z check).fits) ∙ to_z-of_z w32 c check in
            (λ j. (first j, second j)) ∙ sym (get_or_from_slice_get cells n (b, c) free_cell at) ∙ ap (cell_at cells) e
      ];
    }

pub all_cells : (cells : List Cell) (bytes : List ℕ) → HoldsCells cells (length cells) bytes → stored_cells bytes ≡ cells
all_cells cells bytes holds =
    let count : length bytes / 8 ≡ length cells = let f = holds.fill in omega (arith, f) in
    let long : length (stored_cells bytes) ≡ length cells = length-map-range_with_len (stored_cell bytes) 0 (length bytes / 8) ∙ count in
    ext_get_or free_cell (stored_cells bytes) cells long
    (λ i less. get_or-map-range_with_len (stored_cell bytes) 0 (length bytes / 8) i i free_cell (omega (arith, less, long, count)) (omega arith) ∙ holds.each i (omega (arith, less, long)))
