-- Prefixes of surfaces, by which records are compared first.
use Rattle.std.specs.Prelude.{ℕ, List, map, slice_index}
use Rattle.std.specs.List.{range_with_len}

-- the first 8 bytes, padded with bytes of 0
abbrev pub prefix_of_bytes : List ℕ → List ℕ
prefix_of_bytes bytes = map (slice_index bytes) (range_with_len 0 8)
