-- The ids and costs of entries with consecutive numbers.
use Rattle.std.specs.Prelude.{ℕ, ◌/◌, List, length, map}
use Rattle.std.specs.List.{range_with_len}
use Rattle.image_format.specs.ImageSections.{stored_token}
use Rattle.dict_image.specs.declared.ids_and_cost.IdsAndCost.{IdsAndCost}

-- the ids and the cost of token `i`
abbrev pub stored_ids : List ℕ → ℕ → IdsAndCost
stored_ids tokens i = record { left = (stored_token tokens i).left; right = (stored_token tokens i).right; cost = (stored_token tokens i).cost }

-- the ids and costs of all tokens
abbrev pub stored_row : List ℕ → List IdsAndCost
stored_row tokens = map (stored_ids tokens) (range_with_len 0 (length tokens / 16))
