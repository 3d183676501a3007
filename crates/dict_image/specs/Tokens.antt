-- Tokens with consecutive numbers.
use Rattle.std.specs.Prelude.{ℕ, ◌-◌, List, map}
use Rattle.std.specs.List.{range_with_len}
use Rattle.image_format.specs.ImageSections.{token_from}
use Rattle.mj_model.specs.Tables.{Token}

-- the tokens from number `first` to before number `end`
abbrev pub tokens_from : List ℕ → List ℕ → ℕ → ℕ → List Token
tokens_from tokens features first end = map (token_from tokens features) (range_with_len first (end - first))
