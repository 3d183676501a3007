-- The feature of a word.
use Rattle.std.specs.Prelude.{ℕ, ◌-◌, ◌==◌, List, [], map, flat_map, find, slice_index_or, length}
use Rattle.std.specs.Option.{option_map_or}
use Rattle.mj_model.specs.declared.word.Origin.{Origin}
use Rattle.mj_model.specs.declared.word.Origin.TheVariants.{Known, Unknown}
use Rattle.mj_model.specs.Lists.{up_to}
use Rattle.mj_model.specs.Tables.{Overlay, Token, lexicons}

-- the feature of the entry with this number
abbrev pub feature_in : List Token → ℕ → List ℕ
feature_in tokens number = option_map_or (λ (t : Token). t.feature) (find (λ t. t.number == number) tokens) []

-- the unknown entries of all categories of the system dictionary
abbrev pub unknown_entries : Overlay → List Token
unknown_entries o = flat_map (λ n. o.system.unknown (n - 1)) (up_to (length o.system.categories))

-- the feature of a word with this origin
abbrev pub feature_of : Overlay → Origin → List ℕ
feature_of o (Known dict number) = feature_in (map (λ e. e.token) (slice_index_or (lexicons o) dict [])) number
feature_of o (Unknown number) = feature_in (unknown_entries o) number
