-- Limits of an image: the size of its features, and the number of its cells.
use Rattle.std.specs.Prelude.{ℕ, ◌+◌, not, List, [], ◌∷◌, ◌++◌, length, map, filter, flat_map, sum_by, bytes_eq}
use Rattle.std.specs.List.{range_with_len}
use Rattle.cells.specs.declared.cells.TheConstants.{CELLS_MAX}
use Rattle.image_format.specs.declared.header.TheConstants.{FEATURE_BYTES_END}
use Rattle.mj_model.specs.Tables.{Tables, Token, Lexeme}

-- the texts of a list without repetitions
abbrev pub each_once : List (List ℕ) → List (List ℕ)
each_once [] = []
each_once (text ∷ texts) = text ∷ filter (λ other. not (bytes_eq other text)) (each_once texts)

abbrev pub lexicon_tokens : List Lexeme → List Token
lexicon_tokens lexicon = map (λ (e : Lexeme). e.token) lexicon

-- all tokens of a system dictionary: first the lexicon, then the unknown tokens of each category
abbrev pub system_tokens : Tables → List Token
system_tokens t = lexicon_tokens t.lexicon ++ flat_map t.unknown (range_with_len 0 (length t.categories))

-- the size in bytes of the distinct features of tokens
abbrev pub feature_bytes : List Token → ℕ
feature_bytes tokens = sum_by length (each_once (map (λ (t : Token). t.feature) tokens))

-- the exclusive limit on the size of an image's features in bytes
abbrev pub feature_bytes_end : ℕ
feature_bytes_end = FEATURE_BYTES_END

-- an upper bound on the cells that the surfaces of a lexicon need: 600, and for each distinct
-- surface its length and 600
abbrev pub most_cells : List Lexeme → ℕ
most_cells lexicon = 600 + sum_by (λ surface. length surface + 600) (each_once (map (λ (e : Lexeme). e.surface) lexicon))

-- the greatest number of cells in an image
abbrev pub cells_max : ℕ
cells_max = CELLS_MAX
