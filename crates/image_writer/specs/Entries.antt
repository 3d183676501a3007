-- The entries of a dictionary as rows, with their numbers.
use Rattle.std.specs.Prelude.{ℕ, pos, List, [], ◌++◌, map, flat_map, slice_index_or}
use Rattle.std.specs.List.{enumerate_from}
use Rattle.mj_model.specs.Dictionary.{lexeme_of}
use Rattle.mj_model.specs.Lexicon.{Row}
use Rattle.mj_model.specs.Tables.{Token, Lexeme}
use Rattle.mj_model.specs.UnkDef.{token_of}

-- all entries: those of a lexicon, then the unknown ones, category by category
abbrev pub all_rows : List Row → List (List Row) → List Row
all_rows lexicon unknown = lexicon ++ flat_map (λ rows. rows) unknown

-- the entries as tokens, numbered from 0
abbrev pub tokens_of : List Row → List Token
tokens_of rows = map token_of (enumerate_from 0 rows)

-- the entries with their surfaces, numbered from 0
abbrev pub lexemes_of : List Row → List Lexeme
lexemes_of rows = map lexeme_of (enumerate_from 0 rows)

abbrev pub no_row : Row
no_row = record { line = 0; surface = []; left = 0; right = 0; cost = pos 0; feature = [] }

-- the surface of entry `i`
abbrev pub surface_at : List Row → ℕ → List ℕ
surface_at rows i = (slice_index_or rows i no_row).surface
