-- The entries of a dictionary by their numbers.
use Rattle.std.specs.Prelude.{◌-◌, List, ◌++◌, length, map, flat_map}
use Rattle.mj_model.specs.Lists.{up_to}
use Rattle.mj_model.specs.Tables.{Tables, Token, Lexeme}

-- the unknown entries of all categories, in the order of the categories
abbrev pub unknown_tokens : Tables → List Token
unknown_tokens t = flat_map (λ n. t.unknown (n - 1)) (up_to (length t.categories))

-- all entries, first those of the lexicon, then the unknown ones; each is at the position of its
-- number
abbrev pub numbered_tokens : Tables → List Token
numbered_tokens t = map (λ (e : Lexeme). e.token) t.lexicon ++ unknown_tokens t
