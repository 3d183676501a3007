-- The surfaces of a lexicon that are prefixes of a text.
use Rattle.std.specs.Prelude.{ℕ, nat_lt, Bool, List, length, map, filter, take}
use Rattle.mj_model.specs.CellMap.{Cell}
use Rattle.image_format.specs.ImageMeaning.{LexiconSections, entries_under, tokens_in}
use Rattle.mj_model.specs.Lists.{up_to}
use Rattle.mj_model.specs.Tables.{Token, Lexeme}

-- a prefix that is a surface: it has entries
abbrev pub has_entries : ℕ × List Token → Bool
has_entries prefix = nat_lt 0 (length prefix.1)

-- the first `n` bytes of a text, with their entries
abbrev pub prefix_at : List ℕ → List Lexeme → ℕ → ℕ × List Token
prefix_at text lexicon n = (n, entries_under (take n text) lexicon)

-- the surfaces that are prefixes of a text, the shortest first: their lengths in bytes, and their
-- entries
abbrev pub prefixes_in : List ℕ → List Lexeme → List (ℕ × List Token)
prefixes_in text lexicon = filter has_entries (map (prefix_at text lexicon) (up_to (length text)))

-- the prefix of a hit, which is a length in bytes and a group: this length, and the tokens of the
-- group
abbrev pub prefix_in : LexiconSections → ℕ × ℕ → ℕ × List Token
prefix_in s hit = (hit.0, tokens_in s.tokens s.features s.groups hit.1)

-- the iterator as contracts describe it: the remaining prefixes, the cells of the double array, the
-- text, and the number of bytes that were walked
pub record PrefixesView : Type 0 where
  pub prefixes : List (ℕ × List Token)
  pub cells : List Cell
  pub text : List ℕ
  pub walked : ℕ
