-- Words of a position grouped by surface: entries of one list with consecutive numbers.
use Rattle.std.specs.Prelude.{ℕ, ◌+◌, List, [], ◌∷◌, map, take, drop, slice_get}
use Rattle.std.specs.Option.{option_map_or}
use Rattle.mj_model.specs.declared.word.Word.{Word}
use Rattle.mj_model.specs.Lists.{GrowsBy}
use Rattle.mj_model.specs.Tables.{Overlay, Tables, Token}
use Rattle.dict_image.specs.declared.ids_and_cost.IdsAndCost.{IdsAndCost}
use Rattle.dict_image.specs.Numbered.{numbered_tokens}
use Rattle.mj_model.specs.declared.paths.entry_list.EntryList.{EntryList}
use Rattle.mj_model.specs.declared.paths.entry_list.EntryList.TheVariants.{Lexicon, Categories}
use Rattle.mj_model.specs.declared.paths.surface.Surface.{Surface}
use Rattle.mj_model.specs.Surfaces.{AreSurfacesOf, origin_in}
use Rattle.word_lookup.specs.EntryWords.{entry_word}

-- the tables of the system dictionary, then those of the user dictionaries
abbrev pub all_tables : Overlay → List Tables
all_tables o = o.system ∷ o.users

-- the entries of a list, each at the index of its number; none if there is no such dictionary
abbrev pub tokens_of : Overlay → EntryList → List Token
tokens_of o (Lexicon dict) = option_map_or numbered_tokens (slice_get (all_tables o) dict) []
tokens_of o Categories = numbered_tokens o.system

-- the words of a surface whose entries are among these tokens
abbrev pub words_among : List Token → Surface → List Word
words_among tokens s = map (entry_word s.list s.place s.start s.end) (take s.count (drop s.first tokens))

-- the words of a surface, from the entries of its list
abbrev pub surface_words : Overlay → Surface → List Word
surface_words o s = words_among (tokens_of o s.list) s

-- the word of a surface whose entry has this number, ids and cost
abbrev pub word_with : Surface → ℕ → IdsAndCost → Word
word_with s token ids =
    record { place = s.place; start = s.start; end = s.end; left = ids.left; right = ids.right; cost = ids.cost; origin = origin_in s.list token }

-- the words of a surface whose entries have these ids and costs, and numbers from `token` on
abbrev pub words_by_ids : Surface → ℕ → List IdsAndCost → List Word
words_by_ids s token [] = []
words_by_ids s token (ids ∷ rest) = word_with s token ids ∷ words_by_ids s (token + 1) rest

-- surfaces of exactly these words were appended
abbrev pub GrowsByWords : Overlay → List Word → List Surface → List Surface → Type 0
GrowsByWords o words old new = GrowsBy (AreSurfacesOf (surface_words o) words) old new
