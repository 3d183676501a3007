-- The words at a position as surfaces: each is a range of consecutive entries of one list.
use Rattle.std.specs.Prelude.{◌≡◌, ℕ, ◌<◌, List, [], ◌∷◌, Some, length, flat_map, slice_get}
use Rattle.std.specs.List.{AllByRecursion}
use Rattle.mj_model.specs.declared.word.Origin.{Origin}
use Rattle.mj_model.specs.declared.word.Origin.TheVariants.{Known, Unknown}
use Rattle.mj_model.specs.declared.word.Word.{Word}
use Rattle.mj_model.specs.declared.paths.entry_list.EntryList.{EntryList}
use Rattle.mj_model.specs.declared.paths.entry_list.EntryList.TheVariants.{Lexicon, Categories}
use Rattle.mj_model.specs.declared.paths.surface.Surface.{Surface}

-- the origin of the entry with this number
abbrev pub origin_in : EntryList → ℕ → Origin
origin_in (Lexicon dict) number = Known dict number
origin_in Categories number = Unknown number

-- a word has the position, the start and the end of a surface
pub record HasSameSpan (s : Surface) (w : Word) : Type 0 where
  pub place : w.place ≡ s.place
  pub start : w.start ≡ s.start
  pub end : w.end ≡ s.end

-- a surface has `count` words, at least one, and each lies where the surface does
pub record IsWhole (words_of : Surface → List Word) (s : Surface) : Type 0 where
  pub count_is : length (words_of s) ≡ s.count
  pub some : 0 < s.count
  pub same_spans : AllByRecursion (HasSameSpan s) (words_of s)

-- the surface `one` has a single word, which is the word of s with this number
pub record IsWordOf (words_of : Surface → List Word) (s : Surface) (number : ℕ) (one : Surface) : Type 0 where
  pub whole : IsWhole words_of one
  pub word : (w : Word) → slice_get (words_of s) number ≡ Some w → words_of one ≡ w ∷ []

-- the words of these surfaces, in order, are `words`
pub record AreSurfacesOf (words_of : Surface → List Word) (words : List Word) (surfaces : List Surface) : Type 0 where
  pub joined : flat_map words_of surfaces ≡ words
  pub whole : AllByRecursion (IsWhole words_of) surfaces
