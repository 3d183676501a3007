-- Words in the layout of the C header.
use Rattle.std.specs.Prelude.{◌≡◌, ℕ, ℤ, List, [], ◌∷◌, length, drop}
use Rattle.mj_model.specs.declared.word.Origin.{Origin}
use Rattle.mj_model.specs.declared.word.Origin.TheVariants.{Known, Unknown}
use Rattle.mj_model.specs.declared.word.Word.{Word}
use Rattle.mj_model.specs.Printed.{feature_of}
use Rattle.mj_model.specs.Tables.{Overlay}
use Rattle.line_segmenter.specs.Segmenters.{SegmentedLine, SegmenterState, first_category_at, overlay_of_state}
use Rattle.line_segmenter.specs.declared.path_end.PathEnd.{PathEnd}
use Rattle.line_segmenter.specs.PathEnds.{at_bos, path_end_after}
use Rattle.capi.specs.Outputs.{with_front}
use Rattle.capi.specs.declared.words.CWord.{CWord}

-- 1 for an entry of a lexicon, 0 for an unknown entry
abbrev pub known_in : Origin → ℕ
known_in (Known dict token) = 1
known_in (Unknown token) = 0

-- the number of the entry's dictionary
abbrev pub dictionary_in : Origin → ℕ
dictionary_in (Known dict token) = dict
dictionary_in (Unknown token) = 0

-- the number of the entry in its dictionary
abbrev pub token_in : Origin → ℕ
token_in (Known dict token) = token
token_in (Unknown token) = token

-- a word with a category, the cost of the path up to and including it, and the length of its
-- feature
abbrev pub c_word : Word → ℕ → ℤ → ℕ → CWord
c_word w category total feature_length = record {
  place = w.place;
  start = w.start;
  end = w.end;
  dictionary = dictionary_in w.origin;
  token = token_in w.origin;
  left = w.left;
  right = w.right;
  cost = w.cost;
  known = known_in w.origin;
  category = category;
  total = total;
  feature_length = feature_length;
}

-- a word of a text, with the first category of its first character and the length of its feature
abbrev pub c_word_in : Overlay → List ℕ → ℤ → Word → CWord
c_word_in o text total w = c_word w (first_category_at o text w.start) total (length (feature_of o w.origin))

-- consecutive words of a text, the first one after the path that ends with `before`
abbrev pub c_words : Overlay → List ℕ → PathEnd → List Word → List CWord
c_words o text before [] = []
c_words o text before (w ∷ ws) = let now = path_end_after o before w in c_word_in o text now.total w ∷ c_words o text now ws

-- the words were written from index `first`, and `count` is their number
pub record AreWordsWritten (h : SegmenterState) (first count : ℕ) (old new : List CWord) (c : SegmentedLine) : Type 0 where
  pub written : new ≡ with_front (drop first (c_words (overlay_of_state h) c.text at_bos c.words)) old
  pub all : count ≡ length c.words
