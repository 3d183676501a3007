-- The end of a path after each of its words, and the last words as they are borrowed.
use Rattle.std.specs.Prelude.{◌≡◌, ℕ, pos, List, ◌++◌, flat_map, IsTrue}
use Rattle.mj_model.specs.declared.word.Word.{Word}
use Rattle.mj_model.specs.Connection.{is_pair}
use Rattle.mj_model.specs.Printed.{feature_of}
use Rattle.mj_model.specs.Tables.{Overlay}
use Rattle.out_format.specs.Followable.{AreFollowable, IsLow}
use Rattle.out_format.specs.PrintedPaths.{cost_with_word}
use Rattle.word_lookup.specs.Overlays.{overlay_of}
use Rattle.line_segmenter.specs.Segmenters.{SegmentedLine, ExceedsCapacity, SegmenterState, overlay_of_state}
use Rattle.line_segmenter.specs.declared.last_words.LastWords.{LastWords}
use Rattle.line_segmenter.specs.declared.path_end.PathEnd.{PathEnd}

-- the empty path, which ends with BOS
abbrev pub at_bos : PathEnd
at_bos = record { right = 0; total = pos 0 }

-- the end of a path that ends with `before`, extended by word w
abbrev pub path_end_after : Overlay → PathEnd → Word → PathEnd
path_end_after o before w = record { right = w.right; total = cost_with_word o before.right before.total w }

-- the word may follow: its left id makes a pair with the right id before it, and the cost is far
-- from overflow
pub record CanFollow (o : Overlay) (before : PathEnd) (w : Word) : Type 0 where
  pub pair : IsTrue (is_pair o.system.sizes before.right w.left)
  pub low : IsLow before.total

-- each word may follow the one before it, the first one after the path that ends with `before`
abbrev pub MayFollow : Overlay → List ℕ → PathEnd → List Word → Type 0
MayFollow o text before words = AreFollowable o text before.right before.total words

-- `last` borrows the last line and the dictionaries that segmented it; each of its words may follow
-- the one before it
pub record AreLast (h : SegmenterState) (last : LastWords) (c : SegmentedLine) : Type 0 where
  pub dictionaries : overlay_of last.dictionaries ≡ overlay_of_state h
  pub text : last.text.now ≡ c.text
  pub words : last.words.now ≡ c.words
  pub follow : MayFollow (overlay_of last.dictionaries) last.text.now at_bos last.words.now

-- the features of the words, concatenated
abbrev pub features_of : Overlay → List Word → List ℕ
features_of o words = flat_map (λ (w : Word). feature_of o w.origin) words

-- the output grows by the features of all words
abbrev pub GrowsByFeatures : SegmenterState → List ℕ → List ℕ → SegmentedLine → Type 0
GrowsByFeatures h old new c = new ≡ old ++ features_of (overlay_of_state h) c.words

-- the features of all words exceed the capacity of the output
abbrev pub FeaturesExceedCapacity : SegmenterState → ℕ → ℕ → SegmentedLine → Type 0
FeaturesExceedCapacity h capacity count c = ExceedsCapacity capacity count (features_of (overlay_of_state h) c.words)
