-- The words that some chain reaches, as they are collected position by position.
use Rattle.std.specs.Prelude.{◌≡◌, ℕ, ◌+◌, ◌<◌, ◌≤◌, ◌⊎◌, List, Bool, true, length, slice_get, Some}
use Rattle.mj_model.specs.declared.word.Word.{Word}
use Rattle.viterbi.specs.Search.SearchedText.{CanBeSearched, SearchedText}
use Rattle.viterbi.specs.declared.nodes.reachable_words.ReachableWords.{ReachableWords}
use Rattle.viterbi.specs.Nodes.LatticeNodes.{AreReachableBefore}

-- the number of the first word at position `place` or later, or the number of words
pub record IsFirstFrom (ws : List Word) (place first : ℕ) : Type 0 where
  pub within : first ≤ length ws
  pub before : (i : ℕ) (w : Word) → slice_get ws i ≡ Some w → i < first → w.place < place
  pub from : (i : ℕ) (w : Word) → slice_get ws i ≡ Some w → first ≤ i → place ≤ w.place

-- `firsts` has for each position the number of the first word at it or after it; every word's
-- position has an entry
pub record AreIndexed (ws : List Word) (firsts : List ℕ) : Type 0 where
  pub each : (place first : ℕ) → slice_get firsts place ≡ Some first → IsFirstFrom ws place first
  pub below : (i : ℕ) (w : Word) → slice_get ws i ≡ Some w → w.place < length firsts

-- the marked positions are the start of the text and the ends of the words
pub record AreMarked (ws : List Word) (marks : List Bool) : Type 0 where
  pub begins : slice_get marks 0 ≡ Some true
  pub ends : (i : ℕ) (w : Word) → slice_get ws i ≡ Some w → slice_get marks w.end ≡ Some true
  pub marked : (place : ℕ) → slice_get marks place ≡ Some true → (place ≡ 0) ⊎ ((i : ℕ) × (w : Word) × (slice_get ws i ≡ Some w) × (w.end ≡ place))

-- the reachable words of the positions before p are collected, with the first word of each, and the
-- positions that they reach are marked
pub record IsReachedTo (t : SearchedText) (p : ℕ) (ws : List Word) (firsts : List ℕ) (marks : List Bool) : Type 0 where
  pub are : AreReachableBefore t.words p ws
  pub indexed : AreIndexed ws firsts
  pub places : length firsts ≡ p
  pub marks_are : AreMarked ws marks
  pub marks_long : length marks ≡ t.text_length + 1

-- all reachable words of a text, with the number of the first word of each position
pub record AreReachedIn (t : SearchedText) (r : ReachableWords) : Type 0 where
  pub are : AreReachableBefore t.words t.text_length r.words.items
  pub indexed : AreIndexed r.words.items r.firsts.items

-- a text that can be searched, with its reachable words
pub record IsReachedText (t : SearchedText) (r : ReachableWords) : Type 0 where
  pub source : CanBeSearched t
  pub reached : AreReachedIn t r
