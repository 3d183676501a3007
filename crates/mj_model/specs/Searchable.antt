-- The requirements of the search on a text: its words, its positions and its context ids.
use Rattle.std.specs.Prelude.{ℕ, ℤ, ◌≤◌, ◌^◌, List, Contains}
use Rattle.mj_model.specs.declared.word.Word.{Word}
use Rattle.mj_model.specs.Best.{IsSource}

-- offset 0 is a position, and each word ends at a position
pub record StaysOnPlaces (is_place : ℕ → Type 0) (words : ℕ → List Word) : Type 0 where
  pub begins : is_place 0
  pub word_ends_there : (p : ℕ) (w : Word) → Contains (words p) w → is_place w.end

-- a word with left id `left` may follow BOS and every word
pub record MayFollow (is_pair : ℕ → ℕ → Type 0) (words : ℕ → List Word) (left : ℕ) : Type 0 where
  pub after_bos : is_pair 0 left
  pub after_word : (p : ℕ) (w : Word) → Contains (words p) w → is_pair w.right left

-- a text of up to 2^20 bytes whose words have costs of 16 bits and end at positions, and in which
-- EOS and every word may follow BOS and every word
pub record IsSearchable (is_place : ℕ → Type 0) (is_pair : ℕ → ℕ → Type 0) (words : ℕ → List Word) (conn : ℕ → ℕ → ℤ) (len : ℕ) : Type 0 where
  pub source : IsSource words conn len
  pub short : len ≤ 2 ^ 20
  pub places : StaysOnPlaces is_place words
  pub eos_follows : MayFollow is_pair words 0
  pub word_follows : (p : ℕ) (w : Word) → Contains (words p) w → MayFollow is_pair words w.left
