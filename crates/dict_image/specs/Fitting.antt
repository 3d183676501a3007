-- The assumptions of the search on a dictionary's tables.
use Rattle.std.specs.Prelude.{◌≡◌, ℕ, ◌^◌, ◌<◌, ◌≤◌, IsTrue, List, length, map, slice_get, slice_index, Some}
use Rattle.std.specs.List.{AllByRecursion}
use Rattle.mj_model.specs.Bounds.{IsWithin}
use Rattle.mj_model.specs.declared.matrix_sizes.MatrixSizes.{MatrixSizes}
use Rattle.mj_model.specs.Connection.{is_pair}
use Rattle.mj_model.specs.Tables.{HasDistinctTokens, HasText, Tables, Token, Lexeme, System}
use Rattle.dict_image.specs.Numbered.{numbered_tokens}

-- each byte is below 256
abbrev pub AreBytes : List ℕ → Type 0
AreBytes bytes = (i : ℕ) → slice_index bytes i < 256

-- the ids are within the sizes, and the cost fits 16 bits
abbrev pub IsFitting : MatrixSizes → Token → Type 0
IsFitting sizes t = IsTrue (is_pair sizes t.right t.left) × IsWithin (2 ^ 15) t.cost

-- The ids and costs of all entries fit, connection costs fit 16 bits, and BOS and EOS may be
-- adjacent. Surfaces are UTF-8, and no two entries of the lexicon or of a category have one number.
-- Entries are numbered in their order, within 32 bits. The first category of each code point
-- exists, and has an unknown entry.
pub record AreFitting (t : Tables) : Type 0 where
  pub lexicon : AllByRecursion (λ (e : Lexeme). IsFitting t.sizes e.token) t.lexicon
  pub unknown : (i : ℕ) → AllByRecursion (IsFitting t.sizes) (t.unknown i)
  pub connections : (right left : ℕ) → IsWithin (2 ^ 15) (t.connection right left)
  pub no_words : IsTrue (is_pair t.sizes 0 0)
  pub surfaces : AllByRecursion HasText t.lexicon
  pub lexicon_apart : HasDistinctTokens (map (λ (e : Lexeme). e.token) t.lexicon)
  pub unknown_apart : (i : ℕ) → HasDistinctTokens (t.unknown i)
  pub numbered : (i : ℕ) (e : Token) → slice_get (numbered_tokens t) i ≡ Some e → e.number ≡ i
  pub few : length (numbered_tokens t) ≤ 2 ^ 32
  pub firsts : t.kind ≡ System → (code : ℕ) → (t.info code).head < length t.categories
  pub covered : t.kind ≡ System → (code : ℕ) → 0 < length (t.unknown (t.info code).head)
