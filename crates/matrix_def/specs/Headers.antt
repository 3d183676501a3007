-- The start of a line that is no header, whatever follows.
use Rattle.std.specs.Prelude.{◌≡◌, ◌⊎◌, ℕ, true, false, List, [], ◌∷◌, ◌++◌, None}
use Rattle.std.specs.List.{list_any}
use Rattle.mj_model.specs.Bytes.{is_blank}
use Rattle.mj_model.specs.Connection.{size, sizes_from, words_of}
use Rattle.mj_model.specs.Lines.{is_blank_line, without_return}

abbrev pub HasNoBlank : List ℕ → Type 0
HasNoBlank bytes = list_any is_blank bytes ≡ false

-- bytes that end with a blank
pub record EndsBlank (bytes : List ℕ) : Type 0 where
  pub front : List ℕ
  pub last : ℕ
  pub parts : bytes ≡ front ++ last ∷ []
  pub blank : is_blank last ≡ true

-- bytes after which a word starts: none, or bytes that end with a blank
abbrev pub IsClosed : List ℕ → Type 0
IsClosed bytes = (bytes ≡ []) ⊎ EndsBlank bytes

-- the start of a line, split before its last word
pub record IsLastWord (start front word : List ℕ) : Type 0 where
  pub parts : start ≡ front ++ word
  pub closed : IsClosed front
  pub plain : HasNoBlank word

-- the word is no size, whatever follows in it
abbrev pub IsNoSize : List ℕ → Type 0
IsNoSize word = (more : List ℕ) → HasNoBlank more → size (word ++ more) ≡ None

-- the last word of a line's start is no size, whatever follows in it
pub record EndsWithNoSize (start : List ℕ) : Type 0 where
  pub front : List ℕ
  pub word : List ℕ
  pub is_cut : IsLastWord start front word
  pub none : IsNoSize word

-- a line that starts so is neither blank nor a header, whatever follows
abbrev pub IsNoHeader : List ℕ → Type 0
IsNoHeader start = (more : List ℕ) → (is_blank_line (without_return (start ++ more)) ≡ false) × (sizes_from (words_of (without_return (start ++ more))) ≡ None)
