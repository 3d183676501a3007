-- The contents of dictionaries: the tables of one dictionary, and the overlay of a system
-- dictionary and user dictionaries.
use Rattle.std.specs.Prelude.{ℕ, ℤ, false, List, [], ◌∷◌, map, slice_index_or, IsUtf8}
use Rattle.mj_model.specs.declared.category.CharInfo.{CharInfo}
use Rattle.mj_model.specs.declared.category.Category.{Category}
use Rattle.mj_model.specs.declared.matrix_sizes.MatrixSizes.{MatrixSizes}
use Rattle.mj_model.specs.Lists.{AreDistinct}

-- an entry, with its number in its dictionary
pub record Token : Type 0 where
  pub number : ℕ
  pub left : ℕ
  pub right : ℕ
  pub cost : ℤ
  pub feature : List ℕ

-- an entry of a lexicon, with its surface
pub record Lexeme : Type 0 where
  pub surface : List ℕ
  pub token : Token

-- the surface is UTF-8
abbrev pub HasText : Lexeme → Type 0
HasText e = IsUtf8 e.surface

-- no two entries have the same number
abbrev pub HasDistinctTokens : List Token → Type 0
HasDistinctTokens ts = AreDistinct (map (λ t. t.number) ts)

-- a system dictionary is used by itself; a user dictionary extends one, and has only a lexicon
pub data Kind : Type 0 where
  System : Kind
  User : Kind

-- one dictionary: its kind, the sizes and the costs of its connection table, the categories, the
-- categories of each code point, the unknown entries of each category, and its lexicon
pub record Tables : Type 0 where
  pub kind : Kind
  pub sizes : MatrixSizes
  pub connection : ℕ → ℕ → ℤ
  pub categories : List Category
  pub info : ℕ → CharInfo
  pub unknown : ℕ → List Token
  pub lexicon : List Lexeme

-- a system dictionary with user dictionaries in their order, and the grouping limit: how many
-- characters may follow the first one of a grouped word
pub record Overlay : Type 0 where
  pub system : Tables
  pub users : List Tables
  pub grouping : ℕ

-- all lexicons, the system dictionary's first
abbrev pub lexicons_of : List Tables → List (List Lexeme)
lexicons_of [] = []
lexicons_of (t ∷ ts) = t.lexicon ∷ lexicons_of ts

abbrev pub lexicons : Overlay → List (List Lexeme)
lexicons o = lexicons_of (o.system ∷ o.users)

-- a category without INVOKE and GROUP, and with LENGTH 0
abbrev pub no_category : Category
no_category = record { invoke = false; group = false; length = 0 }

-- category number i
abbrev pub category_at : Overlay → ℕ → Category
category_at o i = slice_index_or o.system.categories i no_category
