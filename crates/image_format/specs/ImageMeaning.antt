-- The tables of a dictionary that a well-formed image contains.
use Rattle.std.specs.Prelude.{ℕ, suc, ◌-◌, nat_lt, ℤ, pos, List, [], map, flat_map, if◌then◌else◌, bytes_eq, filter, Option}
use Rattle.std.specs.List.{range_with_len}
use Rattle.mj_model.specs.CellMap.{value_of}
use Rattle.mj_model.specs.declared.category.CharInfo.{CharInfo}
use Rattle.mj_model.specs.CharDef.{NamedCategory}
use Rattle.mj_model.specs.Connection.{is_pair}
use Rattle.image_format.specs.ImageBytes.{header_of, kind_of, section}
use Rattle.image_format.specs.declared.layout.InfoForm.{InfoForm}
use Rattle.image_format.specs.declared.layout.InfoForm.TheVariants as info
use Rattle.image_format.specs.declared.layout.KeyForm.{KeyForm}
use Rattle.image_format.specs.declared.layout.KeyForm.TheVariants as key
use Rattle.image_format.specs.Layouts.{info_form, key_form}
use Rattle.image_format.specs.OlderSections.{listed_info, listed_key, listed_number}
use Rattle.image_format.specs.ImageSections.{categories_in, index_at, key_of, stored_cells, stored_cost, stored_info, token_from}
use Rattle.mj_model.specs.Tables.{Tables, Token, Lexeme}

-- ---- meaning of single sections

-- the tokens of list `i` of an index
abbrev pub tokens_in : List ℕ → List ℕ → List ℕ → ℕ → List Token
tokens_in tokens features index i = map (token_from tokens features) (range_with_len (index_at index i) (index_at index (suc i) - index_at index i))

abbrev pub entry_under : List ℕ → Token → Lexeme
entry_under surface token = record { surface = surface; token = token }

-- the sections of a lexicon: the form of its keys; the keys, groups, tokens and features
pub record LexiconSections : Type 0 where
  pub form : KeyForm
  pub keys : List ℕ
  pub groups : List ℕ
  pub tokens : List ℕ
  pub features : List ℕ

-- the key of a group
abbrev pub key_in : KeyForm → List ℕ → ℕ → List ℕ
key_in key.Listed keys group = listed_key keys group
key_in key.Cells keys group = key_of (stored_cells keys) group

-- the group of a surface among `groups`, if it has one
abbrev pub group_in : KeyForm → ℕ → List ℕ → List ℕ → Option ℕ
group_in key.Listed groups keys surface = listed_number groups keys surface
group_in key.Cells groups keys surface = value_of (stored_cells keys) surface

-- the categories of a code point
abbrev pub info_in : InfoForm → List ℕ → ℕ → CharInfo
info_in info.Listed infos code = listed_info infos code
info_in info.Ranges infos code = stored_info infos code

-- the entries of a group, each with the group's key as its surface
abbrev pub entries_of_group : LexiconSections → ℕ → List Lexeme
entries_of_group s group = map (entry_under (key_in s.form s.keys group)) (tokens_in s.tokens s.features s.groups group)

-- the entries of so many groups, in the order of the groups
abbrev pub lexicon_in : ℕ → LexiconSections → List Lexeme
lexicon_in groups s = flat_map (entries_of_group s) (range_with_len 0 groups)

-- ---- meaning of an image

abbrev pub lexicon_sections : List ℕ → LexiconSections
lexicon_sections bytes = record {
  form = key_form (header_of bytes).layout;
  keys = section bytes 5;
  groups = section bytes 6;
  tokens = section bytes 7;
  features = section bytes 8;
}

-- the categories of a code point in an image
abbrev pub image_info : List ℕ → ℕ → CharInfo
image_info bytes code = info_in (info_form (header_of bytes).layout) (section bytes 3) code

-- token `i` of an image
abbrev pub image_token : List ℕ → ℕ → Token
image_token bytes i = token_from (section bytes 7) (section bytes 8) i

-- the lexicon of an image, in the order of its groups
abbrev pub image_lexicon : List ℕ → List Lexeme
image_lexicon bytes = lexicon_in (header_of bytes).groups (lexicon_sections bytes)

-- the categories of an image with their names
abbrev pub image_categories : List ℕ → List NamedCategory
image_categories bytes = categories_in (header_of bytes).categories (section bytes 2)

-- the connection cost; 0 for a pair of ids outside the sizes
abbrev pub image_cost : List ℕ → ℕ → ℕ → ℤ
image_cost bytes right left =
    if is_pair (header_of bytes).sizes right left then stored_cost (header_of bytes).sizes (section bytes 1) right left else pos 0

-- the unknown tokens of category `i`; none if there is no such category
abbrev pub image_unknown : List ℕ → ℕ → List Token
image_unknown bytes i = if nat_lt i (header_of bytes).categories then tokens_in (section bytes 7) (section bytes 8) (section bytes 4) i else []

-- the tables of an image
abbrev pub image_tables : List ℕ → Tables
image_tables bytes = record {
  kind = kind_of (header_of bytes);
  sizes = (header_of bytes).sizes;
  connection = image_cost bytes;
  categories = map (λ (c : NamedCategory). c.category) (image_categories bytes);
  info = image_info bytes;
  unknown = image_unknown bytes;
  lexicon = image_lexicon bytes;
}

-- the entries with surface `key`, in lexicon order
abbrev pub entries_under : List ℕ → List Lexeme → List Token
entries_under key lexicon = map (λ (e : Lexeme). e.token) (filter (λ (e : Lexeme). bytes_eq e.surface key) lexicon)
