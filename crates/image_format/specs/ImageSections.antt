-- The meaning of the sections of an image, each from its own bytes.
use Rattle.std.specs.Prelude.{◌≡◌, ℕ, zero, suc, ◌+◌, ◌-◌, ◌*◌, ◌/◌, ◌%◌, ◌^◌, ◌<◌, ◌≤◌, ◌==◌, ℤ, pos, negsuc, Bool, false, if◌then◌else◌, nat_le, List, [], ◌∷◌, ◌++◌, length, map, flat_map, drop, find, reverse, All, slice_range, IsUtf8, Option, Some, None}
use Rattle.std.specs.List.{range_with_len, position_or_len}
use Rattle.std.specs.Option.{option_map_or}
use Rattle.mj_model.specs.declared.category.CharInfo.{CharInfo}
use Rattle.mj_model.specs.declared.limits.TheConstants.{SURFACE_MAX}
use Rattle.mj_model.specs.CellMap.{Cell, base, check, value_of}
use Rattle.mj_model.specs.CellRules.{MeetsRules}
use Rattle.mj_model.specs.CharDef.{IsInfoOf, IsStorable, NamedCategory, code_point_max}
use Rattle.mj_model.specs.declared.matrix_sizes.MatrixSizes.{MatrixSizes}
use Rattle.image_format.specs.ImageBytes.{number_at, signed_2_at, signed_4_at}
use Rattle.mj_model.specs.Tables.{Token}

-- ---- section 1: connection costs

-- the connection cost of a right id and a left id
abbrev pub stored_cost : MatrixSizes → List ℕ → ℕ → ℕ → ℤ
stored_cost sizes costs right left = signed_2_at costs (2 * (right * sizes.left + left))

-- the section has 2 bytes for each pair of ids
abbrev pub AreCosts : MatrixSizes → List ℕ → Type 0
AreCosts sizes costs = length costs ≡ 2 * (sizes.right * sizes.left)

-- ---- section 2: categories

abbrev pub flag_byte : Bool → ℕ
flag_byte set = if set then 1 else 0

-- the bytes of a category: INVOKE, GROUP, LENGTH, the length of its name, and its name
abbrev pub category_bytes : NamedCategory → List ℕ
category_bytes c =
    flag_byte c.category.invoke ∷ flag_byte c.category.group ∷ c.category.length ∷ length c.name ∷ c.name

-- the category at the start of the bytes
abbrev pub first_category : List ℕ → NamedCategory
first_category bytes = record {
  name = slice_range bytes 4 (4 + number_at 1 bytes 3);
  category = record { invoke = number_at 1 bytes 0 == 1; group = number_at 1 bytes 1 == 1; length = number_at 1 bytes 2 };
}

-- the first `n` categories of the bytes
abbrev pub categories_in : ℕ → List ℕ → List NamedCategory
categories_in zero bytes = []
categories_in (suc n) bytes = first_category bytes ∷ categories_in n (drop (4 + number_at 1 bytes 3) bytes)

-- the section consists of exactly `count` categories
pub record AreCategories (count : ℕ) (categories : List ℕ) : Type 0 where
  pub storable : All IsStorable (categories_in count categories)
  pub fill : categories ≡ flat_map category_bytes (categories_in count categories)

-- ---- section 3 of layout 3: the categories of code points

-- the categories of the code points from `first` to before the next range
pub record StoredRange : Type 0 where
  pub first : ℕ
  pub info : CharInfo

-- an entry: bits 0 to 17 are the set of categories, the higher bits the number of the first
-- category
abbrev pub info_of_entry : ℕ → CharInfo
info_of_entry entry = record { bits = entry % 2 ^ 18; head = entry / 2 ^ 18 }

abbrev pub range_at : List ℕ → ℕ → StoredRange
range_at ranges i = record { first = number_at 4 ranges (8 * i); info = info_of_entry (number_at 4 ranges (8 * i + 4)) }

-- the number of ranges
abbrev pub range_count : List ℕ → ℕ
range_count ranges = length ranges / 8

abbrev pub stored_ranges : List ℕ → List StoredRange
stored_ranges ranges = map (range_at ranges) (range_with_len 0 (range_count ranges))

abbrev pub no_info : CharInfo
no_info = record { bits = 0; head = 0 }

-- the categories of a code point: those of the last range that starts at or before it
abbrev pub stored_info : List ℕ → ℕ → CharInfo
stored_info ranges code =
    option_map_or (λ (range : StoredRange). range.info) (find (λ range. nat_le range.first code) (reverse (stored_ranges ranges))) no_info

-- the first code points of the ranges increase
abbrev pub FirstsRise : List ℕ → Type 0
FirstsRise ranges = (i : ℕ) → suc i < range_count ranges → (range_at ranges i).first < (range_at ranges (suc i)).first

-- the section consists of ranges of 8 bytes; the first starts at code point 0, and first code
-- points increase up to U+10FFFF
pub record AreRanges (categories : ℕ) (ranges : List ℕ) : Type 0 where
  pub whole : length ranges % 8 ≡ 0
  pub some : 8 ≤ length ranges
  pub from_zero : (range_at ranges 0).first ≡ 0
  pub rising : FirstsRise ranges
  pub within : (i : ℕ) → i < range_count ranges → (range_at ranges i).first ≤ code_point_max
  pub infos : (i : ℕ) → i < range_count ranges → IsInfoOf categories (range_at ranges i).info

-- ---- sections 4 and 6: the tokens of a category or group

-- number `i` of an index; list `i` has the tokens from its number `i` to before number `i + 1`
abbrev pub index_at : List ℕ → ℕ → ℕ
index_at index i = number_at 4 index (4 * i)

-- the numbers of an index increase
abbrev pub NumbersRise : ℕ → List ℕ → Type 0
NumbersRise lists index = (i : ℕ) → i < lists → index_at index i < index_at index (suc i)

-- an index of non-empty lists that divides the tokens from `low` to before `high`
pub record IsIndex (lists low high : ℕ) (index : List ℕ) : Type 0 where
  pub fills : length index ≡ 4 * (lists + 1)
  pub first : index_at index 0 ≡ low
  pub rising : NumbersRise lists index
  pub last : index_at index lists ≡ high

-- ---- section 5 of layouts 2 and 3: the cells, which map each key to its group

abbrev pub stored_cell : List ℕ → ℕ → Cell
stored_cell cells i = (signed_4_at cells (8 * i), signed_4_at cells (8 * i + 4))

abbrev pub stored_cells : List ℕ → List Cell
stored_cells cells = map (stored_cell cells) (range_with_len 0 (length cells / 8))

-- exactly one cell holds `value`
pub record OccursOnce (cells : List Cell) (value : ℕ) : Type 0 where
  pub place : ℕ
  pub holds : base cells place ≡ negsuc value
  pub only : (t : ℕ) → base cells t ≡ negsuc value → t ≡ place

-- the section consists of cells of 8 bytes that follow the rules of a double array and hold each
-- group once
pub record HoldGroups (groups : ℕ) (cells : List ℕ) : Type 0 where
  pub whole : length cells % 8 ≡ 0
  pub some : 8 ≤ length cells
  pub few : length cells / 8 ≤ 2 ^ 30
  pub rules : MeetsRules groups (stored_cells cells)
  pub once : (group : ℕ) → group < groups → OccursOnce (stored_cells cells) group

-- the surface of a group: 1 to `SURFACE_MAX` bytes of UTF-8, whose value in the double array is the
-- group
pub record IsKeyOf (cells : List Cell) (group : ℕ) (key : List ℕ) : Type 0 where
  pub some : 1 ≤ length key
  pub short : length key ≤ SURFACE_MAX
  pub is_text : IsUtf8 key
  pub value : value_of cells key ≡ Some group

-- the state that the CHECK of a cell names, if it is used
abbrev pub state_in : ℤ → Option ℕ
state_in (pos s) = Some s
state_in (negsuc k) = None

-- the byte of the step from a state with this BASE to cell `t`: their distance less 1
abbrev pub byte_after : ℤ → ℕ → ℕ
byte_after (pos b) t = t - b - 1
byte_after (negsuc v) t = 0

-- the bytes of the last `n` steps from the root to cell `t`, found by following CHECK backward
unfoldable pub bytes_to : List Cell → ℕ → ℕ → List ℕ
bytes_to cells zero t = []
bytes_to cells (suc n) t = option_map_or (λ s. bytes_to cells n s ++ byte_after (base cells s) t ∷ []) (state_in (check cells t)) []

abbrev pub is_value : ℕ → Cell → Bool
is_value group (pos b, c) = false
is_value group (negsuc v, c) = v == group

-- the cell that holds the value `group`
abbrev pub value_cell : List Cell → ℕ → ℕ
value_cell cells group = position_or_len (is_value group) cells

-- the surface of a group, if it has one
abbrev pub key_of : List Cell → ℕ → List ℕ
key_of cells group = option_map_or (bytes_to cells SURFACE_MAX) (state_in (check cells (value_cell cells group))) []

-- ---- section 7: tokens

-- the 16 bytes of a token: left id, right id, word cost, two spare bytes, and the start and length
-- of its feature in section 8
pub record StoredToken : Type 0 where
  pub left : ℕ
  pub right : ℕ
  pub cost : ℤ
  pub spare : ℕ
  pub feature_start : ℕ
  pub feature_length : ℕ

abbrev pub stored_token : List ℕ → ℕ → StoredToken
stored_token tokens i = record {
  left = number_at 2 tokens (16 * i);
  right = number_at 2 tokens (16 * i + 2);
  cost = signed_2_at tokens (16 * i + 4);
  spare = number_at 2 tokens (16 * i + 6);
  feature_start = number_at 4 tokens (16 * i + 8);
  feature_length = number_at 4 tokens (16 * i + 12);
}

-- the ids of the token are within the sizes, and its spare bytes are 0
pub record FitsSizes (sizes : MatrixSizes) (t : StoredToken) : Type 0 where
  pub left_below : t.left < sizes.left
  pub right_below : t.right < sizes.right
  pub spare_zero : t.spare ≡ 0

-- ---- section 8: features

abbrev pub feature_end : StoredToken → ℕ
feature_end t = t.feature_start + t.feature_length

abbrev pub stored_feature : List ℕ → StoredToken → List ℕ
stored_feature features t = slice_range features t.feature_start (feature_end t)

-- the token's feature lies within the section, and is UTF-8
pub record HasFeature (features : List ℕ) (t : StoredToken) : Type 0 where
  pub within : feature_end t ≤ length features
  pub is_text : IsUtf8 (stored_feature features t)

-- token `i` as an entry of the model
abbrev pub token_from : List ℕ → List ℕ → ℕ → Token
token_from tokens features i = record {
  number = i;
  left = (stored_token tokens i).left;
  right = (stored_token tokens i).right;
  cost = (stored_token tokens i).cost;
  feature = stored_feature features (stored_token tokens i);
}
