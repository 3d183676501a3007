-- The contents of the sections of a lexicon.
use Rattle.std.specs.Prelude.{◌≡◌, ℕ, ◌+◌, ◌*◌, ◌<◌, ◌≤◌, List, [], ◌∷◌, ◌++◌, length, map, bytes_eq, false, slice_get, slice_range, Some}
use Rattle.std.specs.List.{concat, list_any}
use Rattle.image_format.specs.declared.layout.KeyForm.TheVariants.{Cells}
use Rattle.image_format.specs.ImageBounds.{each_once, feature_bytes, feature_bytes_end}
use Rattle.image_format.specs.ImageFaults.{HasKey}
use Rattle.image_format.specs.ImageMeaning.{LexiconSections, lexicon_in}
use Rattle.image_format.specs.ImageSections.{HoldGroups, HasFeature, IsIndex, stored_cells, stored_token, token_from}
use Rattle.mj_model.specs.Lexicon.{Row}
use Rattle.mj_model.specs.UnkDef.{token_of}
use Rattle.image_writer.specs.declared.feature_place.FeaturePlace.{FeaturePlace}
use Rattle.image_writer.specs.declared.features.FeatureStore.{FeatureStore}
use Rattle.image_writer.specs.declared.keys.KeyBytes.{KeyBytes}
use Rattle.image_writer.specs.declared.lexicon_bytes.LexiconBytes.{LexiconBytes}
use Rattle.image_writer.specs.declared.token_bytes.TokenBytes.{TokenBytes}
use Rattle.image_writer.specs.declared.tokens.TokenWriter.{TokenWriter}
use Rattle.image_writer.specs.Groups.{AreUnderKeys}
use Rattle.image_writer.specs.FirstUses.{AreFirstUses}
use Rattle.image_writer.specs.Places.{joined_texts}
use Rattle.image_writer.specs.Entries.{all_rows, lexemes_of, tokens_of}
use Rattle.image_writer.specs.Compact.{AreCellsFor}

abbrev pub sections_of : LexiconBytes → LexiconSections
sections_of bytes = record { form = Cells; keys = bytes.keys.items; groups = bytes.groups.items; tokens = bytes.tokens.items; features = joined_texts bytes.features.items }

-- the double array holds each group once, and each group has a key
pub record HoldKeys (groups : ℕ) (cells : List ℕ) : Type 0 where
  pub once : HoldGroups groups cells
  pub keys : (group : ℕ) → group < groups → HasKey (stored_cells cells) group

-- the double array of the keys and the group index, for these entries
pub record AreKeyBytes (rows : List Row) (keys : KeyBytes) : Type 0 where
  pub hold_keys : HoldKeys keys.groups keys.cells.items
  pub cells : AreCellsFor (lexemes_of rows) keys.cells.items
  pub is_index : IsIndex keys.groups 0 (length rows) keys.index.items
  pub few : keys.groups ≤ length rows
  pub entries : AreUnderKeys rows keys.groups keys.cells.items keys.index.items

-- token `i` is the entry of this row, and is well formed
pub record IsTokenOf (row : Row) (tokens features : List ℕ) (i : ℕ) : Type 0 where
  pub token : token_from tokens features i ≡ token_of (i, row)
  pub spare : (stored_token tokens i).spare ≡ 0
  pub feature : HasFeature features (stored_token tokens i)

-- a token for each row, in their order
pub record HoldTokens (rows : List Row) (tokens features : List ℕ) : Type 0 where
  pub fill : length tokens ≡ 16 * length rows
  pub each : (i : ℕ) (row : Row) → slice_get rows i ≡ Some row → IsTokenOf row tokens features i

-- the features of rows, in their order
abbrev pub features_of : List Row → List (List ℕ)
features_of rows = map (λ (row : Row). row.feature) rows

-- the sections are well formed, and mean these lexicon entries and these unknown entries of each
-- category
pub record AreSections (lexicon : List Row) (unknown : List (List Row)) (s : LexiconBytes) : Type 0 where
  pub keys : HoldKeys s.group_count s.keys.items
  pub cells : AreCellsFor (lexemes_of lexicon) s.keys.items
  pub groups : IsIndex s.group_count 0 (length lexicon) s.groups.items
  pub few_groups : s.group_count ≤ length lexicon
  pub tokens : HoldTokens (all_rows lexicon unknown) s.tokens.items (joined_texts s.features.items)
  pub means : lexicon_in s.group_count (sections_of s) ≡ lexemes_of lexicon
  pub features : joined_texts s.features.items ≡ concat (each_once (features_of (all_rows lexicon unknown)))
  pub few_features : feature_bytes (tokens_of (all_rows lexicon unknown)) < feature_bytes_end

-- the features of these rows exceed the limit of an image
abbrev pub IsTooLarge : List Row → Type 0
IsTooLarge rows = feature_bytes_end ≤ feature_bytes (tokens_of rows)

-- ---- while tokens are written

-- a text is stored at offset `place`
pub record HasTextAt (bytes text : List ℕ) (place : ℕ) : Type 0 where
  pub within : place + length text ≤ length bytes
  pub is : slice_range bytes place (place + length text) ≡ text

-- the concatenated features of a store
abbrev pub features_in : FeatureStore → List ℕ
features_in store = joined_texts store.texts.items

-- a text is stored at `place`, which has its length
pub record HasPlace (bytes text : List ℕ) (place : FeaturePlace) : Type 0 where
  pub is_stored : HasTextAt bytes text place.start
  pub long : place.length ≡ length text

-- the position of a text that is appended to these bytes
abbrev pub place_after : List ℕ → List ℕ → FeaturePlace
place_after bytes text = record { start = length bytes; length = length text }

-- the store has each distinct text once, in the order of first uses, and the position of each text
pub record HoldsTexts (texts : List (List ℕ)) (store : FeatureStore) : Type 0 where
  pub bytes : features_in store ≡ concat (each_once texts)
  pub long : length store.places.items ≡ length texts
  pub places : (i : ℕ) (text : List ℕ) (place : FeaturePlace) → slice_get texts i ≡ Some text → slice_get store.places.items i ≡ Some place → HasPlace (features_in store) text place

-- `first` is the number of the first text that equals `text`, or is not below their number if there
-- is none
pub record IsNextUse (texts : List (List ℕ)) (text : List ℕ) (first : ℕ) : Type 0 where
  pub there : first < length texts → slice_get texts first ≡ Some text
  pub new : length texts ≤ first → list_any (bytes_eq text) texts ≡ false

-- `IsFact` holds for all texts that the store may have, if the next text is `text`
abbrev pub OnNextUse : FeatureStore → List ℕ → ℕ → (List (List ℕ) → Type 0) → Type 0
OnNextUse store text first IsFact = (texts : List (List ℕ)) → HoldsTexts texts store → IsNextUse texts text first → IsFact texts

-- the store after one more text, which is stored at `place`; earlier bytes are unchanged
pub record IsPlaced (texts : List (List ℕ)) (text : List ℕ) (old new : FeatureStore) (place : FeaturePlace) : Type 0 where
  pub bytes : features_in new ≡ concat (each_once (texts ++ text ∷ []))
  pub is_stored : HasPlace (features_in new) text place
  pub same_places : new.places.items ≡ old.places.items
  pub more : List ℕ
  pub kept : features_in new ≡ features_in old ++ more

-- the store after one more text, with its position; earlier bytes are unchanged
pub record HoldsOneMore (texts : List (List ℕ)) (text : List ℕ) (old new : FeatureStore) (place : FeaturePlace) : Type 0 where
  pub holds : HoldsTexts (texts ++ text ∷ []) new
  pub is_stored : HasPlace (features_in new) text place
  pub more : List ℕ
  pub kept : features_in new ≡ features_in old ++ more

-- the tokens of `rows`, which are the first of `all`, are written
pub record AreWritten (all rows : List Row) (writer : TokenWriter) : Type 0 where
  pub tokens : HoldTokens rows writer.tokens.items (features_in writer.features)
  pub features : HoldsTexts (features_of rows) writer.features
  pub firsts : AreFirstUses (features_of all) writer.firsts.items

-- the tokens and features of these rows, as an image stores them
pub record AreTokenBytes (rows : List Row) (bytes : TokenBytes) : Type 0 where
  pub tokens : HoldTokens rows bytes.tokens.items (joined_texts bytes.features.items)
  pub features : joined_texts bytes.features.items ≡ concat (each_once (features_of rows))
  pub few : feature_bytes (tokens_of rows) < feature_bytes_end
