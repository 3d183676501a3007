-- Output formats (MeCab, format.html): how their texts are parsed.
use Rattle.std.specs.Prelude.{◌≡◌, ℕ, ◌<◌, ◌≤◌, ◌&&◌, ◌==◌, Bool, true, false, if◌then◌else◌, List, [], ◌∷◌, ◌++◌, length, take, drop, find, Option, Some, option_map, Result, Ok, Err, ◌⊎◌, codes, Contains}
use Rattle.std.specs.Option.{option_map_or}
use Rattle.std.specs.Str.{all_ascii_digits}
use Rattle.mj_model.specs.declared.format_item.FormatItem.{FormatItem}
use Rattle.mj_model.specs.declared.format_item.FormatItem.TheVariants as item
use Rattle.mj_model.specs.declared.format_fault.FormatPart.{FormatPart}
use Rattle.mj_model.specs.declared.format_fault.FormatPart.TheVariants.{Node, Unk, Bos, Eos}
use Rattle.mj_model.specs.declared.format_fault.FormatKind.{FormatKind}
use Rattle.mj_model.specs.declared.format_fault.FormatKind.TheVariants.{BadEscape, BadItem, BadIndex}
use Rattle.mj_model.specs.declared.format_fault.FormatFault.{FormatFault}
use Rattle.mj_model.specs.declared.format_fault.FormatFault.TheVariants as fault
use Rattle.mj_model.specs.Numbers.{digits_value}
use Rattle.out_format.specs.declared.items.AllowedIn.{AllowedIn}
use Rattle.out_format.specs.declared.items.AllowedIn.TheVariants.{Words, WordsAndEnd}
use Rattle.out_format.specs.declared.items.TheConstants.{ITEMS}

-- a piece of a format: a byte that is printed unchanged, or an item
pub data Piece : Type 0 where
  Byte : ℕ → Piece
  ItemPiece : FormatItem → Piece

abbrev pub percent : ℕ
percent = 37

abbrev pub backslash : ℕ
backslash = 92

-- the escapes: the character after the backslash, and its byte
abbrev pub escapes : List (ℕ × ℕ)
escapes =
    (48, 0x00) ∷ (97, 0x07) ∷ (98, 0x08) ∷ (116, 0x09) ∷ (110, 0x0a) ∷ (118, 0x0b) ∷ (102, 0x0c) ∷ (114, 0x0d) ∷ (115, 0x20) ∷ (92, 0x5c) ∷ []

-- the byte of the escape with this character
abbrev pub byte_of_escape : ℕ → Option ℕ
byte_of_escape c = option_map (λ (escape : ℕ × ℕ). escape.1) (find (λ (escape : ℕ × ℕ). escape.0 == c) escapes)

-- one to five digits of this value, at most 65,535
pub record IsIndex (digits : List ℕ) (n : ℕ) : Type 0 where
  pub some : 1 ≤ length digits
  pub few : length digits ≤ 5
  pub are_digits : all_ascii_digits digits ≡ true
  pub value : digits_value digits ≡ n
  pub low : n ≤ 65535

-- the part may use the item
abbrev pub includes : AllowedIn → FormatPart → Bool
includes Words Bos = false
includes Words Eos = false
includes WordsAndEnd Bos = false
includes texts part = true

-- a row of the table of items: letters, the item that they spell, and the parts that may use it
abbrev pub Row : Type 0
Row = record { now : List ℕ } × FormatItem × AllowedIn

-- an item of the table is spelled as a percent sign and its letters, in the parts that may use it
pub record IsListed (part : FormatPart) (i : FormatItem) (text : List ℕ) : Type 0 where
  pub letters : List ℕ
  pub texts : AllowedIn
  pub row : Contains ITEMS (record { now = letters }, i, texts)
  pub may : includes texts part ≡ true
  pub is : text ≡ percent ∷ letters

-- a field is spelled as `%f` and its index between brackets, in the parts for words
pub record IsField (part : FormatPart) (i : FormatItem) (text : List ℕ) : Type 0 where
  pub n : ℕ
  pub digits : List ℕ
  pub is_field : i ≡ item.Field n
  pub is_index : IsIndex digits n
  pub may : includes Words part ≡ true
  pub is : text ≡ codes "%f[" ++ (digits ++ codes "]")

-- the text spells an item that the part may use
abbrev pub SpellsItem : FormatPart → FormatItem → List ℕ → Type 0
SpellsItem part i text = IsListed part i text ⊎ IsField part i text

-- the text spells the byte: itself, if it is neither a percent sign nor a backslash, or its escape
abbrev pub SpellsByte : ℕ → List ℕ → Type 0
SpellsByte b text =
    ((text ≡ b ∷ []) × (b ≡ percent → ⊥) × (b ≡ backslash → ⊥))
    ⊎ ((c : ℕ) × (byte_of_escape c ≡ Some b) × (text ≡ backslash ∷ c ∷ []))

-- the text spells the piece in this part
abbrev pub Spells : FormatPart → Piece → List ℕ → Type 0
Spells part (Byte b) text = SpellsByte b text
Spells part (ItemPiece i) text = SpellsItem part i text

-- the text of a part starts with this piece, and `rest` follows
pub record StartsWithPiece (part : FormatPart) (piece : Piece) (text rest : List ℕ) : Type 0 where
  pub front : List ℕ
  pub spelled : Spells part piece front
  pub is : text ≡ front ++ rest

-- the text of a part parses as these pieces
abbrev pub Reads : FormatPart → List Piece → List ℕ → Type 0
Reads part [] text = text ≡ []
Reads part (piece ∷ pieces) text = (rest : List ℕ) × StartsWithPiece part piece text rest × Reads part pieces rest

-- the reason why no item follows a percent sign: an invalid index after `%f`, otherwise an invalid
-- item
abbrev pub bad_item : FormatPart → List ℕ → FormatKind
bad_item part [] = BadItem
bad_item part (c ∷ cs) = if includes Words part && c == 102 then BadIndex else BadItem

-- the reason why no piece starts here: an invalid escape at a backslash, otherwise an invalid index
-- or item
abbrev pub bad_kind : FormatPart → List ℕ → FormatKind
bad_kind part [] = BadItem
bad_kind part (c ∷ cs) = if c == backslash then BadEscape else bad_item part cs

-- the offset of the first byte of a part's text at which no piece starts, and the reason
pub record IsBadAt (part : FormatPart) (text : List ℕ) (at : ℕ) (kind : FormatKind) : Type 0 where
  pub pieces : List Piece
  pub before : Reads part pieces (take at text)
  pub within : at < length text
  pub stuck : (piece : Piece) (rest : List ℕ) → StartsWithPiece part piece (drop at text) rest → ⊥
  pub is_kind : kind ≡ bad_kind part (drop at text)

-- the texts of the four parts; without one for unknown words, the one for known words is used
pub record FormatTexts : Type 0 where
  pub node : List ℕ
  pub unk : Option (List ℕ)
  pub bos : List ℕ
  pub eos : List ℕ

-- a parsed format: the pieces of the four parts
pub record Format : Type 0 where
  pub node : List Piece
  pub unk : List Piece
  pub bos : List Piece
  pub eos : List Piece

-- the text of a part
abbrev pub part_text : FormatTexts → FormatPart → List ℕ
part_text texts Node = texts.node
part_text texts Unk = option_map_or (λ text. text) texts.unk texts.node
part_text texts Bos = texts.bos
part_text texts Eos = texts.eos

-- the text of the part is valid
abbrev pub IsGood : FormatTexts → FormatPart → Type 0
IsGood texts part = (pieces : List Piece) × Reads part pieces (part_text texts part)

-- the parts that are parsed before this part are valid
abbrev pub AreGoodBefore : FormatTexts → FormatPart → Type 0
AreGoodBefore texts Node = Unit {0}
AreGoodBefore texts Unk = IsGood texts Node
AreGoodBefore texts Bos = IsGood texts Node × IsGood texts Unk
AreGoodBefore texts Eos = IsGood texts Node × IsGood texts Unk × IsGood texts Bos

-- each text parses as the pieces of its part
pub record ReadsFormat (texts : FormatTexts) (f : Format) : Type 0 where
  pub node : Reads Node f.node (part_text texts Node)
  pub unk : Reads Unk f.unk (part_text texts Unk)
  pub bos : Reads Bos f.bos (part_text texts Bos)
  pub eos : Reads Eos f.eos (part_text texts Eos)

-- the texts parse as a format, or this is their first error
abbrev pub IsFormat : FormatTexts → Result Format FormatFault → Type 0
IsFormat texts (Ok f) = ReadsFormat texts f
IsFormat texts (Err (fault.Bad part at kind)) = AreGoodBefore texts part × IsBadAt part (part_text texts part) at kind
IsFormat texts (Err fault.Memory) = ⊥

-- the texts are rejected: an allocation failed, or this is their first error
abbrev pub IsFormatError : FormatTexts → FormatFault → Type 0
IsFormatError texts error = (error ≡ fault.Memory) ⊎ IsFormat texts (Err error)

-- each four texts parse in exactly one way
abbrev pub HasOneFormat : Type 0
HasOneFormat = (texts : FormatTexts) → (read : Result Format FormatFault) × IsFormat texts read
    × ((other : Result Format FormatFault) → IsFormat texts other → other ≡ read)
