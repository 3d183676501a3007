-- The text of a path in a format (MeCab, format.html): the part before the first word, the part of
-- each word, and the part after the last word.
use Rattle.std.specs.Prelude.{◌≡◌, ℕ, ◌-◌, ◌==◌, ℤ, pos, ◌+ℤ◌, if◌then◌else◌, List, [], ◌∷◌, ◌++◌, length, Option, Some, None, slice_get, codes}
use Rattle.std.specs.Fmt.{decimal, signed_decimal}
use Rattle.mj_model.specs.declared.format_item.FormatItem.{FormatItem}
use Rattle.mj_model.specs.declared.format_item.FormatItem.TheVariants as item
use Rattle.mj_model.specs.declared.word.Word.{Word}
use Rattle.mj_model.specs.declared.word.Origin.{Origin}
use Rattle.mj_model.specs.declared.word.Origin.TheVariants.{Known, Unknown}
use Rattle.mj_model.specs.BestOver.{cost_over}
use Rattle.mj_model.specs.Blanks.{chars_from}
use Rattle.mj_model.specs.Fields.{AreFields}
use Rattle.out_format.specs.Formats.{Format, Piece, Byte, ItemPiece}
use Rattle.mj_model.specs.Laws.{between}
use Rattle.mj_model.specs.Printed.{feature_of}
use Rattle.mj_model.specs.Tables.{Overlay}

-- a word in a path: the right id of the word before it, and the cost of the path up to and
-- including it
pub record WordContext : Type 0 where
  pub word : Word
  pub right_before : ℕ
  pub cost_so_far : ℤ

-- the cost of the connection with the word before
abbrev pub connection_before : Overlay → WordContext → ℤ
connection_before o s = o.system.connection s.right_before s.word.left

-- the connection cost and the word cost
abbrev pub cost_here : Overlay → WordContext → ℤ
cost_here o s = connection_before o s +ℤ s.word.cost

-- the text of a field, or nothing if it starts with `*`
abbrev pub unless_star : List ℕ → List ℕ
unless_star [] = []
unless_star (c ∷ cs) = if c == 42 then [] else c ∷ cs

-- the text of a field, or nothing if it is missing or starts with `*`
abbrev pub printed_field : Option (List ℕ) → List ℕ
printed_field None = []
printed_field (Some field) = unless_star field

-- 0 for a known word, 1 for an unknown one
abbrev pub unknown_digit : Origin → List ℕ
unknown_digit (Known dict number) = codes "0"
unknown_digit (Unknown number) = codes "1"

-- the number of the first category of the first character
abbrev pub first_category : Overlay → List ℕ → ℕ
first_category o [] = 0
first_category o (c ∷ cs) = (o.system.info c).head

-- the text that an item prints of a line, with `cost` the cost of the path so far; an item for
-- words prints nothing
abbrev pub line_item : List ℕ → ℤ → FormatItem → List ℕ
line_item line cost item.Sentence = line
line_item line cost item.SentenceLength = decimal (length line)
line_item line cost item.CostSoFar = signed_decimal cost
line_item line cost item.Percent = codes "%"
line_item line cost i = []

-- the text that an item prints of a word of a line
abbrev pub PrintsItem : Overlay → List ℕ → WordContext → FormatItem → List ℕ → Type 0
PrintsItem o line s item.Surface shown = shown ≡ between line s.word.start s.word.end
PrintsItem o line s item.SurfaceWithBlanks shown = shown ≡ between line s.word.place s.word.end
PrintsItem o line s item.Blanks shown = shown ≡ between line s.word.place s.word.start
PrintsItem o line s item.Feature shown = shown ≡ feature_of o s.word.origin
PrintsItem o line s (item.Field n) shown = (fields : List (List ℕ)) × AreFields (feature_of o s.word.origin) fields × (shown ≡ printed_field (slice_get fields n))
PrintsItem o line s item.WordCost shown = shown ≡ signed_decimal s.word.cost
PrintsItem o line s item.IsUnknown shown = shown ≡ unknown_digit s.word.origin
PrintsItem o line s item.LeftId shown = shown ≡ decimal s.word.left
PrintsItem o line s item.RightId shown = shown ≡ decimal s.word.right
PrintsItem o line s item.ConnectionCost shown = shown ≡ signed_decimal (connection_before o s)
PrintsItem o line s item.CostHere shown = shown ≡ signed_decimal (cost_here o s)
PrintsItem o line s item.SurfaceLength shown = shown ≡ decimal (s.word.end - s.word.start)
PrintsItem o line s item.LengthWithBlanks shown = shown ≡ decimal (s.word.end - s.word.place)
PrintsItem o line s item.Start shown = shown ≡ decimal s.word.start
PrintsItem o line s item.End shown = shown ≡ decimal s.word.end
PrintsItem o line s item.CharacterCategory shown = shown ≡ decimal (first_category o (chars_from line s.word.start))
PrintsItem o line s i shown = shown ≡ line_item line s.cost_so_far i

-- the text of pieces; `PrintsOne` is the text of one item
abbrev pub PrintsPieces : (FormatItem → List ℕ → Type 0) → List Piece → List ℕ → Type 0
PrintsPieces PrintsOne [] shown = shown ≡ []
PrintsPieces PrintsOne (Byte b ∷ pieces) shown = (more : List ℕ) × PrintsPieces PrintsOne pieces more × (shown ≡ b ∷ more)
PrintsPieces PrintsOne (ItemPiece i ∷ pieces) shown =
    (front : List ℕ) × (more : List ℕ) × PrintsOne i front × PrintsPieces PrintsOne pieces more × (shown ≡ front ++ more)

-- the part for known or for unknown words
abbrev pub word_pieces : Format → Origin → List Piece
word_pieces f (Known dict number) = f.node
word_pieces f (Unknown number) = f.unk

-- the cost of a path of cost `cost` and last right id `right`, extended by a word
abbrev pub cost_with_word : Overlay → ℕ → ℤ → Word → ℤ
cost_with_word o right cost w = (cost +ℤ o.system.connection right w.left) +ℤ w.cost

-- the text of consecutive words; the word before them has right id `right`, and the path up to it
-- costs `cost`
abbrev pub PrintsWords : Overlay → Format → List ℕ → ℕ → ℤ → List Word → List ℕ → Type 0
PrintsWords o f line right cost [] shown = shown ≡ []
PrintsWords o f line right cost (w ∷ ws) shown =
    let so_far = cost_with_word o right cost w in
    (front : List ℕ) × (more : List ℕ) × PrintsPieces (PrintsItem o line (record { word = w; right_before = right; cost_so_far = so_far })) (word_pieces f w.origin) front
    × PrintsWords o f line w.right so_far ws more × (shown ≡ front ++ more)

-- the text of a path of a line
pub record PrintsPath (o : Overlay) (f : Format) (line : List ℕ) (path : List Word) (shown : List ℕ) : Type 0 where
  pub bos : List ℕ
  pub words : List ℕ
  pub eos : List ℕ
  pub before : PrintsPieces (λ i text. text ≡ line_item line (pos 0) i) f.bos bos
  pub of_words : PrintsWords o f line 0 (pos 0) path words
  pub following : PrintsPieces (λ i text. text ≡ line_item line (cost_over o path) i) f.eos eos
  pub is : shown ≡ bos ++ (words ++ eos)

-- each path of a line prints exactly one text in a format
abbrev pub HasOneText : Type 0
HasOneText = (o : Overlay) (f : Format) (line : List ℕ) (path : List Word) → (shown : List ℕ) × PrintsPath o f line path shown
    × ((other : List ℕ) → PrintsPath o f line path other → other ≡ shown)
