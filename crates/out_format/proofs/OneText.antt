-- A path prints exactly one text in a format: each item prints one text of a word, and the texts of
-- pieces and words are concatenated.
use Rattle.std.proofs.Common.{◌≡◌, ℕ, ℤ, pos, List, [], ◌∷◌, ◌++◌, refl, sym, ap, ◌∙◌}
use Rattle.std.specs.Prelude.{slice_get}
use Rattle.mj_model.specs.declared.format_item.FormatItem.{FormatItem}
use Rattle.mj_model.specs.declared.format_item.FormatItem.TheVariants as item
use Rattle.mj_model.specs.declared.word.Word.{Word}
use Rattle.mj_model.specs.Fields.{AreFields, without_leading_blanks}
use Rattle.mj_model.specs.Printed.{feature_of}
use Rattle.mj_model.specs.Tables.{Overlay}
use Rattle.mj_model.proofs.FieldLemmas.{a_field}
use Rattle.mj_model.proofs.ReadingLemmas.{fields_are_one}
use Rattle.lex_source.proofs.FieldsLemmas.{fields_from}
use Rattle.mj_model.specs.BestOver.{cost_over}
use Rattle.out_format.specs.Formats.{Format, Piece, Byte, ItemPiece}
use Rattle.out_format.specs.PrintedPaths.{WordContext, PrintsItem, PrintsPieces, PrintsWords, PrintsPath, HasOneText, cost_with_word, printed_field, line_item, word_pieces}

one_item : (o : Overlay) (line : List ℕ) (s : WordContext) (i : FormatItem) (shown other : List ℕ) → PrintsItem o line s i shown → PrintsItem o line s i other → other ≡ shown
one_item o line s item.Surface shown other h k = k ∙ sym h
one_item o line s item.SurfaceWithBlanks shown other h k = k ∙ sym h
one_item o line s item.Blanks shown other h k = k ∙ sym h
one_item o line s item.Feature shown other h k = k ∙ sym h
one_item o line s (item.Field n) shown other h k =
    k.2 ∙ ap (λ (fields : List (List ℕ)). printed_field (slice_get fields n)) (fields_are_one (feature_of o s.word.origin) h.0 k.0 h.1 k.1) ∙ sym h.2
one_item o line s item.WordCost shown other h k = k ∙ sym h
one_item o line s item.IsUnknown shown other h k = k ∙ sym h
one_item o line s item.Sentence shown other h k = k ∙ sym h
one_item o line s item.SentenceLength shown other h k = k ∙ sym h
one_item o line s item.LeftId shown other h k = k ∙ sym h
one_item o line s item.RightId shown other h k = k ∙ sym h
one_item o line s item.ConnectionCost shown other h k = k ∙ sym h
one_item o line s item.CostHere shown other h k = k ∙ sym h
one_item o line s item.CostSoFar shown other h k = k ∙ sym h
one_item o line s item.SurfaceLength shown other h k = k ∙ sym h
one_item o line s item.LengthWithBlanks shown other h k = k ∙ sym h
one_item o line s item.Start shown other h k = k ∙ sym h
one_item o line s item.End shown other h k = k ∙ sym h
one_item o line s item.CharacterCategory shown other h k = k ∙ sym h
one_item o line s item.Percent shown other h k = k ∙ sym h

joined : (front more other rest shown reported : List ℕ) → other ≡ front → rest ≡ more → shown ≡ front ++ more → reported ≡ other ++ rest → reported ≡ shown
joined front more other rest shown reported e f h k = k ∙ (λ i. e i ++ f i) ∙ sym h

module _ (PrintsOne : FormatItem → List ℕ → Type 0) (one : (i : FormatItem) (shown other : List ℕ) → PrintsOne i shown → PrintsOne i other → other ≡ shown) where
  one_of_pieces : (pieces : List Piece) (shown other : List ℕ) → PrintsPieces PrintsOne pieces shown → PrintsPieces PrintsOne pieces other → other ≡ shown
  one_of_pieces [] shown other h k = k ∙ sym h
  one_of_pieces (Byte b ∷ pieces) shown other h k = k.2 ∙ ap (λ (more : List ℕ). b ∷ more) (one_of_pieces pieces h.0 k.0 h.1 k.1) ∙ sym h.2
  one_of_pieces (ItemPiece i ∷ pieces) shown other h k =
      joined h.0 h.1 k.0 k.1 shown other (one i h.0 k.0 h.2 k.2) (one_of_pieces pieces h.1 k.1 h.3 k.3) h.4 k.4

one_of_words : (o : Overlay) (f : Format) (line : List ℕ) (right : ℕ) (cost : ℤ) (words : List Word) (shown other : List ℕ) → PrintsWords o f line right cost words shown → PrintsWords o f line right cost words other → other ≡ shown
one_of_words o f line right cost [] shown other h k = k ∙ sym h
one_of_words o f line right cost (w ∷ words) shown other h k =
    let so_far = cost_with_word o right cost w in
    let s : WordContext = record { word = w; right_before = right; cost_so_far = so_far } in
    joined h.0 h.1 k.0 k.1 shown other (one_of_pieces (PrintsItem o line s) (one_item o line s) (word_pieces f w.origin) h.0 k.0 h.2 k.2)
    (one_of_words o f line w.right so_far words h.1 k.1 h.3 k.3) h.4 k.4

of_line : (line : List ℕ) (cost : ℤ) (pieces : List Piece) (shown other : List ℕ) → PrintsPieces (λ i text. text ≡ line_item line cost i) pieces shown
    → PrintsPieces (λ i text. text ≡ line_item line cost i) pieces other → other ≡ shown
of_line line cost = one_of_pieces (λ i text. text ≡ line_item line cost i) (λ i shown other h k. k ∙ sym h)

texts_are_one : (o : Overlay) (f : Format) (line : List ℕ) (path : List Word) (shown other : List ℕ) → PrintsPath o f line path shown → PrintsPath o f line path other → other ≡ shown
texts_are_one o f line path shown other h k =
    joined h.bos (h.words ++ h.eos) k.bos (k.words ++ k.eos) shown other (of_line line (pos 0) f.bos h.bos k.bos h.before k.before)
    (joined h.words h.eos k.words k.eos (h.words ++ h.eos) (k.words ++ k.eos) (one_of_words o f line 0 (pos 0) path h.words k.words h.of_words k.of_words)
    (of_line line (cost_over o path) f.eos h.eos k.eos h.following k.following) refl refl)
    h.is k.is

-- ---- each path shows a text

some_fields : (text : List ℕ) → (fields : List (List ℕ)) × AreFields text fields
some_fields text =
    let first = a_field (without_leading_blanks text) in
    let more = fields_from text first.0 first.1 first.2 in
    (first.0 ∷ more.0, more.1)

an_item : (o : Overlay) (line : List ℕ) (s : WordContext) (i : FormatItem) → (shown : List ℕ) × PrintsItem o line s i shown
an_item o line s item.Surface = (_, refl)
an_item o line s item.SurfaceWithBlanks = (_, refl)
an_item o line s item.Blanks = (_, refl)
an_item o line s item.Feature = (_, refl)
an_item o line s (item.Field n) = let fields = some_fields (feature_of o s.word.origin) in (printed_field (slice_get fields.0 n), (fields.0, fields.1, refl))
an_item o line s item.WordCost = (_, refl)
an_item o line s item.IsUnknown = (_, refl)
an_item o line s item.Sentence = (_, refl)
an_item o line s item.SentenceLength = (_, refl)
an_item o line s item.LeftId = (_, refl)
an_item o line s item.RightId = (_, refl)
an_item o line s item.ConnectionCost = (_, refl)
an_item o line s item.CostHere = (_, refl)
an_item o line s item.CostSoFar = (_, refl)
an_item o line s item.SurfaceLength = (_, refl)
an_item o line s item.LengthWithBlanks = (_, refl)
an_item o line s item.Start = (_, refl)
an_item o line s item.End = (_, refl)
an_item o line s item.CharacterCategory = (_, refl)
an_item o line s item.Percent = (_, refl)

module _ (PrintsOne : FormatItem → List ℕ → Type 0) (some : (i : FormatItem) → (shown : List ℕ) × PrintsOne i shown) where
  some_of_pieces : (pieces : List Piece) → (shown : List ℕ) × PrintsPieces PrintsOne pieces shown
  some_of_pieces [] = ([], refl)
  some_of_pieces (Byte b ∷ pieces) = let more = some_of_pieces pieces in (b ∷ more.0, (more.0, more.1, refl))
  some_of_pieces (ItemPiece i ∷ pieces) =
      let front = some i in
      let more = some_of_pieces pieces in
      (front.0 ++ more.0, (front.0, more.0, front.1, more.1, refl))

some_of_words : (o : Overlay) (f : Format) (line : List ℕ) (right : ℕ) (cost : ℤ) (words : List Word) → (shown : List ℕ) × PrintsWords o f line right cost words shown
some_of_words o f line right cost [] = ([], refl)
some_of_words o f line right cost (w ∷ words) =
    let so_far = cost_with_word o right cost w in
    let s : WordContext = record { word = w; right_before = right; cost_so_far = so_far } in
    let front = some_of_pieces (PrintsItem o line s) (an_item o line s) (word_pieces f w.origin) in
    let more = some_of_words o f line w.right so_far words in
    (front.0 ++ more.0, (front.0, more.0, front.1, more.1, refl))

some_of_line : (line : List ℕ) (cost : ℤ) (pieces : List Piece) → (shown : List ℕ) × PrintsPieces (λ i text. text ≡ line_item line cost i) pieces shown
some_of_line line cost = some_of_pieces (λ i text. text ≡ line_item line cost i) (λ i. (line_item line cost i, refl))

pub one_text : HasOneText
one_text o f line path =
    let bos = some_of_line line (pos 0) f.bos in
    let words = some_of_words o f line 0 (pos 0) path in
    let eos = some_of_line line (cost_over o path) f.eos in
    let shown = bos.0 ++ (words.0 ++ eos.0) in
    let shows : PrintsPath o f line path shown =
    record { bos = bos.0; words = words.0; eos = eos.0; before = bos.1; of_words = words.1; following = eos.1; is = refl } in
    (shown, shows, λ other k. texts_are_one o f line path shown other shows k)
