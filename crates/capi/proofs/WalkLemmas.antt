-- Words of a path, each with the cost of the path up to it: a walk from one to the next.
use Rattle.std.proofs.Common.{◌≡◌, ℕ, suc, ◌+◌, ◌<◌, List, [], ◌∷◌, length, drop, get_or, refl, sym, ap, ◌∙◌, subst, arith}
use Rattle.std.specs.Prelude.{ℤ, min, Option, Some, None}
use Rattle.std.specs.Option.{IsSomeAnd}
use Rattle.std.proofs.lemmas.List.{drop-drop, drop_min, drop_more, get_or-drop}
use Rattle.line_segmenter.specs.Segmenters.{SegmentedLine, SegmenterState, IsSegmentedOver, OfLastLine, overlay_of_state}
use Rattle.line_segmenter.specs.PathEnds.{AreLast, CanFollow, MayFollow, at_bos, path_end_after}
use Rattle.line_segmenter.specs.declared.last_words.LastWords.{LastWords}
use Rattle.line_segmenter.specs.declared.path_end.PathEnd.{PathEnd}
use Rattle.capi.specs.Outputs.{with_front}
use Rattle.capi.specs.Words.{AreWordsWritten, c_word, c_word_in, c_words}
use Rattle.capi.specs.declared.words.CWord.{CWord}
use Rattle.mj_model.specs.declared.word.Word.{Word}
use Rattle.mj_model.specs.Printed.{feature_of}
use Rattle.mj_model.specs.Tables.{Overlay}
use Rattle.out_format.specs.Followable.{IsLow}
use Rattle.out_format.specs.PrintedPaths.{first_category}
use Rattle.out_format.specs.WordContexts.{IsWordOf}
use Rattle.mj_model.specs.Blanks.{chars_from}
use Rattle.word_lookup.specs.Overlays.{overlay_of}

pub length-c_words : (o : Overlay) (text : List ℕ) (before : PathEnd) (words : List Word) → length (c_words o text before words) ≡ length words
length-c_words o text before [] = refl
length-c_words o text before (w ∷ ws) = ap (λ (n : ℕ). suc n) (length-c_words o text (path_end_after o before w) ws)

-- the remaining C words are those of the remaining words, from the end of the path so far
pub record IsWalked (o : Overlay) (text : List ℕ) (words : List Word) (all : List CWord) (i : ℕ) (now : PathEnd) : Type 0 where
  pub rest : drop i all ≡ c_words o text now (drop i words)
  pub follow : MayFollow o text now (drop i words)

module _ (o : Overlay) (text : List ℕ) (words : List Word) (all : List CWord) (i : ℕ) (now : PathEnd) (d : Word) (low : i < length words) (walked : IsWalked o text words all i now) where
  abbrev here : Word
  here = get_or words i d

  abbrev beyond : PathEnd
  beyond = path_end_after o now here

  rest_here : drop i all ≡ c_word_in o text beyond.total here ∷ c_words o text beyond (drop (i + 1) words)
  rest_here = walked.rest ∙ ap (c_words o text now) (drop_more words i d low)

  follow_here : MayFollow o text now (here ∷ drop (i + 1) words)
  follow_here = subst (MayFollow o text now) (drop_more words i d low) walked.follow

  -- the word may follow, and the cost up to it is far from overflow
  pub appears_here : IsWordOf o text now.right here
  appears_here = follow_here.0

  low_here : IsLow now.total
  low_here = follow_here.1

  pub can_follow : CanFollow o now here
  can_follow = record { pair = appears_here.follows; low = low_here }

  pub walked_on : (next : PathEnd) → next ≡ beyond → IsWalked o text words all (i + 1) next
  walked_on next is = subst (IsWalked o text words all (i + 1)) (sym is) (record {
    rest = sym (drop-drop 1 i all) ∙ ap (drop 1) rest_here;
    follow = follow_here.2;
  })

  pub reported_here : (next : PathEnd) (e : CWord) → next ≡ beyond → get_or all i e ≡ c_word_in o text next.total here
  reported_here next e is =
      let at : i ≡ i + 0 = omega arith in
      ap (λ (n : ℕ). get_or all n e) at ∙ sym (get_or-drop i all 0 e) ∙ ap (λ (xs : List CWord). get_or xs 0 e) rest_here ∙ ap (λ (r : PathEnd). c_word_in o text r.total here) (sym is)

pub reported_word : (o : Overlay) (text : List ℕ) (w : Word) (total : ℤ) (category n : ℕ) (feature : List ℕ) (reported : CWord) → reported ≡ c_word w category total n
    → category ≡ first_category o (chars_from text w.start) → n ≡ length feature → feature ≡ feature_of o w.origin → reported ≡ c_word_in o text total w
reported_word o text w total category n feature reported is first many there = is ∙ (λ i. c_word w (first i) total ((many ∙ ap (λ (bs : List ℕ). length bs) there) i))

-- a fact about the last line follows from another one
of_cut : (segment : Option SegmentedLine) (I P Q : SegmentedLine → Type 0) → ((c : SegmentedLine) → P c → Q c) → IsSomeAnd segment (λ c. I c × P c) → IsSomeAnd segment (λ c. I c × Q c)
of_cut None I P Q f h = h
of_cut (Some c) I P Q f h = (h.0, f c h.1)

follow_in : (h : SegmenterState) (last : LastWords) (segment : Option SegmentedLine) (I : SegmentedLine → Type 0) → IsSomeAnd segment (λ c. I c × AreLast h last c) → MayFollow (overlay_of last.dictionaries) last.text.now at_bos last.words.now
follow_in h last None I is = absurd is
follow_in h last (Some c) I is = is.1.follow

-- the borrowed words may follow each other
pub follow_of : (h : SegmenterState) (last : LastWords) → OfLastLine h (AreLast h last) → MayFollow (overlay_of last.dictionaries) last.text.now at_bos last.words.now
follow_of h last is = follow_in h last h.segmented (IsSegmentedOver (overlay_of_state h)) is

module _ (h : SegmenterState) (last : LastWords) (first from count : ℕ) (before : PathEnd) (old new : List CWord) where
  abbrev borrowed_words : List CWord
  borrowed_words = c_words (overlay_of last.dictionaries) last.text.now at_bos last.words.now

  abbrev left : List CWord
  left = c_words (overlay_of last.dictionaries) last.text.now before (drop from last.words.now)

  reported_of : (c : SegmentedLine) → AreLast h last c → from ≡ min first (length last.words.now) → drop from borrowed_words ≡ left → new ≡ with_front left old → count ≡ length last.words.now
      → AreWordsWritten h first count old new c
  reported_of c borrowed least walked written counts =
      let same : borrowed_words ≡ c_words (overlay_of_state h) c.text at_bos c.words = λ i. c_words (borrowed.dictionaries i) (borrowed.text i) at_bos (borrowed.words i) in
      let many = length-c_words (overlay_of last.dictionaries) last.text.now at_bos last.words.now in
      let all_from : drop from borrowed_words ≡ drop first borrowed_words = ap (λ (n : ℕ). drop n borrowed_words) (least ∙ ap (λ (n : ℕ). min first n) (sym many)) ∙ drop_min first borrowed_words in
      record {
        written = written ∙ ap (λ (xs : List CWord). with_front xs old) (sym walked ∙ all_from ∙ ap (drop first) same);
        all = counts ∙ ap (λ (ws : List Word). length ws) borrowed.words;
      }

  -- the words that were written are those of the last line
  pub are_reported : OfLastLine h (AreLast h last) → from ≡ min first (length last.words.now) → drop from borrowed_words ≡ left → new ≡ with_front left old → count ≡ length last.words.now
      → OfLastLine h (AreWordsWritten h first count old new)
  are_reported borrowed least walked written counts =
      of_cut h.segmented (IsSegmentedOver (overlay_of_state h)) (AreLast h last) (AreWordsWritten h first count old new) (λ c is. reported_of c is least walked written counts) borrowed
