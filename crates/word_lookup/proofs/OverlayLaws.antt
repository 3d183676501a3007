-- What the search requires of an overlay whose entries have ids within the sizes.
use Rattle.std.proofs.Common.{ℕ, suc, ◌≤◌, ◌^◌, Bool, true, false, cond, ◌&&◌, List, [], ◌∷◌, ◌++◌, length, take, drop, map, Contains, arith, subst, inl, inr}
use Rattle.std.specs.Prelude.{IsTrue, IsUtf8, nat_lt, bytes_eq}
use Rattle.std.specs.List.{AllByRecursion}
use Rattle.std.proofs.lemmas.Bool.{and_parts, and_from}
use Rattle.mj_model.specs.declared.limits.TheConstants.{SENTENCE_MAX}
use Rattle.mj_model.specs.declared.word.Word.{Word}
use Rattle.mj_model.specs.Bounds.{IsWithin}
use Rattle.mj_model.specs.Blanks.{skip, chars_from}
use Rattle.mj_model.specs.declared.matrix_sizes.MatrixSizes.{MatrixSizes}
use Rattle.mj_model.specs.Connection.{is_pair}
use Rattle.mj_model.specs.Lists.{up_to, IsMember}
use Rattle.mj_model.specs.KnownWords.{known_word, entries_of_length, known_in, known_from, known_words}
use Rattle.mj_model.specs.Laws.{HasWords}
use Rattle.mj_model.specs.Run.{bytes_of}
use Rattle.mj_model.specs.Tables.{Lexeme, Overlay, lexicons}
use Rattle.mj_model.specs.UnknownSpans.{spans}
use Rattle.mj_model.specs.Words.{is_empty, is_place, unknown, unknown_word, words}
use Rattle.mj_model.proofs.Members.{in_from_Contains, in_append, in_map, in_filter, in_flat_map, holds_in}
use Rattle.mj_model.proofs.PlaceWords.{place_there, words_keep_places}
use Rattle.mj_model.specs.Searchable.{IsSearchable}
use Rattle.dict_image.specs.Fitting.{IsFitting}

-- ---- each word is of an entry that fits

abbrev pub IsFittingLexeme : MatrixSizes → Lexeme → Type 0
IsFittingLexeme sizes e = IsFitting sizes e.token

-- the entries of an overlay have ids within the sizes, and costs of 16 bits
pub record EntriesFit (sizes : MatrixSizes) (o : Overlay) : Type 0 where
  pub known_fit : AllByRecursion (AllByRecursion (IsFittingLexeme sizes)) (lexicons o)
  pub unknown_fit : (i : ℕ) → AllByRecursion (IsFitting sizes) (o.system.unknown i)

abbrev pub IsFittingWord : MatrixSizes → Word → Type 0
IsFittingWord sizes w = IsTrue (is_pair sizes w.right w.left) × IsWithin (2 ^ 15) w.cost

fitting_in : (sizes : MatrixSizes) (place start : ℕ) (text : List ℕ) (dict : ℕ) (lexicon : List Lexeme) (w : Word) → AllByRecursion (IsFittingLexeme sizes) lexicon → IsMember (known_in place start text dict lexicon) w → IsFittingWord sizes w
fitting_in sizes place start text dict lexicon w all h =
    let r = in_flat_map (λ n. map (known_word place start dict) (entries_of_length text lexicon n)) (up_to (length text)) w h in
    let m = in_map (known_word place start dict) (entries_of_length text lexicon r.0) w r.2 in
    let f = in_filter (λ e. bytes_eq e.surface (take r.0 text)) lexicon m.0 m.1 in
    subst (IsFittingWord sizes) m.2 (holds_in (IsFittingLexeme sizes) lexicon m.0 all f.0)

fitting_from : (sizes : MatrixSizes) (place start : ℕ) (text : List ℕ) (dict : ℕ) (all : List (List Lexeme)) (w : Word) → AllByRecursion (AllByRecursion (IsFittingLexeme sizes)) all → IsMember (known_from place start text dict all) w → IsFittingWord sizes w
fitting_from sizes place start text dict [] w fit h = absurd h
fitting_from sizes place start text dict (lexicon ∷ more) w fit h = elim (in_append (known_in place start text dict lexicon) (known_from place start text (suc dict) more) w h) [
  | inl i ↦ fitting_in sizes place start text dict lexicon w fit.0 i
  | inr j ↦ fitting_from sizes place start text (suc dict) more w fit.1 j
]

fitting_unknown : (sizes : MatrixSizes) (o : Overlay) (none_known : Bool) (place start : ℕ) (cs : List ℕ) (w : Word) → ((i : ℕ) → AllByRecursion (IsFitting sizes) (o.system.unknown i)) → IsMember (unknown o none_known place start cs) w → IsFittingWord sizes w
fitting_unknown sizes o none_known place start [] w fit h = absurd h
fitting_unknown sizes o none_known place start (c ∷ cs) w fit h =
    let ts = o.system.unknown (o.system.info c).head in
    let r = in_flat_map (λ n. map (unknown_word place start (bytes_of n (c ∷ cs))) ts) (spans o none_known c cs) w h in
    let m = in_map (unknown_word place start (bytes_of r.0 (c ∷ cs))) ts w r.2 in
    subst (IsFittingWord sizes) m.2 (holds_in (IsFitting sizes) ts m.0 (fit (o.system.info c).head) m.1)

fitting_by : (sizes : MatrixSizes) (o : Overlay) (text : List ℕ) (p : ℕ) (w : Word) (b : Bool) → EntriesFit sizes o
    → IsMember (cond b (known_words o text p ++ unknown o (is_empty (known_words o text p)) p (skip o text p) (chars_from text (skip o text p))) []) w → IsFittingWord sizes w
fitting_by sizes o text p w false fit h = absurd h
fitting_by sizes o text p w true fit h = elim (in_append (known_words o text p) (unknown o (is_empty (known_words o text p)) p (skip o text p) (chars_from text (skip o text p))) w h) [
  | inl i ↦ fitting_from sizes p (skip o text p) (drop (skip o text p) text) 0 (lexicons o) w fit.known_fit i
  | inr j ↦ fitting_unknown sizes o (is_empty (known_words o text p)) p (skip o text p) (chars_from text (skip o text p)) w fit.unknown_fit j
]

-- each word has ids within the sizes, and a cost of 16 bits
pub fitting : (sizes : MatrixSizes) (o : Overlay) (text : List ℕ) (p : ℕ) (w : Word) → EntriesFit sizes o → Contains (words o text p) w → IsFittingWord sizes w
fitting sizes o text p w fit h = fitting_by sizes o text p w (is_place text p && nat_lt (skip o text p) (length text)) fit (in_from_Contains (words o text p) w h)

-- ---- the search

-- ids that lie within the sizes with some other lie there with each other
crossed : (sizes : MatrixSizes) (right other_left other_right left : ℕ) → IsTrue (is_pair sizes right other_left) → IsTrue (is_pair sizes other_right left) → IsTrue (is_pair sizes right left)
crossed sizes right other_left other_right left a b =
    and_from (nat_lt right sizes.right) (nat_lt left sizes.left)
    (and_parts (nat_lt right sizes.right) (nat_lt other_left sizes.left) a).0
    (and_parts (nat_lt other_right sizes.right) (nat_lt left sizes.left) b).1

pub searchable_overlay : (sizes : MatrixSizes) (o : Overlay) (text : List ℕ) → HasWords o → EntriesFit sizes o → IsTrue (is_pair sizes 0 0) → ((right left : ℕ) → IsWithin (2 ^ 15) (o.system.connection right left))
    → IsUtf8 text → length text ≤ SENTENCE_MAX
    → IsSearchable (λ p. IsTrue (is_place text p)) (λ right left. IsTrue (is_pair sizes right left)) (words o text) o.system.connection (length text)
searchable_overlay sizes o text has fit some costs u short =
    let fits = λ (p : ℕ) (w : Word) (h : Contains (words o text p) w). fitting sizes o text p w fit h in
    let keeps = words_keep_places o text has in
    record {
      source = record { are = keeps.are; costs = λ p w h. (fits p w h).1; connections = costs };
      short = omega (arith, short);
      places = record { begins = place_there text 0 (omega arith) u; word_ends_there = keeps.ends };
      eos_follows = record { after_bos = some; after_word = λ p w h. crossed sizes w.right w.left 0 0 (fits p w h).0 some };
      word_follows = λ p w h. record {
        after_bos = crossed sizes 0 0 w.right w.left some (fits p w h).0;
        after_word = λ q v k. crossed sizes v.right v.left w.right w.left (fits q v k).0 (fits p w h).0;
      };
    }
