-- The words of a path may follow each other, and what the path costs up to each is far within 64 bits.
use Rattle.std.proofs.Common.{◌≡◌, ℕ, ◌*◌, ◌<◌, ◌≤◌, ◌^◌, List, [], ◌∷◌, length, subst, arith, Contains}
use Rattle.std.specs.Prelude.{ℤ, pos, ◌+ℤ◌, IsTrue, IsUtf8}
use Rattle.std.proofs.lemmas.Int.{ints}
use Rattle.mj_model.specs.declared.limits.TheConstants.{SENTENCE_MAX}
use Rattle.mj_model.specs.declared.word.Word.{Word}
use Rattle.mj_model.specs.Bounds.{IsWithin}
use Rattle.mj_model.specs.Connection.{is_pair}
use Rattle.mj_model.specs.Laws.{HasWords}
use Rattle.mj_model.specs.Paths.{IsChain, IsPath}
use Rattle.mj_model.specs.Searchable.{IsSearchable}
use Rattle.mj_model.specs.Tables.{Overlay}
use Rattle.mj_model.specs.Words.{is_place, words}
use Rattle.mj_model.proofs.PlaceWords.{in_words}
use Rattle.mj_model.specs.declared.word.Origin.{Origin}
use Rattle.mj_model.specs.Printed.{feature_of}
use Rattle.out_format.specs.WordContexts.{HasFeature, IsWordOf}
use Rattle.out_format.specs.Followable.{IsLow, AreFollowable}
use Rattle.word_lookup.specs.declared.dictionaries.Dictionaries.{Dictionaries}
use Rattle.word_lookup.specs.Overlays.{overlay_of}
use Rattle.word_lookup.proofs.DictionaryLaws.{has_words, searchable}
use Rattle.word_lookup.proofs.PlaceLemmas.{place_after_blanks}

abbrev Places : List ℕ → ℕ → Type 0
Places line p = IsTrue (is_place line p)

abbrev Pairs : Overlay → ℕ → ℕ → Type 0
Pairs o right left = IsTrue (is_pair o.system.sizes right left)

-- a right id that every word may follow
abbrev Precedes : Overlay → List ℕ → ℕ → Type 0
Precedes o line right = (p : ℕ) (w : Word) → Contains (words o line p) w → Pairs o right w.left

low_after : (p end : ℕ) (cost connection word : ℤ) → p < end → IsWithin (65536 * p) cost → IsWithin (2 ^ 15) connection → IsWithin (2 ^ 15) word → IsWithin (65536 * end) ((cost +ℤ connection) +ℤ word)
low_after p end cost connection word less (a, b) (c, d) (e, f) = (omega (arith, ints), omega (arith, ints))

word_of_place : (o : Overlay) (line : List ℕ) (p right : ℕ) (w : Word) → HasWords o → Places line p → Pairs o right w.left → Contains (words o line p) w → IsWordOf o line right w
word_of_place o line p right w has place pair h =
    let a = in_words o line p w has h in
    let at = a.place_is in
    let start = a.start_is in
    let longer = a.longer in
    let within = a.within in
    record {
      blanks = omega (arith, at, start);
      forward = omega (arith, longer);
      within = within;
      begins = place_after_blanks o line p w.start place start (omega (arith, longer, within));
      follows = pair;
    }

chain_followable : (o : Overlay) (line : List ℕ) → HasWords o → IsSearchable (Places line) (Pairs o) (words o line) o.system.connection (length line)
    → (ws : List Word) (p to right : ℕ) (cost : ℤ) → IsChain (words o line) p ws to → Precedes o line right → Places line p → p ≤ length line → IsWithin (65536 * p) cost → AreFollowable o line right cost ws
chain_followable o line has s [] p to right cost chain precedes place in' low = tt
chain_followable o line has s (w ∷ ws) p to right cost chain precedes place in' low =
    let a = in_words o line p w has chain.0 in
    let short = s.short in
    let above = low.0 in
    let below = low.1 in
    let low_here : IsLow cost = (omega (arith, ints, short, in', above), omega (arith, ints, short, in', below)) in
    let less : p < w.end = s.source.are.go_on p w chain.0 in
    let next = low_after p w.end cost (o.system.connection right w.left) w.cost less low (s.source.connections right w.left) (s.source.costs p w chain.0) in (
      word_of_place o line p right w has place (precedes p w chain.0) chain.0,
      low_here,
      chain_followable o line has s ws w.end to w.right ((cost +ℤ o.system.connection right w.left) +ℤ w.cost) chain.1 (λ q v h. (s.word_follows q v h).after_word p w chain.0)
          (s.places.word_ends_there p w chain.0) a.within next,
    )

none_low : IsWithin (65536 * 0) (pos 0)
none_low = (omega (arith, ints), omega (arith, ints))

-- the words of a path over dictionaries
pub path_followable : (d : Dictionaries) (text : List ℕ) (path : List Word) → IsUtf8 text → length text ≤ SENTENCE_MAX → (to : ℕ) × IsPath (words (overlay_of d) text) path to
    → AreFollowable (overlay_of d) text 0 (pos 0) path
path_followable d text path u short (to, is) =
    let o = overlay_of d in
    let s = searchable d text u short in
    chain_followable o text (has_words d) s path 0 to 0 (pos 0) is.chain (λ p w h. (s.word_follows p w h).after_bos) s.places.begins (omega arith) none_low

-- the next word
pub next_followable : (o : Overlay) (line : List ℕ) (rest ws : List Word) (w : Word) (right : ℕ) (cost : ℤ) → rest ≡ w ∷ ws → AreFollowable o line right cost rest
    → IsWordOf o line right w × IsLow cost × AreFollowable o line w.right ((cost +ℤ o.system.connection right w.left) +ℤ w.cost) ws
next_followable o line rest ws w right cost split all = subst (AreFollowable o line right cost) split all

-- ---- the feature that a word has

pub has_feature : (o : Overlay) (origin : Origin) (feature : List ℕ) → feature ≡ feature_of o origin → HasFeature o origin feature
unfolding HasFeature
has_feature o origin feature is = is

pub feature_is : (o : Overlay) (origin : Origin) (feature : List ℕ) → HasFeature o origin feature → feature ≡ feature_of o origin
unfolding HasFeature
feature_is o origin feature has = has
