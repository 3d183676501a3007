-- The words of a lattice's nodes and of paths lie in the text: a chain reaches each, so its
-- position is the start of the text or the end of a word.
use Rattle.std.proofs.Common.{◌≡◌, ℕ, zero, suc, ◌≤◌, List, [], ◌∷◌, Contains, length, Some, sym, ap, ◌∙◌, subst, arith, slice_get}
use Rattle.std.specs.Prelude.{IsTrue, IsUtf8}
use Rattle.std.specs.Option.{option_map}
use Rattle.std.proofs.lemmas.Option.{same_Some, slice_get-map}
use Rattle.mj_model.specs.declared.limits.TheConstants.{SENTENCE_MAX}
use Rattle.mj_model.specs.declared.word.Word.{Word}
use Rattle.mj_model.specs.Tables.{Overlay}
use Rattle.mj_model.specs.ReversedChains.{IsChainTo}
use Rattle.mj_model.specs.Laws.{HasWords}
use Rattle.mj_model.specs.Paths.{IsChain, IsPath}
use Rattle.mj_model.specs.Searchable.{StaysOnPlaces}
use Rattle.mj_model.specs.Words.{is_place, words}
use Rattle.mj_model.proofs.PlaceWords.{in_words}
use Rattle.word_lookup.specs.declared.dictionaries.Dictionaries.{Dictionaries}
use Rattle.word_lookup.specs.Overlays.{overlay_of}
use Rattle.word_lookup.proofs.DictionaryLaws.{has_words, searchable}
use Rattle.word_lookup.proofs.PlaceLemmas.{place_after_blanks}
use Rattle.viterbi.specs.declared.nodes.lattice_node.LatticeNode.{LatticeNode}
use Rattle.viterbi.specs.Nodes.LatticeNodes.{AreWordsOfLattice, IsReached}
use Rattle.lattice.specs.TextOver.{SurfaceLiesIn, text_over}

abbrev Places : List ℕ → ℕ → Type 0
Places text p = IsTrue (is_place text p)

chain_ends : (o : Overlay) (text : List ℕ) → StaysOnPlaces (Places text) (words o text) → (ws : List Word) (p : ℕ) → IsChainTo (words o text) ws p → Places text p
chain_ends o text stays [] p h = subst (Places text) (sym h) stays.begins
chain_ends o text stays (w ∷ ws) p h = subst (Places text) h.0 (stays.word_ends_there w.place w h.1)

-- a word of a valid position lies in the text
word_appears : (o : Overlay) (text : List ℕ) (p : ℕ) (w : Word) → HasWords o → StaysOnPlaces (Places text) (words o text) → Places text p → Contains (words o text p) w → SurfaceLiesIn text w
word_appears o text p w has stays place here =
    let a = in_words o text p w has here in
    let start = a.start_is in
    let longer = a.longer in
    let within = a.within in
    record {
      forward = omega (arith, longer);
      within = within;
      begins = place_after_blanks o text p w.start place start (omega (arith, longer, within));
      ends = stays.word_ends_there p w here;
    }

reached_appears : (d : Dictionaries) (text : List ℕ) (w : Word) → IsUtf8 text → length text ≤ SENTENCE_MAX → IsReached (words (overlay_of d) text) w → SurfaceLiesIn text w
reached_appears d text w utf8 short reached =
    let o = overlay_of d in
    let stays = (searchable d text utf8 short).places in
    let chain = reached.1 in
    word_appears o text w.place w (has_words d) stays (chain_ends o text stays reached.0 w.place chain.2) chain.1

chain_appears : (o : Overlay) (text : List ℕ) → HasWords o → StaysOnPlaces (Places text) (words o text) → (ws : List Word) (p to i : ℕ) (w : Word) → Places text p → IsChain (words o text) p ws to → slice_get ws i ≡ Some w → SurfaceLiesIn text w
chain_appears o text has stays [] p to i w place chain at = absurd (cc)
chain_appears o text has stays (v ∷ vs) p to zero w place chain at = subst (SurfaceLiesIn text) (same_Some v w at) (word_appears o text p v has stays place chain.0)
chain_appears o text has stays (v ∷ vs) p to (suc i) w place chain at = chain_appears o text has stays vs v.end to i w (stays.word_ends_there p v chain.0) chain.1 at

-- the words of a path lie in the text
pub path_appears : (d : Dictionaries) (text : List ℕ) (path : List Word) (to i : ℕ) (w : Word) → IsUtf8 text → length text ≤ SENTENCE_MAX → IsPath (words (overlay_of d) text) path to → slice_get path i ≡ Some w → SurfaceLiesIn text w
path_appears d text path to i w utf8 short is at =
    let stays = (searchable d text utf8 short).places in
    chain_appears (overlay_of d) text (has_words d) stays path 0 to i w stays.begins is.chain at

pub node_appears : (d : Dictionaries) (text : List ℕ) (nodes : List LatticeNode) → IsUtf8 text → length text ≤ SENTENCE_MAX → AreWordsOfLattice (text_over (overlay_of d) text) nodes
    → (i : ℕ) (n : LatticeNode) → slice_get nodes i ≡ Some n → SurfaceLiesIn text n.word
node_appears d text nodes utf8 short are i n at =
    let word = λ (m : LatticeNode). m.word in reached_appears d text n.word utf8 short (are.each i n.word (slice_get-map word nodes i ∙ ap (option_map word) at))
