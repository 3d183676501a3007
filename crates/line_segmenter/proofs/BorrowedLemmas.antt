-- The last line as it is borrowed, its lattice, and appended features.
use Rattle.std.proofs.Common.{◌≡◌, ℕ, ◌+◌, ◌<◌, ◌≤◌, List, [], ◌∷◌, ◌++◌, length, take, drop, get_or, Some, refl, subst, sym, ap, ◌∙◌, append_assoc, append-nil, arith}
use Rattle.std.specs.Prelude.{IsUtf8, Option}
use Rattle.std.specs.Option.{IsSomeAnd}
use Rattle.std.proofs.lemmas.List.{length-append, take-append-drop, take_more}
use Rattle.std.proofs.lemmas.List.Concat.{flat_map-append}
use Rattle.mj_model.specs.declared.limits.TheConstants.{SENTENCE_MAX}
use Rattle.mj_model.specs.declared.word.Word.{Word}
use Rattle.mj_model.specs.Printed.{feature_of}
use Rattle.mj_model.specs.Tables.{Overlay}
use Rattle.mj_model.specs.BestOver.{IsBestPathOver}
use Rattle.out_format.proofs.FollowLemmas.{path_followable}
use Rattle.word_lookup.specs.Overlays.{overlay_of}
use Rattle.lattice.specs.declared.marking.MarkedLattice.{MarkedLattice}
use Rattle.lattice.specs.TextOver.{IsMarkedOver}
use Rattle.line_segmenter.specs.Segmenters.{SegmentedLine, SegmenterState, IsSegmentedOver, IsLatticeOfLastLine, OfLastLine, overlay_of_state}
use Rattle.line_segmenter.specs.declared.last_words.LastWords.{LastWords}
use Rattle.line_segmenter.specs.PathEnds.{AreLast, features_of}

pub best_of : (o same : Overlay) (text line : List ℕ) (words path : List Word) → IsBestPathOver o line path → same ≡ o → text ≡ line → words ≡ path → IsBestPathOver same text words
best_of o same text line words path best a b c =
    subst (λ (p : Overlay). IsBestPathOver p text words) (sym a) (subst (λ (t : List ℕ). IsBestPathOver o t words) (sym b) (subst (λ (ws : List Word). IsBestPathOver o line ws) (sym c) best))

-- the last line, borrowed with dictionaries whose overlay is the segmenter's
pub last_is : (h : SegmenterState) (c : SegmentedLine) (last : LastWords) → h.segmented ≡ Some c → IsSegmentedOver (overlay_of_state h) c → overlay_of last.dictionaries ≡ overlay_of_state h → last.text.now ≡ c.text
    → last.words.now ≡ c.words → OfLastLine h (AreLast h last)
last_is h c last is segment same text words =
    let best = best_of (overlay_of_state h) (overlay_of last.dictionaries) last.text.now c.text last.words.now c.words segment.best same text words in
    let borrowed : AreLast h last c = record {
      dictionaries = same;
      text = text;
      words = words;
      follow = path_followable last.dictionaries last.text.now last.words.now (subst IsUtf8 (sym text) segment.is_utf8) (subst (λ (t : List ℕ). length t ≤ SENTENCE_MAX) (sym text) segment.short) (best.to, best.path);
    } in
    subst (λ (v : Option SegmentedLine). IsSomeAnd v (λ (d : SegmentedLine). IsSegmentedOver (overlay_of_state h) d × AreLast h last d)) (sym is) (segment, borrowed)

-- the lattice of the last line, built with dictionaries whose overlay is the segmenter's
pub lattice_is : (h : SegmenterState) (c : SegmentedLine) (lattice : MarkedLattice) (o : Overlay) (words : List Word) → h.segmented ≡ Some c → IsSegmentedOver (overlay_of_state h) c → o ≡ overlay_of_state h → words ≡ c.words
    → IsMarkedOver o c.text words lattice → OfLastLine h (IsLatticeOfLastLine h lattice)
lattice_is h c lattice o words is segment same path marked =
    let of_cut : IsLatticeOfLastLine h lattice c =
    subst (λ (p : Overlay). IsMarkedOver p c.text c.words lattice) same (subst (λ (ws : List Word). IsMarkedOver o c.text ws lattice) path marked) in
    subst (λ (v : Option SegmentedLine). IsSomeAnd v (λ (d : SegmentedLine). IsSegmentedOver (overlay_of_state h) d × IsLatticeOfLastLine h lattice d)) (sym is) (segment, of_cut)

-- the feature of the next word
pub feature_more : (o : Overlay) (words : List Word) (i : ℕ) (d : Word) (old now next feature : List ℕ) → i < length words → now ≡ old ++ features_of o (take i words)
    → feature ≡ feature_of o (get_or words i d).origin → next ≡ now ++ feature → next ≡ old ++ features_of o (take (i + 1) words)
feature_more o words i d old now next feature low before here more =
    let w = get_or words i d in
    let owned = feature_of o w.origin in
    let ends : features_of o (take (i + 1) words) ≡ features_of o (take i words) ++ owned =
    ap (features_of o) (take_more words i d low) ∙ flat_map-append (λ (v : Word). feature_of o v.origin) (take i words) (w ∷ [])
    ∙ ap (λ (bs : List ℕ). features_of o (take i words) ++ bs) (append-nil owned) in
    more ∙ ap (λ (bs : List ℕ). now ++ bs) here ∙ ap (λ (bs : List ℕ). bs ++ owned) before ∙ append_assoc old (features_of o (take i words)) owned ∙ ap (λ (bs : List ℕ). old ++ bs) (sym ends)

-- if the capacity is too small for the feature of the next word, it was too small for the features
-- of all
pub no_room_for_all : (o : Overlay) (words : List Word) (i : ℕ) (d : Word) (old now feature : List ℕ) (room before : ℕ) → i < length words → now ≡ old ++ features_of o (take i words)
    → feature ≡ feature_of o (get_or words i d).origin → before ≤ room → room < length now + length feature → before < length old + length (features_of o words)
no_room_for_all o words i d old now feature room before low now_is here grown full =
    let front = take (i + 1) words in
    let rest = drop (i + 1) words in
    let next = feature_more o words i d old now (now ++ feature) feature low now_is here refl in
    let all : features_of o words ≡ features_of o front ++ features_of o rest =
    ap (features_of o) (sym (take-append-drop (i + 1) words)) ∙ flat_map-append (λ (w : Word). feature_of o w.origin) front rest in
    omega (arith, grown, full, ap length next, length-append now feature, length-append old (features_of o front), ap length all, length-append (features_of o front) (features_of o rest))
