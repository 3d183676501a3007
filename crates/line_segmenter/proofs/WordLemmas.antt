-- The words of the last line start at characters, and have the categories of these.
use Rattle.std.proofs.Common.{◌≡◌, ℕ, zero, suc, ◌<◌, ◌≤◌, get_or, List, [], ◌∷◌, length, slice_get, Some, subst, sym, ap, ◌∙◌}
use Rattle.std.specs.Prelude.{ℤ, pos, ◌+ℤ◌, IsTrue, IsUtf8, Option}
use Rattle.std.specs.Option.{IsSomeAnd}
use Rattle.std.proofs.lemmas.Option.{same_Some, slice_get-get_or}
use Rattle.mj_model.specs.declared.limits.TheConstants.{SENTENCE_MAX}
use Rattle.mj_model.specs.declared.word.Word.{Word}
use Rattle.mj_model.specs.Tables.{Overlay}
use Rattle.mj_model.specs.BestOver.{IsBestPathOver}
use Rattle.mj_model.specs.Blanks.{chars_from}
use Rattle.mj_model.specs.Words.{is_place}
use Rattle.out_format.specs.PrintedPaths.{first_category}
use Rattle.out_format.specs.Followable.{AreFollowable}
use Rattle.out_format.proofs.FollowLemmas.{path_followable}
use Rattle.word_lookup.specs.declared.dictionaries.Dictionaries.{Dictionaries}
use Rattle.word_lookup.specs.Overlays.{overlay_of}
use Rattle.line_segmenter.specs.Segmenters.{SegmentedLine, HasCategory, SegmenterState, IsSegmentedOver, OfLastLine, overlay_of_state}

begins_there : (o : Overlay) (text : List ℕ) (words : List Word) (i : ℕ) (w : Word) (right : ℕ) (cost : ℤ) → AreFollowable o text right cost words → slice_get words i ≡ Some w
    → IsTrue (is_place text w.start)
begins_there o text [] i w right cost follow h = absurd (cc)
begins_there o text (v ∷ vs) zero w right cost follow h = subst (λ (u : Word). IsTrue (is_place text u.start)) (same_Some v w h) follow.0.begins
begins_there o text (v ∷ vs) (suc i) w right cost follow h = begins_there o text vs i w v.right ((cost +ℤ o.system.connection right v.left) +ℤ v.cost) follow.2 h

pub word_begins : (d : Dictionaries) (o : Overlay) (text : List ℕ) (words : List Word) (i : ℕ) (w : Word) → IsUtf8 text → length text ≤ SENTENCE_MAX → overlay_of d ≡ o → IsBestPathOver o text words
    → slice_get words i ≡ Some w → IsTrue (is_place text w.start)
word_begins d o text words i w utf8 short same best h =
    let b : IsBestPathOver (overlay_of d) text words = subst (λ (p : Overlay). IsBestPathOver p text words) (sym same) best in
    begins_there (overlay_of d) text words i w 0 (pos 0) (path_followable d text words utf8 short (b.to, b.path)) h

pub category_is : (h : SegmenterState) (i category : ℕ) (c : SegmentedLine) (w : Word) (o : Overlay) → h.segmented ≡ Some c → IsSegmentedOver (overlay_of_state h) c → slice_get c.words i ≡ Some w → o ≡ overlay_of_state h
    → category ≡ first_category o (chars_from c.text w.start) → OfLastLine h (HasCategory h i category)
category_is h i category c w o is segment there same e =
    let found : HasCategory h i category c =
    subst (λ (v : Option Word). IsSomeAnd v (λ (u : Word). category ≡ first_category (overlay_of_state h) (chars_from c.text u.start))) (sym there)
    (e ∙ ap (λ (p : Overlay). first_category p (chars_from c.text w.start)) same) in
    subst (λ (v : Option SegmentedLine). IsSomeAnd v (λ (d : SegmentedLine). IsSegmentedOver (overlay_of_state h) d × HasCategory h i category d)) (sym is) (segment, found)

-- the word at an index of a list
pub word_there : (found words : List Word) (i : ℕ) (w : Word) → found ≡ words → i < length found → w ≡ get_or found i w → slice_get words i ≡ Some w
word_there found words i w same within is = ap (λ (ws : List Word). slice_get ws i) (sym same) ∙ slice_get-get_or found i w within ∙ ap Some (sym is)
