-- The numbers of words among those of a position, by surface and word.
use Rattle.std.proofs.Common.{◌≡◌, ℕ, zero, suc, ◌+◌, ◌<◌, ◌≤◌, List, [], ◌∷◌, length, get_or, take, flat_map, Some, refl, sym, ap, ◌∙◌, subst, arith, slice_get, pos}
use Rattle.std.specs.List.{AllByRecursion}
use Rattle.std.proofs.lemmas.List.{append-nil, length-append, take_all, take_more}
use Rattle.std.proofs.lemmas.List.Concat.{flat_map-append, get_or-flat_map}
use Rattle.std.proofs.lemmas.List.Folds.{length-flat_map-take}
use Rattle.std.proofs.lemmas.Option.{get_or_from_slice_get, same_Some, slice_get-get_or, slice_get_within}
use Rattle.mj_model.specs.declared.word.Word.{Word}
use Rattle.mj_model.specs.declared.word.Origin.TheVariants.{Known}
use Rattle.mj_model.specs.Best.{IsSource}
use Rattle.viterbi.proofs.Pushed.{Contains_from_get}
use Rattle.mj_model.specs.declared.paths.entry_list.EntryList.TheVariants.{Lexicon}
use Rattle.mj_model.specs.declared.paths.surface.Surface.{Surface}
use Rattle.mj_model.specs.Surfaces.{IsWhole, HasSameSpan}
use Rattle.viterbi.specs.Search.SearchedText.{SearchedText, AreSurfacesAt, word_count, words_before}

whole_in : (f : Surface → List Word) (ss : List Surface) (number : ℕ) (d : Surface) → AllByRecursion (IsWhole f) ss → number < length ss → IsWhole f (get_or ss number d)
whole_in f [] number d all less = absurd (omega (arith, less))
whole_in f (s ∷ ss) zero d all less = all.0
whole_in f (s ∷ ss) (suc n) d all less = whole_in f ss n d all.1 (omega (arith, less))

pub count_at : (ss : List Surface) (number : ℕ) (d : Surface) → number < length ss → word_count ss number ≡ (get_or ss number d).count
count_at [] number d less = absurd (omega (arith, less))
count_at (s ∷ ss) zero d less = refl
count_at (s ∷ ss) (suc n) d less = count_at ss n d (omega (arith, less))

abbrev pub no_word : Word
no_word = record { place = 0; start = 0; end = 0; left = 0; right = 0; cost = pos 0; origin = Known 0 0 }

pub holds_in : (P : Word → Type 0) (ws : List Word) (i : ℕ) (w : Word) → AllByRecursion P ws → slice_get ws i ≡ Some w → P w
holds_in P [] i w all at = absurd (cc)
holds_in P (v ∷ ws) zero w all at = subst P (same_Some v w at) all.0
holds_in P (v ∷ ws) (suc i) w all at = holds_in P ws i w all.1 at

abbrev pub no_surface : Surface
no_surface = record { list = Lexicon 0; first = 0; count = 0; place = 0; start = 0; end = 0 }

module _ (t : SearchedText) (place : ℕ) (ss : List Surface) (are : AreSurfacesAt t place ss) where
  pub whole_at : (number : ℕ) (d : Surface) → number < length ss → IsWhole t.surface_words (get_or ss number d)
  whole_at number d less = whole_in t.surface_words ss number d are.whole less

  -- after the last word of a surface comes the next surface
  pub next_surface : (number : ℕ) → number < length ss → words_before t ss (number + 1) 0 ≡ words_before t ss number (word_count ss number)
  next_surface number less =
      let f = t.surface_words in
      let s = get_or ss number no_surface in
      let split = ap (λ (xs : List Surface). length (flat_map f xs)) (take_more ss number no_surface less) ∙ ap length (flat_map-append f (take number ss) (s ∷ [])) ∙ length-append (flat_map f (take number ss)) (flat_map f (s ∷ [])) in
      let one = ap length (append-nil (f s)) in
      let count = (whole_at number no_surface less).count_is in
      let counted = count_at ss number no_surface less in
      omega (arith, split, one, count, counted)

  -- after the last surface come no words
  pub all_words : words_before t ss (length ss) 0 ≡ length (t.words place)
  all_words = let e = ap (λ (xs : List Surface). length (flat_map t.surface_words xs)) (take_all (length ss) ss (omega arith)) ∙ ap length are.joined in omega (arith, e)

  -- a word of a surface is among those of the position
  pub word_at : (number i : ℕ) (d : Surface) (w : Word) → number < length ss → slice_get (t.surface_words (get_or ss number d)) i ≡ Some w → slice_get (t.words place) (words_before t ss number i) ≡ Some w
  word_at number i d w less at =
      let f = t.surface_words in
      let s = get_or ss number d in
      let low = slice_get_within (f s) i w at in
      let room = length-flat_map-take f ss number d less in
      let here = get_or-flat_map f ss number i d w less low ∙ get_or_from_slice_get (f s) i w w at in
      ap (λ (ws : List Word). slice_get ws (words_before t ss number i)) (sym are.joined)
      ∙ slice_get-get_or (flat_map f ss) (words_before t ss number i) w (omega (arith, low, room)) ∙ ap Some here

  -- a surface ends in the text
  pub surface_ends : IsSource t.words t.connection t.text_length → (number : ℕ) (d : Surface) → number < length ss → (get_or ss number d).end ≤ t.text_length
  surface_ends source number d less =
      let s = get_or ss number d in
      let whole = whole_at number d less in
      let count = whole.count_is in
      let some = whole.some in
      let w = get_or (t.surface_words s) 0 no_word in
      let at = slice_get-get_or (t.surface_words s) 0 no_word (omega (arith, count, some)) in
      let low = source.are.within place w (Contains_from_get (t.words place) (words_before t ss number 0) w (word_at number 0 d w less at)) in
      let same = (holds_in (HasSameSpan s) (t.surface_words s) 0 w whole.same_spans at).end in
      omega (arith, low, same)
