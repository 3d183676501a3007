-- Words that come from the same entries have the same ids and the same cost, at any positions.
use Rattle.std.proofs.Common.{◌≡◌, ℕ, zero, suc, List, [], ◌∷◌, drop, map, take, Some, sym, ap, ◌∙◌, subst, slice_get}
use Rattle.std.proofs.lemmas.Option.{same_Some}
use Rattle.mj_model.specs.declared.word.Word.{Word}
use Rattle.mj_model.specs.Tables.{Overlay, Token}
use Rattle.mj_model.specs.declared.paths.entry_list.EntryList.{EntryList}
use Rattle.mj_model.specs.declared.paths.surface.Surface.{Surface}
use Rattle.word_lookup.specs.EntryWords.{entry_word}
use Rattle.word_lookup.specs.SameEntries.{HaveSameEntries}
use Rattle.word_lookup.specs.Surfaces.{surface_words, tokens_of}

-- two words have the same ids and the same cost
abbrev pub HaveSameIds : Word → Word → Type 0
HaveSameIds v w = (v.left ≡ w.left) × (v.right ≡ w.right) × (v.cost ≡ w.cost)

same_among : (list : EntryList) (a b c d e f : ℕ) (ts : List Token) (i : ℕ) (v w : Word) → slice_get (map (entry_word list a b c) ts) i ≡ Some v → slice_get (map (entry_word list d e f) ts) i ≡ Some w → HaveSameIds v w
same_among list a b c d e f [] i v w at_v at_w = absurd (cc)
same_among list a b c d e f (t ∷ ts) zero v w at_v at_w =
    let x = same_Some (entry_word list a b c t) v at_v in
    let y = same_Some (entry_word list d e f t) w at_w in
    (ap (λ (u : Word). u.left) (sym x) ∙ ap (λ (u : Word). u.left) y, ap (λ (u : Word). u.right) (sym x) ∙ ap (λ (u : Word). u.right) y, ap (λ (u : Word). u.cost) (sym x) ∙ ap (λ (u : Word). u.cost) y)
same_among list a b c d e f (t ∷ ts) (suc i) v w at_v at_w = same_among list a b c d e f ts i v w at_v at_w

pub same_ids : (o : Overlay) (s u : Surface) (i : ℕ) (v w : Word) → HaveSameEntries s u → slice_get (surface_words o s) i ≡ Some v → slice_get (surface_words o u) i ≡ Some w → HaveSameIds v w
same_ids o s u i v w same at_v at_w =
    let at : slice_get (map (entry_word s.list u.place u.start u.end) (take s.count (drop s.first (tokens_of o s.list)))) i ≡ Some w =
    subst (λ (l : EntryList). slice_get (map (entry_word l u.place u.start u.end) (take s.count (drop s.first (tokens_of o l)))) i ≡ Some w) (sym same.list)
    (subst (λ (n : ℕ). slice_get (map (entry_word u.list u.place u.start u.end) (take s.count (drop n (tokens_of o u.list)))) i ≡ Some w) (sym same.first)
    (subst (λ (n : ℕ). slice_get (map (entry_word u.list u.place u.start u.end) (take n (drop u.first (tokens_of o u.list)))) i ≡ Some w) (sym same.count) at_w)) in
    same_among s.list s.place s.start s.end u.place u.start u.end (take s.count (drop s.first (tokens_of o s.list))) i v w at_v at
