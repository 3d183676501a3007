-- The words of surfaces, appended one by one.
use Rattle.std.proofs.Common.{◌≡◌, ℕ, zero, suc, ◌+◌, ◌<◌, List, [], ◌∷◌, ◌++◌, length, get_or, take, flat_map, Some, sym, ap, ◌∙◌, arith}
use Rattle.std.specs.Prelude.{slice_get}
use Rattle.std.specs.List.{AllByRecursion}
use Rattle.std.proofs.lemmas.List.{append-nil, append_assoc, take_more}
use Rattle.std.proofs.lemmas.List.Concat.{flat_map-append}
use Rattle.std.proofs.lemmas.Option.{get_or_from_slice_get, slice_get_within}
use Rattle.mj_model.specs.declared.word.Word.{Word}
use Rattle.mj_model.specs.declared.paths.surface.Surface.{Surface}

pub one_word_more : (before now after ws : List Word) (w : Word) (i : ℕ) → now ≡ before ++ take i ws → slice_get ws i ≡ Some w → after ≡ now ++ w ∷ [] → after ≡ before ++ take (i + 1) ws
one_word_more before now after ws w i so_far at more =
    let here = get_or_from_slice_get ws i w w at in
    more ∙ ap (λ (xs : List Word). xs ++ w ∷ []) so_far ∙ append_assoc before (take i ws) (w ∷ [])
    ∙ ap (λ (xs : List Word). before ++ xs) (ap (λ (v : Word). take i ws ++ v ∷ []) (sym here) ∙ sym (take_more ws i w (slice_get_within ws i w at)))

pub one_surface_more : (f : Surface → List Word) (before now after : List Word) (ss : List Surface) (i : ℕ) (d : Surface) → now ≡ before ++ flat_map f (take i ss) → i < length ss → after ≡ now ++ f (get_or ss i d)
    → after ≡ before ++ flat_map f (take (i + 1) ss)
one_surface_more f before now after ss i d so_far less more =
    let s = get_or ss i d in
    more ∙ ap (λ (ws : List Word). ws ++ f s) so_far ∙ append_assoc before (flat_map f (take i ss)) (f s)
    ∙ ap (λ (ws : List Word). before ++ ws) (ap (λ (ws : List Word). flat_map f (take i ss) ++ ws) (sym (append-nil (f s))) ∙ sym (flat_map-append f (take i ss) (s ∷ [])) ∙ ap (flat_map f) (sym (take_more ss i d less)))

pub holds_at : (P : Surface → Type 0) (ss : List Surface) (i : ℕ) (d : Surface) → AllByRecursion P ss → i < length ss → P (get_or ss i d)
holds_at P [] i d all less = absurd (omega (arith, less))
holds_at P (s ∷ ss) zero d all less = all.0
holds_at P (s ∷ ss) (suc i) d all less = holds_at P ss i d all.1 (omega (arith, less))
