-- The last word of a path, and EOS after it.
use Rattle.std.proofs.Common.{◌≡◌, ℕ, zero, suc, ◌+◌, ◌-◌, List, [], ◌∷◌, Option, Some, None, get_or, length, reverse, ap, refl, sym, ◌∙◌, subst, arith, slice_get}
use Rattle.std.specs.Prelude.{IsTrue}
use Rattle.std.proofs.lemmas.Option.{same_Some, slice_get-get_or}
use mathlib.Core.List.{reverse_aux}
use Rattle.mj_model.specs.Connection.{is_pair}
use Rattle.mj_model.specs.declared.word.Word.{Word}
use Rattle.mj_model.specs.ReversedChains.{IsChainTo, last_right}
use Rattle.mj_model.specs.Searchable.{MayFollow}
use Rattle.mj_model.specs.Words.{words}
use Rattle.mj_model.proofs.ReversedChainLemmas.{chain_reversed}
use Rattle.word_lookup.proofs.DictionaryLaws.{searchable}
use Rattle.lattice_view.specs.WhyPrinter.ExplainedLines.{IsExplained, best_of_line, overlay_of_line}
use Rattle.lattice_view.specs.declared.why_printer.explained_line.ExplainedLine.{ExplainedLine}

-- ---- the right id of the last word

right_onto : (ws vs : List Word) (i : ℕ) (w : Word) → i + 1 ≡ length ws → slice_get ws i ≡ Some w → w.right ≡ last_right (reverse_aux ws vs)
right_onto [] vs i w last at = absurd (cc)
right_onto (u ∷ []) vs zero w last at = ap (λ (x : Word). x.right) (sym (same_Some u w at))
right_onto (u ∷ []) vs (suc i) w last at = absurd (cc)
right_onto (u ∷ v ∷ ws) vs zero w last at = absurd (omega (arith, last))
right_onto (u ∷ v ∷ ws) vs (suc i) w last at = right_onto (v ∷ ws) (u ∷ vs) i w (omega (arith, last)) at

within_first : (ws : List Word) (w : Word) → slice_get ws (length ws - 1) ≡ Some w → (length ws - 1) + 1 ≡ length ws
within_first [] w at = absurd (cc)
within_first (u ∷ ws) w at = omega arith

pub right_of_last : (ws : List Word) (w : Word) → slice_get ws (length ws - 1) ≡ Some w → w.right ≡ last_right (reverse ws)
right_of_last ws w at = right_onto ws [] (length ws - 1) w (within_first ws w at) at

pub right_of_none : (ws : List Word) → slice_get ws (length ws - 1) ≡ None → 0 ≡ last_right (reverse ws)
right_of_none [] none = refl
right_of_none (u ∷ ws) none =
    let last = length (u ∷ ws) - 1 in
    let clash : ◌≡◌ {A = Option Word} None (Some (get_or (u ∷ ws) last u)) = sym none ∙ slice_get-get_or (u ∷ ws) last u (omega arith) in absurd (cc)

-- ---- EOS may follow it

eos_after : (Pair : ℕ → ℕ → Type 0) (words_at : ℕ → List Word) → MayFollow Pair words_at 0 → (us : List Word) (to : ℕ) → IsChainTo words_at us to → Pair (last_right us) 0
eos_after Pair words_at may [] to chain = may.after_bos
eos_after Pair words_at may (u ∷ us) to chain = may.after_word u.place u chain.1

pub eos_may_follow : (l : ExplainedLine) (right : ℕ) → IsExplained l → right ≡ last_right (reverse (best_of_line l)) → IsTrue (is_pair (overlay_of_line l).system.sizes right 0)
eos_may_follow l right cut is =
    let o = overlay_of_line l in
    let s = searchable l.dictionaries.now l.text.now cut.good.1 cut.good.0 in
    let back = chain_reversed (words o l.text.now) o.system.connection (length l.text.now) s.source.are (best_of_line l) cut.best.to cut.best.path.chain in
    subst (λ (r : ℕ). IsTrue (is_pair o.system.sizes r 0)) (sym is)
    (eos_after (λ right left. IsTrue (is_pair o.system.sizes right left)) (words o l.text.now) s.eos_follows (reverse (best_of_line l)) cut.best.to back)
