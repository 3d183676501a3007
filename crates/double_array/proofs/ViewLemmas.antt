-- Cells after a write, and their views.
use Rattle.std.proofs.Common.{◌≡◌, ◌≢◌, ℕ, zero, suc, ◌<◌, ℤ, pos, negsuc, neg_ℤ, List, [], ◌∷◌, length, set, map, inl, inr, sym, ap, ◌∙◌, refl, arith}
use Rattle.std.proofs.lemmas.Bool.{cases_eq}
use Rattle.std.proofs.lemmas.List.{get_or-set_same, get_or-set_other, length-set, length-map, ext_get_or}
use Rattle.mj_model.specs.CellMap.{Cell, free_cell, cell_at, base, check}
use Rattle.double_array.specs.Views.{cell_view, hide, cell_views}

pub at_same : (cells : List Cell) (i : ℕ) (x : Cell) → i < length cells → cell_at (set cells i x) i ≡ x
at_same cells i x within = get_or-set_same cells i x free_cell within

pub at_other : (cells : List Cell) (i j : ℕ) (x : Cell) → j ≢ i → cell_at (set cells i x) j ≡ cell_at cells j
at_other cells i j x other = get_or-set_other cells i j x free_cell other

-- ---- the view of a cell

pub length-seen : (cells : List Cell) → length (cell_views cells) ≡ length cells
unfolding cell_views
length-seen [] = refl
length-seen (root ∷ rest) = ap suc (length-map rest hide)

pub seen_root : (cells : List Cell) → cell_at (cell_views cells) 0 ≡ cell_at cells 0
unfolding cell_views
seen_root [] = refl
seen_root (root ∷ rest) = refl

mapped : (cells : List Cell) (i : ℕ) → cell_at (map hide cells) i ≡ hide (cell_at cells i)
mapped [] i = refl
mapped (x ∷ xs) zero = refl
mapped (x ∷ xs) (suc i) = mapped xs i

pub seen_at : (cells : List Cell) (i : ℕ) → 0 < i → cell_at (cell_views cells) i ≡ hide (cell_at cells i)
unfolding cell_views
seen_at cells zero above = absurd (omega (arith, above))
seen_at [] (suc i) above = refl
seen_at (root ∷ rest) (suc i) above = mapped rest i

hidden_below : (b : ℤ) (p : ℕ) → 0 < p → cell_view b (neg_ℤ (pos p)) ≡ free_cell
hidden_below b zero above = absurd (omega (arith, above))
hidden_below b (suc p) above = refl

-- the view of a cell with a negative check is a free cell
pub seen_free : (cells : List Cell) (i p : ℕ) → 0 < i → 0 < p → check cells i ≡ neg_ℤ (pos p) → cell_at (cell_views cells) i ≡ free_cell
seen_free cells i p above some at = seen_at cells i above ∙ ap (cell_view (base cells i)) at ∙ hidden_below (base cells i) p some

hidden_used : (b k : ℤ) (s : ℕ) → (cell_view b k).1 ≡ pos s → (b, k) ≡ cell_view b k
hidden_used b (pos k) s h = refl
hidden_used b (negsuc p) s h = absurd (cc)

-- a view with a state as check is the cell itself
pub used_seen : (cells : List Cell) (i s : ℕ) → check (cell_views cells) i ≡ pos s → 0 < i → cell_at cells i ≡ cell_at (cell_views cells) i
used_seen cells i s named above =
    let e = seen_at cells i above in hidden_used (base cells i) (check cells i) s (sym (ap (λ (x : Cell). x.1) e) ∙ named) ∙ sym e

-- ---- views after a change

-- all views but one are unchanged, and that one is new
pub seen_set : (old new : List Cell) (i : ℕ) (x : Cell) → length new ≡ length old → i < length old → cell_at (cell_views new) i ≡ x → ((j : ℕ) → j ≢ i → cell_at (cell_views new) j ≡ cell_at (cell_views old) j) → cell_views new ≡ set (cell_views old) i x
seen_set old new i x same within at others =
    ext_get_or free_cell (cell_views new) (set (cell_views old) i x) (length-seen new ∙ same ∙ sym (length-seen old) ∙ sym (length-set (cell_views old) i x))
    (λ j less. elim (cases_eq j i) [
      | inl e ↦ ap (cell_at (cell_views new)) e ∙ at ∙ sym (at_same (cell_views old) i x (let l = length-seen old in omega (arith, l, within))) ∙ ap (cell_at (set (cell_views old) i x)) (sym e)
      | inr other ↦ others j other ∙ sym (at_other (cell_views old) i j x other)
    ])
