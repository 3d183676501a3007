-- Entries that fit a template, and the rows of the pairs of ids.
use Rattle.std.proofs.Common.{◌≡◌, ℕ, ◌+◌, ◌<◌, List, [], ◌∷◌, ◌++◌, length, get_or, take, drop, refl, sym, ap, ◌∙◌, subst, arith, Some, inl, inr, append_assoc, add-one}
use Rattle.std.proofs.Math.Seq.{take-suc}
use Rattle.std.proofs.lemmas.List.{append-nil, length-append, take-append-drop}
use Rattle.std.proofs.lemmas.Int.{to_z-of_z}
use mir.Syntax.{w16}
use mir.Val.{SFits, of_z, to_z}
use Rattle.std.specs.Prelude.{slice_get}
use Rattle.dict_image.specs.declared.entry_ref.EntryRef.{EntryRef}
use Rattle.dict_image.specs.declared.ids_and_cost.IdsAndCost.{IdsAndCost}
use Rattle.dictc_lib.specs.Templates.{Fits}
use Rattle.dictc_lib.specs.PairRows.{AddsFitting, AreFitting, AreRows, StartsOtherPair, HasCostAt, IsFirstRow, IsRowOf, ids_of}
use Rattle.dictc_lib.specs.declared.ids.pair_row.PairRow.{PairRow}

-- one more entry, which fits
fitting_and : (template : List (List ℕ)) (entries : List EntryRef) (fitting : List IdsAndCost) (entry : EntryRef)
    → AreFitting template entries fitting → Fits template entry.feature.now → AreFitting template (entries ++ entry ∷ []) (fitting ++ ids_of entry ∷ [])
fitting_and template [] fitting entry are fits = inl (fits, [], ap (λ (xs : List IdsAndCost). xs ++ ids_of entry ∷ []) are, refl)
fitting_and template (e ∷ es) fitting entry (inl (first, rest, is, are)) fits =
    inl (first, rest ++ ids_of entry ∷ [], ap (λ (xs : List IdsAndCost). xs ++ ids_of entry ∷ []) is, fitting_and template es rest entry are fits)
fitting_and template (e ∷ es) fitting entry (inr (not, are)) fits = inr (not, fitting_and template es fitting entry are fits)

-- one more entry, which does not fit
fitting_but : (template : List (List ℕ)) (entries : List EntryRef) (fitting : List IdsAndCost) (entry : EntryRef)
    → AreFitting template entries fitting → (Fits template entry.feature.now → ⊥) → AreFitting template (entries ++ entry ∷ []) fitting
fitting_but template [] fitting entry are fits = inr (fits, are)
fitting_but template (e ∷ es) fitting entry (inl (first, rest, is, are)) fits = inl (first, rest, is, fitting_but template es rest entry are fits)
fitting_but template (e ∷ es) fitting entry (inr (not, are)) fits = inr (not, fitting_but template es fitting entry are fits)

pub fitting_more : (template : List (List ℕ)) (entries : List EntryRef) (old new : List IdsAndCost) (entry : EntryRef)
    → AreFitting template entries old → AddsFitting template entry old new → AreFitting template (entries ++ entry ∷ []) new
fitting_more template entries old new entry are (inl (fits, is)) =
    subst (λ (xs : List IdsAndCost). AreFitting template (entries ++ entry ∷ []) xs) (sym is) (fitting_and template entries old entry are fits)
fitting_more template entries old new entry are (inr (not, is)) =
    subst (λ (xs : List IdsAndCost). AreFitting template (entries ++ entry ∷ []) xs) (sym is) (fitting_but template entries old entry are not)

-- the entries up to index `i + 1` that fit
pub fitting_step : (template : List (List ℕ)) (entries : List EntryRef) (i : ℕ) (d : EntryRef) (old new : List IdsAndCost)
    → i < length entries → AreFitting template (take i entries) old → AddsFitting template (get_or entries i d) old new → AreFitting template (take (i + 1) entries) new
fitting_step template entries i d old new within are adds =
    let longer : take (i + 1) entries ≡ take i entries ++ get_or entries i d ∷ [] = ap (λ (k : ℕ). take k entries) (add-one i) ∙ take-suc entries i d within in
    subst (λ (xs : List EntryRef). AreFitting template xs new) (sym longer) (fitting_more template (take i entries) old new (get_or entries i d) are adds)

-- ---- rows

-- the cost at index `i`
pub cost_at : (entries : List IdsAndCost) (i : ℕ) (entry : IdsAndCost) → slice_get entries i ≡ Some entry → SFits w16 entry.cost
    → HasCostAt entries i (to_z w16 (of_z w16 entry.cost))
cost_at entries i entry there fits = (entry, there, sym (to_z-of_z w16 entry.cost fits))

-- the entries after those of the first pair are fewer
pub after_shorter : (entries rest : List IdsAndCost) (row : PairRow) → IsFirstRow entries row rest → length rest < length entries
after_shorter entries rest row first =
    let long : length entries ≡ length first.0 + length rest = ap length first.1 ∙ length-append first.0 rest in
    omega (arith, long, first.2)

-- the rows of the entries after those of one pair follow the row of that pair
pub row_more : (all entries rest : List IdsAndCost) (rows : List PairRow) (row : PairRow) → IsFirstRow entries row rest
    → ((more : List PairRow) → AreRows entries more → AreRows all (rows ++ more)) → (more : List PairRow) → AreRows rest more → AreRows all ((rows ++ row ∷ []) ++ more)
row_more all entries rest rows row first before more are =
    subst (λ (xs : List PairRow). AreRows all xs) (sym (append_assoc rows (row ∷ []) more)) (before (row ∷ more) (rest, first, are))

-- at the end no rows follow
pub rows_end : (all rest : List IdsAndCost) (rows : List PairRow) → rest ≡ [] → ((more : List PairRow) → AreRows rest more → AreRows all (rows ++ more)) → AreRows all rows
rows_end all rest rows none before = subst (λ (xs : List PairRow). AreRows all xs) (append-nil rows) (before [] none)

-- the entries of the first pair and those after them are all entries
pub first_row : (entries : List IdsAndCost) (count : ℕ) (row : PairRow) → 0 < length (take count entries) → IsRowOf (take count entries) row
    → StartsOtherPair entries (drop count entries) → IsFirstRow entries row (drop count entries)
first_row entries count row some is other = (take count entries, sym (take-append-drop count entries), some, is, other)

pub no_more : (xs : List IdsAndCost) → length xs ≡ 0 → xs ≡ []
no_more [] none = refl
no_more (x ∷ xs) none = absurd (omega (arith, none))
