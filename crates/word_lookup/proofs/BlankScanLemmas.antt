-- Within a run of blanks each character shares a category with the one before. So the blanks at a
-- position inside it, if there are any, end at the end of the run.
use Rattle.std.proofs.Common.{◌≡◌, ℕ, suc, ◌+◌, ◌<◌, ◌≤◌, Bool, true, false, cond, List, [], ◌∷◌, ◌++◌, length, drop, inl, inr, refl, sym, ap, ◌∙◌, arith}
use Rattle.std.specs.Prelude.{IsTrue, chars, nat_lt, Some}
use Rattle.std.proofs.lemmas.Bool.{cases_lt, lt-ltb, ltb-false, ltb-true}
use Rattle.std.proofs.lemmas.Option.{same_Some}
use Rattle.mj_model.specs.declared.category.CharInfo.{CharInfo}
use Rattle.mj_model.specs.Categories.{shares}
use Rattle.mj_model.specs.Tables.{Overlay}
use Rattle.mj_model.specs.Blanks.{chars_from, skip, space}
use Rattle.mj_model.specs.Run.{bytes_of, run}
use Rattle.mj_model.specs.Words.{is_place}
use Rattle.word_lookup.specs.declared.blank_scan.BlankScan.{BlankScan}
use Rattle.word_lookup.specs.BlankScans.{IsBlankScan, starts_with_blank}
use Rattle.word_lookup.specs.FirstCharacters.{first_in}
use Rattle.word_lookup.specs.declared.first_character.FirstCharacter.{FirstCharacter}
use Rattle.word_lookup.proofs.PlaceLemmas.{IsParted, parted}
use Rattle.word_lookup.proofs.RunLemmas.{bytes_before, bytes_through, goes_on, run_through}

-- ---- blanks in a run

-- if the characters from the position on start with `c`
inside : (o : Overlay) (text : List ℕ) (from to place c : ℕ) (cs : List ℕ) (parts : IsParted text from place) → to ≡ skip o text from → from ≤ place → place < to → chars (drop place text) ≡ c ∷ cs
    → 0 < run o.system.info (o.system.info space) (c ∷ cs) → place + bytes_of (run o.system.info (o.system.info space) (c ∷ cs)) (c ∷ cs) ≡ to
inside o text from to place c cs parts ends low less first some =
    let info = o.system.info in
    let entry = info space in
    let xs = parts.before in
    let all = run info entry (xs ++ c ∷ cs) in
    let is : chars (drop from text) ≡ xs ++ c ∷ cs = parts.chars_are ∙ ap (λ (ys : List ℕ). xs ++ ys) first in
    let to_is : to ≡ from + bytes_of all (xs ++ c ∷ cs) = ends ∙ ap (λ (ys : List ℕ). from + bytes_of (run info entry ys) ys) is in
    let width = parts.bytes in
    let past : length xs < all = elim (cases_lt (length xs) all) [
      | inl past ↦ past
      | inr short ↦ let few = bytes_before all xs (c ∷ cs) short in absurd (omega (arith, few, to_is, width, low, less))
    ] in
    let rest = suc (run info (info c) cs) in
    let whole = ap (λ (n : ℕ). bytes_of n (xs ++ c ∷ cs)) (run_through info entry xs c cs past) in
    let through = bytes_through xs (c ∷ cs) rest in
    let here = ap (λ (n : ℕ). bytes_of n (c ∷ cs)) (goes_on info entry c cs some) in
    omega (arith, to_is, whole, through, here, width, low)

inside_by : (o : Overlay) (text : List ℕ) (from to place : ℕ) (cs : List ℕ) (parts : IsParted text from place) → to ≡ skip o text from → from ≤ place → place < to → chars (drop place text) ≡ cs
    → 0 < run o.system.info (o.system.info space) cs → place + bytes_of (run o.system.info (o.system.info space) cs) cs ≡ to
inside_by o text from to place [] parts ends low less first some = absurd (omega (arith, some))
inside_by o text from to place (c ∷ cs) parts ends low less first some = inside o text from to place c cs parts ends low less first some

-- ---- the first character

after_lead_byte : (n : ℕ) (b : Bool) → b ≡ nat_lt 0 (cond b (suc n) 0)
after_lead_byte n true = sym (lt-ltb 0 (suc n) (omega arith))
after_lead_byte n false = refl

begins_by_first : (o : Overlay) (cs : List ℕ) (entry : CharInfo) (f : FirstCharacter) → Some f ≡ first_in o.system.info cs → entry ≡ o.system.info space
    → shares entry f.info ≡ nat_lt 0 (run o.system.info (o.system.info space) cs)
begins_by_first o [] entry f found is = absurd (cc)
begins_by_first o (c ∷ cs) entry f found is =
    let info = o.system.info in
    ap (λ (g : FirstCharacter). shares entry g.info) (same_Some _ _ found) ∙ ap (λ (e : CharInfo). shares e (info c)) is ∙ after_lead_byte (run info (info c) cs) (shares (info space) (info c))

-- it shares a category with U+0020, or not
pub begins_by_found : (o : Overlay) (text : List ℕ) (entry : CharInfo) (f : FirstCharacter) → Some f ≡ first_in o.system.info (chars text) → entry ≡ o.system.info space
    → shares entry f.info ≡ starts_with_blank o text
begins_by_found o text entry f found is = begins_by_first o (chars text) entry f found is

pub begins_empty : (o : Overlay) (text : List ℕ) → chars text ≡ [] → false ≡ starts_with_blank o text
begins_empty o text none = ap (λ (cs : List ℕ). nat_lt 0 (run o.system.info (o.system.info space) cs)) (sym none)

pub blanks_inside : (o : Overlay) (text rest : List ℕ) (r : BlankScan) (place : ℕ) → IsBlankScan o text r → IsTrue (is_place text place) → r.from ≤ place → place < r.to
    → rest ≡ drop place text → starts_with_blank o rest ≡ true → r.to ≡ skip o text place
blanks_inside o text rest r place is there low less at begins =
    let some = ltb-true 0 (run o.system.info (o.system.info space) (chars_from text place)) (ap (starts_with_blank o) (sym at) ∙ begins) in
    sym (inside_by o text r.from r.to place (chars_from text place) (parted text r.from place is.begins there low) is.ends low less refl some)

pub no_blanks : (o : Overlay) (text rest : List ℕ) (place : ℕ) → rest ≡ drop place text → starts_with_blank o rest ≡ false → place ≡ skip o text place
no_blanks o text rest place at begins =
    let none = ltb-false 0 (run o.system.info (o.system.info space) (chars_from text place)) (ap (starts_with_blank o) (sym at) ∙ begins) in
    let empty : run o.system.info (o.system.info space) (chars_from text place) ≡ 0 = omega (arith, none) in
    let width = ap (λ (k : ℕ). bytes_of k (chars_from text place)) empty in
    omega (arith, width)

-- there are no blanks at the end of the text
pub no_blanks_left : (o : Overlay) (text : List ℕ) (place : ℕ) → chars_from text place ≡ [] → place ≡ skip o text place
no_blanks_left o text place none = no_blanks o text (drop place text) place refl (sym (begins_empty o (drop place text) none))
