-- Steps laid over others. Up to a code point the new steps have the right categories. From it on,
-- the remainder of either list gives the categories of the whole list, and the new steps give those
-- before both.
use Rattle.std.proofs.Common.{◌≡◌, ℕ, ◌+◌, ◌<◌, ◌≤◌, cond, List, [], ◌∷◌, ◌++◌, refl, sym, ◌∙◌, ap, subst, arith, Option, None, inl, inr}
use Rattle.std.specs.Prelude.{nat_lt}
use Rattle.std.specs.Option.{option_or}
use Rattle.std.proofs.lemmas.Bool.{lt-ltb, le-ltb, cases_lt, cond-true, cond-false}
use Rattle.mj_model.specs.declared.category.CharInfo.{CharInfo}
use Rattle.char_def.specs.declared.overlay.CategoryStep.{CategoryStep}
use Rattle.char_def.specs.Steps.{info_from, info_by, AreRising}

-- before the first step the categories are `before`
pub before_steps : (before : Option CharInfo) (from code : ℕ) (steps : List CategoryStep) → AreRising from steps → code < from → info_from before steps code ≡ before
before_steps before from code [] rise low = refl
before_steps before from code (s ∷ ss) rise low = cond-true (nat_lt code s.first) before (info_from s.info ss code) (lt-ltb code s.first (omega (arith, rise.0)))

-- all steps start before this code point
abbrev pub EndBefore : ℕ → List CategoryStep → Type 0
EndBefore end [] = Unit {0}
EndBefore end (s ∷ ss) = (s.first < end) × EndBefore end ss

pub end_later : (end later : ℕ) (steps : List CategoryStep) → end ≤ later → EndBefore end steps → EndBefore later steps
end_later end later [] h e = tt
end_later end later (s ∷ ss) h e = (omega (arith, e.0), end_later end later ss h e.1)

pub end-append : (end : ℕ) (steps : List CategoryStep) (s : CategoryStep) → EndBefore end steps → s.first < end → EndBefore end (steps ++ s ∷ [])
end-append end [] s e h = (h, tt)
end-append end (x ∷ xs) s e h = (e.0, end-append end xs s e.1 h)

pub rising-append : (from : ℕ) (steps : List CategoryStep) (s : CategoryStep) → AreRising from steps → EndBefore s.first steps → from ≤ s.first → AreRising from (steps ++ s ∷ [])
rising-append from [] s rise e h = (h, tt)
rising-append from (x ∷ xs) s rise e h = (rise.0, rising-append (x.first + 1) xs s rise.1 e.1 (omega (arith, e.0)))

-- one more step does not apply to the code points before it
pub info_below : (before : Option CharInfo) (steps : List CategoryStep) (s : CategoryStep) (code : ℕ) → code < s.first → info_from before (steps ++ s ∷ []) code ≡ info_from before steps code
info_below before [] s code h = cond-true (nat_lt code s.first) before s.info (lt-ltb code s.first h)
info_below before (x ∷ xs) s code h = ap (λ (o : Option CharInfo). cond (nat_lt code x.first) before o) (info_below x.info xs s code h)

-- one more step applies to all code points from it on
pub info_above : (before : Option CharInfo) (steps : List CategoryStep) (s : CategoryStep) (code : ℕ) → EndBefore s.first steps → s.first ≤ code → info_from before (steps ++ s ∷ []) code ≡ s.info
info_above before [] s code e h = cond-false (nat_lt code s.first) before s.info (le-ltb code s.first h)
info_above before (x ∷ xs) s code e h =
    cond-false (nat_lt code x.first) before (info_from x.info (xs ++ s ∷ []) code) (le-ltb code x.first (omega (arith, e.0))) ∙ info_above x.info xs s code e.1 h

pub record AreLaid (below above steps : List CategoryStep) (low : Option CharInfo) (lows : List CategoryStep) (up : Option CharInfo) (ups : List CategoryStep) : Type 0 where
  pub from : ℕ
  pub done : (code : ℕ) → code < from → info_by steps code ≡ option_or (info_by above code) (info_by below code)
  pub lower : (code : ℕ) → from ≤ code → info_by below code ≡ info_from low lows code
  pub upper : (code : ℕ) → from ≤ code → info_by above code ≡ info_from up ups code
  pub here : (code : ℕ) → from ≤ code → info_by steps code ≡ option_or up low
  pub lows_rise : AreRising from lows
  pub ups_rise : AreRising from ups
  pub end : EndBefore from steps
  pub rising : AreRising 0 steps

-- the categories of both lists, from their remainders
both : (below above steps : List CategoryStep) (low : Option CharInfo) (lows : List CategoryStep) (up : Option CharInfo) (ups : List CategoryStep) (l : AreLaid below above steps low lows up ups)
    → (code : ℕ) → l.from ≤ code → option_or (info_by above code) (info_by below code) ≡ option_or (info_from up ups code) (info_from low lows code)
both below above steps low lows up ups l code h =
    ap (λ (o : Option CharInfo). option_or o (info_by below code)) (l.upper code h) ∙ ap (λ (o : Option CharInfo). option_or (info_from up ups code) o) (l.lower code h)

pub laid_more : (below above steps new : List CategoryStep) (low : Option CharInfo) (lows : List CategoryStep) (up : Option CharInfo) (ups : List CategoryStep)
    → (first : ℕ) (low' : Option CharInfo) (lows' : List CategoryStep) (up' : Option CharInfo) (ups' : List CategoryStep)
    → AreLaid below above steps low lows up ups
    → ((from : ℕ) → AreRising from lows → AreRising from ups → (from ≤ first) × AreRising first lows × AreRising first ups)
    → ((code : ℕ) → first ≤ code → info_from low lows code ≡ info_from low' lows' code) → AreRising (first + 1) lows'
    → ((code : ℕ) → first ≤ code → info_from up ups code ≡ info_from up' ups' code) → AreRising (first + 1) ups'
    → new ≡ steps ++ record { first = first; info = option_or up' low' } ∷ [] → AreLaid below above new low' lows' up' ups'
laid_more below above steps new low lows up ups first low' lows' up' ups' l next low_same low_rise up_same up_rise is =
    let n = next l.from l.lows_rise l.ups_rise in
    let at : l.from ≤ first = n.0 in
    let s : CategoryStep = record { first = first; info = option_or up' low' } in
    let new_is : (code : ℕ) → info_by new code ≡ info_by (steps ++ s ∷ []) code = λ code. ap (λ (xs : List CategoryStep). info_by xs code) is in
    let ends : EndBefore first steps = end_later l.from first steps at l.end in
    let done : (code : ℕ) → code < first + 1 → info_by new code ≡ option_or (info_by above code) (info_by below code) = λ code h. new_is code ∙ elim (cases_lt code first) [
      | inl before ↦ info_below None steps s code before ∙ elim (cases_lt code l.from) [
        | inl old ↦ l.done code old
        | inr fresh ↦
            l.here code fresh ∙ sym (both below above steps low lows up ups l code fresh
            ∙ ap (λ (o : Option CharInfo). option_or o (info_from low lows code)) (before_steps up first code ups n.2 before)
            ∙ ap (λ (o : Option CharInfo). option_or up o) (before_steps low first code lows n.1 before))
      ]
      | inr following ↦
          let fresh : l.from ≤ code = omega arith in
          info_above None steps s code ends following ∙ sym (both below above steps low lows up ups l code fresh
          ∙ ap (λ (o : Option CharInfo). option_or o (info_from low lows code)) (up_same code following ∙ before_steps up' (first + 1) code ups' up_rise h)
          ∙ ap (λ (o : Option CharInfo). option_or up' o) (low_same code following ∙ before_steps low' (first + 1) code lows' low_rise h))
    ] in
    record {
      from = first + 1;
      done = done;
      lower = λ code h. l.lower code (omega arith) ∙ low_same code (omega arith);
      upper = λ code h. l.upper code (omega arith) ∙ up_same code (omega arith);
      here = λ code h. new_is code ∙ info_above None steps s code ends (omega arith);
      lows_rise = low_rise;
      ups_rise = up_rise;
      end = subst (λ (xs : List CategoryStep). EndBefore (first + 1) xs) (sym is) (end-append (first + 1) steps s (end_later first (first + 1) steps (omega arith) ends) (omega arith));
      rising = subst (λ (xs : List CategoryStep). AreRising 0 xs) (sym is) (rising-append 0 steps s l.rising ends (omega arith));
    }
