-- The ranges of steps: each step that changes the categories starts one. The steps are processed in
-- their order, and the categories of code point 0 apply before all of them.
use Rattle.std.proofs.Common.{◌≡◌, ℕ, zero, suc, ◌+◌, ◌-◌, ◌<◌, ◌≤◌, cond, List, [], ◌∷◌, ◌++◌, length, get_or, reverse, refl, sym, ◌∙◌, ap, subst, arith, Option, Some, None, ◌⊎◌, inl, inr, length-append, take, take_all}
use Rattle.std.specs.Prelude.{◌≢◌, nat_lt, nat_le, find}
use Rattle.std.specs.Option.{option_map_or, unwrap_or}
use Rattle.std.proofs.Math.Seq.{get_or-append_seam}
use Rattle.std.proofs.lemmas.Bool.{lt-ltb, le-ltb, le-leb, lt-leb, cases_lt, cases_eq, cond-true, cond-false}
use Rattle.std.proofs.lemmas.List.{get_or_append_left, reverse-append, take_more}
use Rattle.mj_model.specs.declared.category.CharInfo.{CharInfo}
use Rattle.mj_model.specs.CharDef.{NamedCategory, code_point_max}
use Rattle.char_def.specs.declared.info_range.CategoryRange.{CategoryRange}
use Rattle.char_def.specs.declared.overlay.CategoryStep.{CategoryStep}
use Rattle.char_def.specs.Categories.{CharCategories, default_info, info_or, table_info}
use Rattle.char_def.specs.InfoRanges.{AreRangesOf, no_range, range_by, last_info, info_in}
use Rattle.char_def.specs.Steps.{info_from, info_by, AreRising}
use Rattle.char_def.proofs.CoverageLemmas.{from_on}
use Rattle.char_def.proofs.OverlayLemmas.{EndBefore, before_steps, end_later, info_above, info_below}

-- ---- ranges with one more

info_of : Option CategoryRange → CharInfo
info_of found = option_map_or (λ (range : CategoryRange). range.info) found no_range.info

info_in-append : (ranges : List CategoryRange) (r : CategoryRange) (code : ℕ) → info_in (ranges ++ r ∷ []) code ≡ info_of (cond (nat_le r.first code) (Some r) (find (λ (range : CategoryRange). nat_le range.first code) (reverse ranges)))
unfolding info_of
info_in-append ranges r code = ap (λ (l : List CategoryRange). info_of (find (λ (range : CategoryRange). nat_le range.first code) l)) (reverse-append ranges (r ∷ []))

info_before : (ranges : List CategoryRange) (r : CategoryRange) (code : ℕ) → code < r.first → info_in (ranges ++ r ∷ []) code ≡ info_in ranges code
unfolding info_of
info_before ranges r code h =
    let others = find (λ (range : CategoryRange). nat_le range.first code) (reverse ranges) in
    info_in-append ranges r code ∙ ap info_of (cond-false (nat_le r.first code) (Some r) others (lt-leb r.first code h))

info_after : (ranges : List CategoryRange) (r : CategoryRange) (code : ℕ) → r.first ≤ code → info_in (ranges ++ r ∷ []) code ≡ r.info
unfolding info_of
info_after ranges r code h =
    let others = find (λ (range : CategoryRange). nat_le range.first code) (reverse ranges) in
    info_in-append ranges r code ∙ ap info_of (cond-true (nat_le r.first code) (Some r) others (le-leb r.first code h))

-- the last range
abbrev last : List CategoryRange → CategoryRange
last ranges = range_by ranges (length ranges - 1)

last-append : (ranges : List CategoryRange) (r : CategoryRange) → last (ranges ++ r ∷ []) ≡ r
last-append ranges r =
    let n : length (ranges ++ r ∷ []) - 1 ≡ length ranges = omega (arith, length-append ranges (r ∷ [])) in
    ap (λ (k : ℕ). range_by (ranges ++ r ∷ []) k) n ∙ get_or-append_seam ranges r [] no_range

-- tables with equal categories have equal ranges
ranges_same : (a b : CharCategories) (ranges : List CategoryRange) → ((code : ℕ) → code ≤ code_point_max → table_info a code ≡ table_info b code) → AreRangesOf a ranges → AreRangesOf b ranges
ranges_same a b ranges same are = record {
  some = are.some;
  from_zero = are.from_zero;
  rising = are.rising;
  changing = are.changing;
  within = are.within;
  starts = λ i h. are.starts i h ∙ same (range_by ranges i).first (are.within i h);
  infos = λ code h. are.infos code h ∙ same code h;
}

in_order : (a : CharCategories) (ranges : List CategoryRange) (i j : ℕ) → AreRangesOf a ranges → i ≤ j → j < length ranges → (range_by ranges i).first ≤ (range_by ranges j).first
in_order a ranges i zero are le in' = let e : i ≡ 0 = omega (arith, le) in rw e (omega arith)
in_order a ranges i (suc j) are le in' = elim (cases_lt j i) [
  | inl same ↦ let e : i ≡ suc j = omega (arith, same, le) in rw e (omega arith)
  | inr before ↦ let h = in_order a ranges i j are before (omega (arith, in')) in let step = are.rising j in' in omega (arith, h, step)
]

-- a table with the categories of `a` up to a code point, and other ones from it on, has one more
-- range
ranges_more : (a b : CharCategories) (ranges : List CategoryRange) (r : CategoryRange) → AreRangesOf a ranges → (last ranges).first < r.first → r.first ≤ code_point_max → last_info ranges ≢ r.info
    → ((code : ℕ) → code < r.first → table_info b code ≡ table_info a code) → ((code : ℕ) → r.first ≤ code → table_info b code ≡ r.info) → AreRangesOf b (ranges ++ r ∷ [])
ranges_more a b ranges r are later within new before after =
    let all = ranges ++ r ∷ [] in
    let n : length all ≡ length ranges + 1 = length-append ranges (r ∷ []) in
    let old : (i : ℕ) → i < length ranges → range_by all i ≡ range_by ranges i = λ i low. get_or_append_left ranges (r ∷ []) no_range i low in
    let final : (i : ℕ) → i ≡ length ranges → range_by all i ≡ r = λ i e. ap (λ (k : ℕ). range_by all k) e ∙ get_or-append_seam ranges r [] no_range in
    let seam : (i : ℕ) → suc i ≡ length ranges → range_by ranges i ≡ last ranges = λ i e. ap (λ (k : ℕ). range_by ranges k) (let h : i ≡ length ranges - 1 = omega (arith, e) in h) in
    record {
      some = omega (arith, n);
      from_zero = ap (λ (x : CategoryRange). x.first) (old 0 are.some) ∙ are.from_zero;
      rising = λ i h. elim (cases_lt (suc i) (length ranges)) [
        | inl low ↦ rw (old i (omega arith), old (suc i) low) (are.rising i low)
        | inr high ↦ let e : suc i ≡ length ranges = omega (arith, n) in rw (old i (omega arith), seam i e, final (suc i) e) later
      ];
      changing = λ i h. elim (cases_lt (suc i) (length ranges)) [
        | inl low ↦ rw (old i (omega arith), old (suc i) low) (are.changing i low)
        | inr high ↦ let e : suc i ≡ length ranges = omega (arith, n) in rw (old i (omega arith), seam i e, final (suc i) e) new
      ];
      within = λ i h. elim (cases_lt i (length ranges)) [
        | inl low ↦ rw (old i low) (are.within i low)
        | inr high ↦ rw (final i (omega (arith, n))) within
      ];
      starts = λ i h. elim (cases_lt i (length ranges)) [
        | inl low ↦
            let h = in_order a ranges i (length ranges - 1) are (omega (arith, low)) (omega (arith, low)) in
            rw (old i low) (are.starts i low ∙ sym (before (range_by ranges i).first (omega (arith, h, later))))
        | inr high ↦ rw (final i (omega (arith, n))) (sym (after r.first (omega arith)))
      ];
      infos = λ code h. elim (cases_lt code r.first) [
        | inl low ↦ info_before ranges r code low ∙ are.infos code h ∙ sym (before code low)
        | inr high ↦ info_after ranges r code high ∙ sym (after code high)
      ];
    }

-- ---- the processed steps

-- the table of some steps, with `before` applying before them
abbrev so_far : List NamedCategory → Option CharInfo → List CategoryStep → CharCategories
so_far categories before steps = record { categories = categories; steps = let s : CategoryStep = record { first = 0; info = before } in s ∷ steps }

-- the ranges of these steps; the last of them applies after all the steps
pub record AreStarted (categories : List NamedCategory) (before : Option CharInfo) (steps : List CategoryStep) (ranges : List CategoryRange) : Type 0 where
  pub formed : AreRangesOf (so_far categories before steps) ranges
  pub held : (code : ℕ) → code ≤ code_point_max → EndBefore (code + 1) steps → table_info (so_far categories before steps) code ≡ last_info ranges
  pub ends : (end : ℕ) → 1 ≤ end → EndBefore end steps → (last ranges).first < end

info_so_far : (categories : List NamedCategory) (before : Option CharInfo) (steps : List CategoryStep) (code : ℕ) → table_info (so_far categories before steps) code ≡ info_or (default_info categories) (info_from before steps code)
info_so_far categories before steps code = ap (info_or (default_info categories)) (cond-false (nat_lt code 0) None (info_from before steps code) (le-ltb code 0 (omega arith)))

-- one more step, which applies to all code points from it on, and to none before it
stated_before : (categories : List NamedCategory) (before : Option CharInfo) (steps : List CategoryStep) (s : CategoryStep) (code : ℕ) → code < s.first
    → table_info (so_far categories before (steps ++ s ∷ [])) code ≡ table_info (so_far categories before steps) code
stated_before categories before steps s code h =
    info_so_far categories before (steps ++ s ∷ []) code ∙ ap (info_or (default_info categories)) (info_below before steps s code h) ∙ sym (info_so_far categories before steps code)

stated_after : (categories : List NamedCategory) (before : Option CharInfo) (steps : List CategoryStep) (s : CategoryStep) (code : ℕ) → EndBefore s.first steps → s.first ≤ code
    → table_info (so_far categories before (steps ++ s ∷ [])) code ≡ info_or (default_info categories) s.info
stated_after categories before steps s code ends h = info_so_far categories before (steps ++ s ∷ []) code ∙ ap (info_or (default_info categories)) (info_above before steps s code ends h)

end_parts : (end : ℕ) (steps : List CategoryStep) (s : CategoryStep) → EndBefore end (steps ++ s ∷ []) → EndBefore end steps × (s.first < end)
end_parts end [] s e = (tt, e.0)
end_parts end (x ∷ xs) s e = let p = end_parts end xs s e.1 in ((e.0, p.0), p.1)

none_before_zero : (steps : List CategoryStep) → EndBefore 0 steps → steps ≡ []
none_before_zero [] e = refl
none_before_zero (s ∷ ss) e = absurd (omega (arith, e.0))

info_is : (a b : CharInfo) → a.bits ≡ b.bits → a.head ≡ b.head → a ≡ b
info_is a b bits head = ap (λ (n : ℕ). let i : CharInfo = record { bits = n; head = a.head } in i) bits ∙ ap (λ (n : ℕ). let i : CharInfo = record { bits = b.bits; head = n } in i) head

same_info : (a b : CharInfo) → (a ≡ b) ⊎ (a ≢ b)
same_info a b = elim (cases_eq a.bits b.bits) [
  | inl bits ↦ elim (cases_eq a.head b.head) [
    | inl head ↦ inl (info_is a b bits head)
    | inr other ↦ inr (λ e. other (ap (λ (i : CharInfo). i.head) e))
  ]
  | inr other ↦ inr (λ e. other (ap (λ (i : CharInfo). i.bits) e))
]

-- one more step that starts no range: it is above all code points, or changes nothing
started_above : (categories : List NamedCategory) (before : Option CharInfo) (steps : List CategoryStep) (s : CategoryStep) (ranges : List CategoryRange) → AreStarted categories before steps ranges → code_point_max < s.first
    → AreStarted categories before (steps ++ s ∷ []) ranges
started_above categories before steps s ranges b above = record {
  formed = ranges_same (so_far categories before steps) (so_far categories before (steps ++ s ∷ [])) ranges (λ code h. sym (stated_before categories before steps s code (omega (arith, h, above)))) b.formed;
  held = λ code h e. let p = end_parts (code + 1) steps s e in absurd (omega (arith, h, above, p.1));
  ends = λ end some e. b.ends end some (end_parts end steps s e).0;
}

started_same : (categories : List NamedCategory) (before : Option CharInfo) (steps : List CategoryStep) (s : CategoryStep) (ranges : List CategoryRange) → AreStarted categories before steps ranges → EndBefore s.first steps
    → last_info ranges ≡ info_or (default_info categories) s.info → AreStarted categories before (steps ++ s ∷ []) ranges
started_same categories before steps s ranges b ends same = record {
  formed = ranges_same (so_far categories before steps) (so_far categories before (steps ++ s ∷ [])) ranges (λ code h. elim (cases_lt code s.first) [
    | inl low ↦ sym (stated_before categories before steps s code low)
    | inr high ↦ b.held code h (end_later s.first (code + 1) steps (omega (arith, high)) ends) ∙ same ∙ sym (stated_after categories before steps s code ends high)
  ]) b.formed;
  held = λ code h e. let p = end_parts (code + 1) steps s e in stated_after categories before steps s code ends (omega (arith, p.1)) ∙ sym same;
  ends = λ end some e. b.ends end some (end_parts end steps s e).0;
}

-- the last range starts before one more step that changes something
last_before : (categories : List NamedCategory) (before : Option CharInfo) (steps : List CategoryStep) (s : CategoryStep) (ranges : List CategoryRange) → AreStarted categories before steps ranges → EndBefore s.first steps
    → (s.first ≡ 0 → before ≡ s.info) → last_info ranges ≢ info_or (default_info categories) s.info → (last ranges).first < s.first
last_before categories before steps s ranges b ends at_zero new = elim (cases_lt 0 s.first) [
  | inl some ↦ b.ends s.first (omega (arith, some)) ends
  | inr none ↦
      let zero_is : s.first ≡ 0 = omega (arith, none) in
      let empty : steps ≡ [] = none_before_zero steps (subst (λ (k : ℕ). EndBefore k steps) zero_is ends) in
      absurd (new (sym (b.held 0 (omega arith) (subst (EndBefore 1) (sym empty) tt))
      ∙ info_so_far categories before steps 0
      ∙ ap (λ (ss : List CategoryStep). info_or (default_info categories) (info_from before ss 0)) empty ∙ ap (info_or (default_info categories)) (at_zero zero_is)))
]

started_new : (categories : List NamedCategory) (before : Option CharInfo) (steps : List CategoryStep) (s : CategoryStep) (ranges : List CategoryRange) → AreStarted categories before steps ranges → EndBefore s.first steps
    → s.first ≤ code_point_max → (s.first ≡ 0 → before ≡ s.info) → last_info ranges ≢ info_or (default_info categories) s.info
    → AreStarted categories before (steps ++ s ∷ []) (ranges ++ record { first = s.first; info = info_or (default_info categories) s.info } ∷ [])
started_new categories before steps s ranges b ends within at_zero new =
    let r : CategoryRange = record { first = s.first; info = info_or (default_info categories) s.info } in
    record {
      formed = ranges_more (so_far categories before steps) (so_far categories before (steps ++ s ∷ [])) ranges r b.formed (last_before categories before steps s ranges b ends at_zero new) within new
          (stated_before categories before steps s) (λ code h. stated_after categories before steps s code ends h);
      held = λ code h e. let p = end_parts (code + 1) steps s e in
          stated_after categories before steps s code ends (omega (arith, p.1)) ∙ sym (ap (λ (x : CategoryRange). x.info) (last-append ranges r));
      ends = λ end some e. subst (λ (x : CategoryRange). x.first < end) (sym (last-append ranges r)) (end_parts end steps s e).1;
    }

-- ---- step by step

taken_end : (from : ℕ) (steps : List CategoryStep) (i : ℕ) (d : CategoryStep) → AreRising from steps → i < length steps → EndBefore (get_or steps i d).first (take i steps)
taken_end from [] i d rise in' = absurd (omega arith)
taken_end from (s ∷ ss) zero d rise in' = tt
taken_end from (s ∷ ss) (suc i) d rise in' = (let h = from_on (s.first + 1) ss i d rise.1 (omega arith) in omega (arith, h), taken_end (s.first + 1) ss i d rise.1 (omega arith))

-- a step that starts at code point 0 is the first one
at_zero : (from : ℕ) (steps : List CategoryStep) (i : ℕ) (d : CategoryStep) → AreRising from steps → i < length steps → (get_or steps i d).first ≡ 0 → info_by steps 0 ≡ (get_or steps i d).info
at_zero from [] i d rise in' is = absurd (omega arith)
at_zero from (s ∷ ss) zero d rise in' is =
    cond-false (nat_lt 0 s.first) None (info_from s.info ss 0) (le-ltb 0 s.first (omega (arith, is))) ∙ before_steps s.info (s.first + 1) 0 ss rise.1 (omega arith)
at_zero from (s ∷ ss) (suc i) d rise in' is = let h = from_on (s.first + 1) ss i d rise.1 (omega arith) in absurd (omega (arith, h, is))

zero_before : (steps : List CategoryStep) (code : ℕ) → info_from (info_by steps 0) steps code ≡ info_by steps code
zero_before [] code = refl
zero_before (s ∷ ss) code = elim (cases_lt code s.first) [
  | inl low ↦
      cond-true (nat_lt code s.first) (info_by (s ∷ ss) 0) (info_from s.info ss code) (lt-ltb code s.first low)
      ∙ cond-true (nat_lt 0 s.first) None (info_from s.info ss 0) (lt-ltb 0 s.first (omega (arith, low)))
      ∙ sym (cond-true (nat_lt code s.first) None (info_from s.info ss code) (lt-ltb code s.first low))
  | inr high ↦
      cond-false (nat_lt code s.first) (info_by (s ∷ ss) 0) (info_from s.info ss code) (le-ltb code s.first high)
      ∙ sym (cond-false (nat_lt code s.first) None (info_from s.info ss code) (le-ltb code s.first high))
]

unwrapped : (found : Option CharInfo) (otherwise : CharInfo) → unwrap_or found otherwise ≡ info_or otherwise found
unwrapped None otherwise = refl
unwrapped (Some info) otherwise = refl

pub ranges_started : (categories : List NamedCategory) (steps : List CategoryStep) (ranges : List CategoryRange) (info : CharInfo) → info ≡ info_or (default_info categories) (info_by steps 0)
    → ranges ≡ record { first = 0; info = info } ∷ [] → AreStarted categories (info_by steps 0) [] ranges
ranges_started categories steps ranges info is ranges_are =
    let r : CategoryRange = record { first = 0; info = info } in
    let reported : (code : ℕ) → table_info (so_far categories (info_by steps 0) []) code ≡ info = λ code. info_so_far categories (info_by steps 0) [] code ∙ sym is in
    let only : (i : ℕ) → i < 1 → range_by (r ∷ []) i ≡ r = λ i h. ap (λ (k : ℕ). range_by (r ∷ []) k) (let e : i ≡ 0 = omega (arith, h) in e) in
    subst (AreStarted categories (info_by steps 0) []) (sym ranges_are) (record {
      formed = record {
        some = omega arith;
        from_zero = refl;
        rising = λ i h. absurd (omega (arith, h));
        changing = λ i h. absurd (omega (arith, h));
        within = λ i h. rw (only i h) (omega arith);
        starts = λ i h. rw (only i h) (sym (reported 0));
        infos = λ code h. info_after [] r code (omega arith) ∙ sym (reported code);
      };
      held = λ code h e. reported code;
      ends = λ end some e. some;
    })

pub ranges_step : (categories : List NamedCategory) (steps : List CategoryStep) (i : ℕ) (d : CategoryStep) (ranges new : List CategoryRange) (info : CharInfo) → AreRising 0 steps → i < length steps
    → AreStarted categories (info_by steps 0) (take i steps) ranges → info ≡ unwrap_or (get_or steps i d).info (default_info categories)
    → (last_info ranges ≡ info → new ≡ ranges) → (code_point_max < (get_or steps i d).first → new ≡ ranges)
    → ((get_or steps i d).first ≤ code_point_max → last_info ranges ≢ info → new ≡ ranges ++ record { first = (get_or steps i d).first; info = info } ∷ [])
    → AreStarted categories (info_by steps 0) (take (i + 1) steps) new
ranges_step categories steps i d ranges new info rise in' b info_is same above added =
    let s = get_or steps i d in
    let before = info_by steps 0 in
    let more = take_more steps i d in' in
    let ends = taken_end 0 steps i d rise in' in
    let v : info ≡ info_or (default_info categories) s.info = info_is ∙ unwrapped s.info (default_info categories) in
    rw more (elim (cases_lt code_point_max s.first) [
      | inl high ↦ rw (above high) (started_above categories before (take i steps) s ranges b high)
      | inr low ↦ elim (same_info (last_info ranges) info) [
        | inl kept ↦ rw (same kept) (started_same categories before (take i steps) s ranges b ends (kept ∙ v))
        | inr changed ↦ rw (added low changed, v) (started_new categories before (take i steps) s ranges b ends low (at_zero 0 steps i d rise in') (λ e. changed (e ∙ sym v)))
      ]
    ])

pub ranges_done : (table : CharCategories) (categories : List NamedCategory) (steps : List CategoryStep) (i : ℕ) (ranges : List CategoryRange) → table ≡ record { categories = categories; steps = steps } → length steps ≤ i
    → AreStarted categories (info_by steps 0) (take i steps) ranges → AreRangesOf table ranges
ranges_done table categories steps i ranges is all b =
    rw is (ranges_same (so_far categories (info_by steps 0) steps) (record { categories = categories; steps = steps }) ranges
    (λ code h. info_so_far categories (info_by steps 0) steps code ∙ ap (info_or (default_info categories)) (zero_before steps code))
    (subst (λ (ss : List CategoryStep). AreRangesOf (so_far categories (info_by steps 0) ss) ranges) (take_all i steps all) b.formed))
