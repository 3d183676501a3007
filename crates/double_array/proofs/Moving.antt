-- The children of a state move to another base, one after another.
use Rattle.std.proofs.Common.{◌≡◌, ◌≢◌, ℕ, zero, suc, ◌+◌, ◌<◌, ◌≤◌, ℤ, pos, negsuc, Bool, true, false, Option, None, List, [], ◌∷◌, length, set, slice_get, Some, ◌⊎◌, inl, inr, sym, ap, ◌∙◌, refl, arith, subst}
use Rattle.std.proofs.lemmas.Bool.{cases_eq, cases_lt}
use Rattle.std.proofs.lemmas.List.{length-set, get_or_past}
use Rattle.mj_model.specs.CellMap.{Cell, free_cell, cell_at, base, check, step, walk}
use Rattle.mj_model.specs.CellRules.{IsUsed, IsBaseAfter}
use Rattle.double_array.specs.CellMoves.{IsMove}
use Rattle.mj_model.proofs.CellWalks.{step_named, step_place, step_at, child_of, step_child, no_way_back, walk_one, walk_none}
use Rattle.double_array.proofs.CellMoveLaw.{walked, free_no_check, free_no_base, cases_pos}
use Rattle.mj_model.proofs.Basics.{same_pos}
use Rattle.double_array.specs.Family.{HasCode}
use Rattle.double_array.specs.Moves.{IsRelocation, IsRenamed, IsChildMoved, IsMovedUpTo, AreChildrenRenamed, HasChildrenFromBase}
use Rattle.double_array.specs.Pool.{IsInUse}
use Rattle.double_array.specs.Pool.IsInUse.{is_root, is_named}
use Rattle.double_array.proofs.ViewLemmas.{at_same, at_other}

-- ---- one child: its new cell is filled, its children's checks are changed, and its old cell is
-- freed

-- the children of a cell lie in the window from its base, if it has any
pub record IsWindow (cells : List Cell) (t start n : ℕ) : Type 0 where
  pub inside : (i : ℕ) → check cells i ≡ pos t → (start ≤ i) × (i < start + n)

pub child_moved : (old filled renamed new : List Cell) (s t u start n : ℕ) → filled ≡ set old u (base old t, pos s) → IsRenamed filled renamed start n t u → IsWindow old t start n → new ≡ set renamed t free_cell
    → cell_at old u ≡ free_cell → u < length old → check old t ≡ pos s → t < length old → (s ≡ t → ⊥) → IsChildMoved old new s t u
child_moved old filled renamed new s t u start n e1 r window e2 free within_u at_t within_t no_self =
    let apart : u ≢ t = λ e. free_no_check old u s free (ap (check old) e ∙ at_t) in
    let at_u : cell_at filled u ≡ (base old t, pos s) = ap (λ (xs : List Cell). cell_at xs u) e1 ∙ at_same old u (base old t, pos s) within_u in
    let rest1 : (i : ℕ) → i ≢ u → cell_at filled i ≡ cell_at old i = λ i other. ap (λ (xs : List Cell). cell_at xs i) e1 ∙ at_other old u i (base old t, pos s) other in
    let rest2 : (i : ℕ) → i ≢ t → cell_at new i ≡ cell_at renamed i = λ i other. ap (λ (xs : List Cell). cell_at xs i) e2 ∙ at_other renamed t i free_cell other in
    let long : length renamed ≡ length old = r.long ∙ ap length e1 ∙ length-set old u (base old t, pos s) in
    let u_other : check filled u ≡ pos t → ⊥ = λ h. no_self (same_pos s t (sym (ap (λ (x : Cell). x.1) at_u) ∙ h)) in
    record {
      child = rest2 u apart ∙ r.others u u_other ∙ at_u;
      freed = ap (λ (xs : List Cell). cell_at xs t) e2 ∙ at_same renamed t free_cell (omega (arith, long, within_t));
      renamed = λ i named.
          let no_u : i ≢ u = λ e. free_no_check old u t free (ap (check old) (sym e) ∙ named) in
          let no_t : i ≢ t = λ e. no_self (same_pos s t (sym at_t ∙ ap (check old) (sym e) ∙ named)) in
          let w = window.inside i named in
          rest2 i no_t ∙ r.renamed i w.0 w.1 (ap (λ (x : Cell). x.1) (rest1 i no_u) ∙ named) ∙ ap (λ (x : Cell). (x.0, pos u)) (rest1 i no_u);
      others = λ i no_t no_u other. rest2 i no_t ∙ r.others i (λ h. other (sym (ap (λ (x : Cell). x.1) (rest1 i no_u)) ∙ h)) ∙ rest1 i no_u;
      long = ap length e2 ∙ length-set renamed t free_cell ∙ long;
    }

-- by the base of the child: a value cell has no children
pub child_moved_by : (old filled renamed new : List Cell) (s t u : ℕ) (z : ℤ) → base old t ≡ z → filled ≡ set old u (z, pos s) → AreChildrenRenamed z filled renamed t u → HasChildrenFromBase old t → new ≡ set renamed t free_cell
    → cell_at old u ≡ free_cell → u < length old → check old t ≡ pos s → t < length old → (s ≡ t → ⊥) → IsChildMoved old new s t u
child_moved_by old filled renamed new s t u (pos b) at e1 r window e2 free within_u at_t within_t no_self =
    child_moved old filled renamed new s t u b 257 (e1 ∙ ap (λ (z : ℤ). set old u (z, pos s)) (sym at)) r
    (record { inside = λ i named. let w = window i named in let same : w.0 ≡ b = same_pos w.0 b (sym w.1 ∙ at) in let up = w.2 in let down = w.3 in (omega (arith, up, same), omega (arith, down, same)) })
    e2 free within_u at_t within_t no_self
child_moved_by old filled renamed new s t u (negsuc v) at e1 r window e2 free within_u at_t within_t no_self =
    child_moved old filled renamed new s t u 0 0 (e1 ∙ ap (λ (z : ℤ). set old u (z, pos s)) (sym at)) r
    (record { inside = λ i named. let w = window i named in absurd (let k : pos w.0 ≡ negsuc v = sym w.1 ∙ at in cc) })
    e2 free within_u at_t within_t no_self

-- ---- all children

pub based_within : (cells : List Cell) (s b : ℕ) → base cells s ≡ pos b → 1 ≤ b → s < length cells
based_within cells s b at some = elim (cases_lt s (length cells)) [
  | inl less ↦ less
  | inr past ↦ absurd (free_no_base cells s b (get_or_past cells s free_cell past) at some)
]

has_code_or : (o : Option Bool) → (o ≡ Some true) ⊎ (o ≡ Some true → ⊥)
has_code_or None = inr (λ e. cc)
has_code_or (Some true) = inl refl
has_code_or (Some false) = inr (λ e. cc)

-- the ways in which a code of the family concerns a cell
abbrev Touches : List Cell → ℕ → ℕ → ℕ → ℕ → Type 0
Touches old from to i c = (i ≡ to + c) ⊎ ((i ≡ from + c) ⊎ (check old i ≡ pos (from + c)))

abbrev IsUntouched : List Cell → ℕ → ℕ → List Bool → ℕ → ℕ → Type 0
IsUntouched old from to family i n = (c : ℕ) → c < n → HasCode family c → (i ≢ to + c) × (i ≢ from + c) × (check old i ≡ pos (from + c) → ⊥)

touches_or : (old : List Cell) (from to i c : ℕ) → Touches old from to i c ⊎ ((i ≢ to + c) × (i ≢ from + c) × (check old i ≡ pos (from + c) → ⊥))
touches_or old from to i c = elim (cases_eq i (to + c)) [
  | inl e ↦ inl (inl e)
  | inr a ↦ elim (cases_eq i (from + c)) [
    | inl e ↦ inl (inr (inl e))
    | inr b ↦ elim (cases_pos (check old i) (from + c)) [ inl e ↦ inl (inr (inr e)) | inr d ↦ inr (a, b, d) ]
  ]
]

touched : (old : List Cell) (from to : ℕ) (family : List Bool) (i n : ℕ) → ((c : ℕ) × (c < n) × HasCode family c × Touches old from to i c) ⊎ IsUntouched old from to family i n
touched old from to family i zero = inr (λ c less h. absurd (omega (arith, less)))
touched old from to family i (suc n) = elim (touched old from to family i n) [
  | inl t ↦ inl (t.0, (let less = t.1 in omega (arith, less)), t.2, t.3)
  | inr before ↦ elim (has_code_or (slice_get family n)) [
    | inl h ↦ elim (touches_or old from to i n) [
      | inl t ↦ inl (n, omega arith, h, t)
      | inr apart ↦ inr (λ c less k. elim (cases_eq c n) [
        | inl e ↦ subst (λ (d : ℕ). (i ≢ to + d) × (i ≢ from + d) × (check old i ≡ pos (from + d) → ⊥)) (sym e) apart
        | inr other ↦ before c (omega (arith, less, other)) k
      ])
    ]
    | inr no_code ↦ inr (λ c less k. elim (cases_eq c n) [
      | inl e ↦ absurd (no_code (ap (slice_get family) (sym e) ∙ k))
      | inr other ↦ before c (omega (arith, less, other)) k
    ])
  ]
]

module _ {values : ℕ} {old : List Cell} {s from to : ℕ} {family : List Bool} (known : IsRelocation values old s from to family) where
  way : (xs : List ℕ) × (walk old 0 xs ≡ Some s)
  way = walked values old s known.rules known.keys from known.based known.some (based_within old s from known.based known.some)

  member_step : (c : ℕ) → HasCode family c → step old s c ≡ Some (from + c)
  member_step c h = step_at old s c (from + c) from known.based refl (known.is.sound c h)

  pub no_self : (c : ℕ) → HasCode family c → s ≡ from + c → ⊥
  no_self c h e =
      let back : step old s c ≡ Some s = member_step c h ∙ ap Some (sym e) in
      no_way_back values old way.0 s c [] known.rules way.1 (walk_one old s c [] s back ∙ walk_none old s)

  pub no_self_child : check old s ≡ pos s → ⊥
  no_self_child named =
      let i = child_of values old s s known.rules named in
      no_way_back values old way.0 s i.code [] known.rules way.1 (walk_one old s i.code [] s i.led ∙ walk_none old s)

  no_circle : (c : ℕ) → HasCode family c → check old s ≡ pos (from + c) → ⊥
  no_circle c h above =
      let i = child_of values old (from + c) s known.rules above in
      no_way_back values old way.0 s c (i.code ∷ []) known.rules way.1 (walk_one old s c (i.code ∷ []) (from + c) (member_step c h) ∙ walk_one old (from + c) i.code [] s i.led ∙ walk_none old s)

  old_is_used : (c d : ℕ) → HasCode family c → HasCode family d → from + c ≢ to + d
  old_is_used c d h k e = free_no_check old (to + d) s (known.fits d k) (ap (check old) (sym e) ∙ known.is.sound c h)

  state_is_used : (d : ℕ) → HasCode family d → s ≢ to + d
  state_is_used d k e = free_no_base old (to + d) from (known.fits d k) (ap (base old) (sym e) ∙ known.based) known.some

  module _ (cells : List Cell) (n : ℕ) (moved : IsMovedUpTo old cells s from to family n) where
    -- a cell that no earlier child concerns
    pub child_as_it_was : HasCode family n → cell_at cells (from + n) ≡ cell_at old (from + n)
    child_as_it_was h = moved.others (from + n) (λ c less k. (
      old_is_used n c h k,
      (λ e. omega (arith, e, less)),
      (λ named. no_self c k (same_pos s (from + c) (sym (known.is.sound n h) ∙ named))),
    ))

    pub room_as_it_was : HasCode family n → cell_at cells (to + n) ≡ free_cell
    room_as_it_was h = moved.others (to + n) (λ c less k. (
      (λ e. omega (arith, e, less)),
      (λ e. old_is_used c n k h (sym e)),
      (λ named. free_no_check old (to + n) (from + c) (known.fits n h) named),
    )) ∙ known.fits n h

    state_as_it_was : cell_at cells s ≡ cell_at old s
    state_as_it_was = moved.others s (λ c less k. (state_is_used c k, no_self c k, no_circle c k))

    pub state_check_kept : check cells s ≡ check old s
    state_check_kept = ap (λ (x : Cell). x.1) state_as_it_was

    -- the checks that name a child which has not moved are the old ones
    pub named_before : HasCode family n → (i : ℕ) → check cells i ≡ pos (from + n) → (check old i ≡ pos (from + n)) × (cell_at cells i ≡ cell_at old i)
    named_before h i named = elim (touched old from to family i n) [
      | inl at ↦ absurd (elim at.3 [
        | inl new ↦ no_self n h (same_pos s (from + n) (sym (ap (λ (x : Cell). x.1) (ap (cell_at cells) new ∙ moved.child at.0 at.1 at.2)) ∙ named))
        | inr rest ↦ elim rest [
          | inl gone ↦ free_no_check cells i (from + n) (ap (cell_at cells) gone ∙ moved.freed at.0 at.1 at.2) named
          | inr grand ↦ old_is_used n at.0 h at.2 (same_pos (from + n) (to + at.0) (sym named ∙ ap (λ (x : Cell). x.1) (moved.renamed at.0 i at.1 at.2 grand)))
        ]
      ])
      | inr apart ↦ let e = moved.others i apart in (sym (ap (λ (x : Cell). x.1) e) ∙ named, e)
    ]

    pub child_named : HasCode family n → check cells (from + n) ≡ pos s
    child_named h = ap (λ (x : Cell). x.1) (child_as_it_was h) ∙ known.is.sound n h

    pub children_from_base : HasCode family n → HasChildrenFromBase cells (from + n)
    children_from_base h i named =
        let r = named_before h i named in
        let k = child_of values old (from + n) i known.rules r.0 in
        let place = k.place in
        let near = k.near in
        (k.from, ap (λ (x : Cell). x.0) (child_as_it_was h) ∙ k.based, omega (arith, place), omega (arith, place, near))

    pub base_is_positive : HasCode family n → (b : ℕ) → base cells (from + n) ≡ pos b → (base old (from + n) ≡ pos b) × (0 < b)
    base_is_positive h b at =
        let at_old : base old (from + n) ≡ pos b = sym (ap (λ (x : Cell). x.0) (child_as_it_was h)) ∙ at in
        let k = child_of values old s (from + n) known.rules (known.is.sound n h) in
        (at_old, positive k.code b (subst (IsBaseAfter values k.code) at_old k.holds))
      where
        positive : (code b : ℕ) → IsBaseAfter values code (pos b) → 0 < b
        positive zero b h = absurd (let e : pos b ≡ negsuc h.0 = h.2 in cc)
        positive (suc code) b h = let e : pos b ≡ pos h.0 = h.2 in let m = same_pos b h.0 e in let a = h.1 in omega (arith, m, a)

    pub state_in_use : IsInUse cells s
    state_in_use = by_cases (cases_eq s 0) where
      used_by : (cell_at old s ≡ free_cell) ⊎ IsUsed values old s → IsInUse cells s
      used_by (inl free) = absurd (free_no_base old s from free known.based known.some)
      used_by (inr u) = is_named {s = u.state} (state_check_kept ∙ u.named)

      by_cases : (s ≡ 0) ⊎ (s ≡ 0 → ⊥) → IsInUse cells s
      by_cases (inl e) = subst (IsInUse cells) (sym e) is_root
      by_cases (inr other) = used_by (known.rules.others s (omega (arith, other)) (based_within old s from known.based known.some))

    -- each base but 0 was in some cell before
    pub base_was : (i b : ℕ) → base cells i ≡ pos b → 0 < b → (j : ℕ) × (base old j ≡ pos b)
    base_was i b at above = elim (touched old from to family i n) [
      | inl t ↦ elim t.3 [
        | inl new ↦ (from + t.0, sym (ap (λ (x : Cell). x.0) (ap (cell_at cells) new ∙ moved.child t.0 t.1 t.2)) ∙ at)
        | inr rest ↦ elim rest [
          | inl gone ↦ absurd (free_no_base cells i b (ap (cell_at cells) gone ∙ moved.freed t.0 t.1 t.2) at above)
          | inr grand ↦ (i, sym (ap (λ (x : Cell). x.0) (moved.renamed t.0 i t.1 t.2 grand)) ∙ at)
        ]
      ]
      | inr apart ↦ (i, sym (ap (λ (x : Cell). x.0) (moved.others i apart)) ∙ at)
    ]

    -- the root stays
    pub root_kept : cell_at cells 0 ≡ cell_at old 0
    root_kept = moved.others 0 (λ c less h. (
      (λ e. let r = known.rules.root_check in let k : check old 0 ≡ negsuc 0 = ap (check old) e ∙ ap (λ (x : Cell). x.1) (known.fits c h) in let m : negsuc 1 ≡ negsuc 0 = sym r ∙ k in absurd (cc)),
      (λ e. omega (arith, e, known.some)),
      (λ named. let r = known.rules.root_check in let m : negsuc 1 ≡ pos (from + c) = sym r ∙ named in absurd (cc)),
    ))

    pub moved_past : (HasCode family n → ⊥) → IsMovedUpTo old cells s from to family (n + 1)
    moved_past no_code = record {
      child = λ c less h. moved.child c (before c less h) h;
      freed = λ c less h. moved.freed c (before c less h) h;
      renamed = λ c i less h named. moved.renamed c i (before c less h) h named;
      others = λ i apart. moved.others i (λ c less h. apart c (omega (arith, less)) h);
      long = moved.long;
    } where
      before : (c : ℕ) → c < n + 1 → HasCode family c → c < n
      before c less h = elim (cases_eq c n) [ inl e ↦ absurd (no_code (ap (slice_get family) (sym e) ∙ h)) | inr other ↦ omega (arith, less, other) ]

    module _ (next : List Cell) (h : HasCode family n) (one : IsChildMoved cells next s (from + n) (to + n)) where
      untouched : (i : ℕ) → check old i ≡ pos (from + n) → IsUntouched old from to family i n
      untouched i named c less k = (
        (λ e. free_no_check old (to + c) (from + n) (known.fits c k) (ap (check old) (sym e) ∙ named)),
        (λ e. no_self n h (same_pos s (from + n) (sym (known.is.sound c k) ∙ ap (check old) (sym e) ∙ named))),
        (λ other. let e = same_pos (from + c) (from + n) (sym other ∙ named) in omega (arith, e, less)),
      )

      pub moved_more : IsMovedUpTo old next s from to family (n + 1)
      moved_more = record {
        child = λ c less k. elim (cases_eq c n) [
          | inl e ↦
              subst (λ (d : ℕ). cell_at next (to + d) ≡ (base old (from + d), pos s)) (sym e)
              (one.child ∙ ap (λ (x : Cell). (x.0, pos s)) (child_as_it_was h))
          | inr other ↦
              let below : c < n = omega (arith, less, other) in
              let at = moved.child c below k in
              one.others (to + c) (λ e. old_is_used n c h k (sym e)) (λ e. omega (arith, e, other)) (λ named. no_self n h (same_pos s (from + n) (sym (ap (λ (x : Cell). x.1) at) ∙ named))) ∙ at
        ];
        freed = λ c less k. elim (cases_eq c n) [
          | inl e ↦ subst (λ (d : ℕ). cell_at next (from + d) ≡ free_cell) (sym e) one.freed
          | inr other ↦
              let below : c < n = omega (arith, less, other) in
              let at = moved.freed c below k in
              one.others (from + c) (λ e. omega (arith, e, other)) (λ e. old_is_used c n k h e) (λ named. free_no_check cells (from + c) (from + n) at named) ∙ at
        ];
        renamed = λ c i less k named. elim (cases_eq c n) [
          | inl e ↦
              let at_n : check old i ≡ pos (from + n) = subst (λ (d : ℕ). check old i ≡ pos (from + d)) e named in
              let same = moved.others i (untouched i at_n) in
              subst (λ (d : ℕ). cell_at next i ≡ (base old i, pos (to + d))) (sym e)
              (one.renamed i (ap (λ (x : Cell). x.1) same ∙ at_n) ∙ ap (λ (x : Cell). (x.0, pos (to + n))) same)
          | inr other ↦
              let below : c < n = omega (arith, less, other) in
              let at = moved.renamed c i below k named in
              one.others i
              (λ e. no_self c k (same_pos s (from + c) (sym (known.is.sound n h) ∙ ap (check old) (sym e) ∙ named)))
              (λ e. free_no_check old (to + n) (from + c) (known.fits n h) (ap (check old) (sym e) ∙ named))
              (λ at_n. old_is_used n c h k (same_pos (from + n) (to + c) (sym at_n ∙ ap (λ (x : Cell). x.1) at)))
              ∙ at
        ];
        others = λ i apart.
            let same = moved.others i (λ c less k. apart c (omega (arith, less)) k) in
            let here = apart n (omega arith) h in
            one.others i here.1 here.0 (λ named. here.2 (sym (ap (λ (x : Cell). x.1) same) ∙ named)) ∙ same;
        long = one.long ∙ moved.long;
      }

  -- when all children have moved, and s has the new base
  module _ (cells new : List Cell) (moved : IsMovedUpTo old cells s from to family 257) (set_base : new ≡ set cells s (pos to, check cells s)) (positive : 1 ≤ to) (room : to + 257 ≤ length old)
      (code : ℕ) (has : HasCode family code) where
    family_of : (c t : ℕ) → step old s c ≡ Some t → HasCode family c × (c < 257) × (t ≡ from + c)
    family_of c t h =
        let near = (step_child values old s c t known.rules h).0 in
        let place = step_place old s c t from h known.based in
        (known.is.complete c near (ap (check old) (sym place) ∙ step_named old s c t h), omega (arith, near), place)

    away : (i : ℕ) → i ≢ s → cell_at new i ≡ cell_at cells i
    away i other = ap (λ (xs : List Cell). cell_at xs i) set_base ∙ at_other cells s i (pos to, check cells s) other

    within_s : s < length cells
    within_s = let w = based_within old s from known.based known.some in let l = moved.long in omega (arith, w, l)

    -- each base is at least 2 and at most the top
    pub bases_kept : (top : ℕ) → ((t b : ℕ) → base old t ≡ pos b → 0 < b → (2 ≤ b) × (b ≤ top)) → 2 ≤ to → to ≤ top → (t b : ℕ) → base new t ≡ pos b → 0 < b → (2 ≤ b) × (b ≤ top)
    bases_kept top bases least below t b at above = elim (cases_eq t s) [
      | inl e ↦
          let b_is : to ≡ b = same_pos to b (sym (ap (λ (x : Cell). x.0) (ap (λ (xs : List Cell). cell_at xs s) set_base ∙ at_same cells s (pos to, check cells s) within_s)) ∙ ap (base new) (sym e) ∙ at) in
          (omega (arith, b_is, least), omega (arith, b_is, below))
      | inr other ↦
          let w = base_was cells 257 moved t b (sym (ap (λ (x : Cell). x.0) (away t other)) ∙ at) above in
          bases w.0 b w.1 above
    ]

    pub root_base_kept : (r : ℕ) → base old 0 ≡ pos r → 2 ≤ r → 2 ≤ to → (b : ℕ) × (base new 0 ≡ pos b) × (2 ≤ b)
    root_base_kept r at least low = elim (cases_eq 0 s) [
      | inl e ↦ (to, ap (base new) e ∙ ap (λ (x : Cell). x.0) (ap (λ (xs : List Cell). cell_at xs s) set_base ∙ at_same cells s (pos to, check cells s) within_s), low)
      | inr other ↦ (r, ap (λ (x : Cell). x.0) (away 0 other ∙ root_kept cells 257 moved) ∙ at, least)
    ]

    pub is_move : IsMove old new s to
    is_move = record {
      some_child = (code, from + code, member_step code has);
      positive = positive;
      within = λ c t h. let f = (family_of c t h).1 in omega (arith, f, room);
      room = λ c t h. known.fits c (family_of c t h).0;
      child = λ c t h.
          let f = family_of c t h in
          away (to + c) (λ e. state_is_used c f.0 (sym e)) ∙ moved.child c f.1 f.0 ∙ sym (ap (λ (k : ℕ). (base old k, pos s)) f.2) ∙ ap (λ (z : ℤ). (base old t, z)) (sym (step_named old s c t h));
      freed = λ c t h.
          let f = family_of c t h in
          away t (λ e. no_self c f.0 (sym e ∙ f.2)) ∙ ap (cell_at cells) f.2 ∙ moved.freed c f.1 f.0;
      renamed = λ c t u h named other.
          let f = family_of c t h in
          away u other ∙ moved.renamed c u f.1 f.0 (named ∙ ap pos f.2);
      state = ap (λ (xs : List Cell). cell_at xs s) set_base ∙ at_same cells s (pos to, check cells s) within_s ∙ ap (λ (z : ℤ). (pos to, z)) (state_check_kept cells 257 moved);
      apart = λ i a. away i a.no_state ∙ moved.others i (λ c less k. (
        (λ e. a.no_new_child c (from + c) (member_step c k) e),
        (λ e. a.no_child c (ap (step old s) refl ∙ member_step c k ∙ ap Some (sym e))),
        (λ named. a.no_grandchild c (from + c) (member_step c k) named),
      ));
      same_length = ap length set_base ∙ length-set cells s (pos to, check cells s) ∙ moved.long;
    }
