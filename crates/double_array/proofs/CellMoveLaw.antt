-- A move of a state's children keeps the map, the invariants, and that every used cell lies on the
-- walk of a key. A move is a renaming: a child of s with code c becomes b + c, and every other used
-- cell keeps its number. It keeps steps in both directions, and so walks; a value cell keeps its
-- base. No walk leads back to its cell, so that s is neither its own child nor a grandchild.
use Rattle.std.proofs.Common.{◌≡◌, ℕ, zero, suc, ◌+◌, ◌-◌, ◌<◌, ◌≤◌, ℤ, pos, negsuc, ◌+ℤ◌, List, [], ◌∷◌, length, Some, ◌⊎◌, inl, inr, sym, ap, ◌∙◌, refl, arith, subst}
use Rattle.std.proofs.lemmas.Bool.{cases_eq, cases_lt}
use Rattle.std.proofs.lemmas.Option.{same_Some}
use Rattle.mj_model.specs.CellMap.{Cell, free_cell, cell_at, base, check, step, walk, value_of, codes_of, HasSameMap}
use Rattle.mj_model.specs.CellRules.{IsBaseAfter, IsUsed, MeetsRules, AreOnKeys}
use Rattle.double_array.specs.CellMoves.{IsApart, IsMove, IsKept, MovesKeepTheMap}
use Rattle.mj_model.proofs.CellWalks.{step_parts, step_from, step_place, step_named, step_at, IsChild, child_of, walk_one, walk_none, walk_first, leads_back, no_way_back, value_parts, value_from, same_value}
use Rattle.mj_model.proofs.Basics.{same_pos}

pub cases_pos : (z : ℤ) (s : ℕ) → (z ≡ pos s) ⊎ (z ≡ pos s → ⊥)
cases_pos (pos k) s = elim (cases_eq k s) [ inl e ↦ inl (ap pos e) | inr e ↦ inr (λ h. e (cc)) ]
cases_pos (negsuc k) s = inr (λ h. cc)

pub pos_or : (z : ℤ) → ((k : ℕ) × (z ≡ pos k)) ⊎ ((k : ℕ) → z ≡ pos k → ⊥)
pos_or (pos k) = inl (k, refl)
pos_or (negsuc k) = inr (λ n h. cc)

-- a walk leads to every used cell
pub walked : (values : ℕ) (cells : List Cell) (t : ℕ) → MeetsRules values cells → AreOnKeys cells → (b : ℕ) → base cells t ≡ pos b → 1 ≤ b → t < length cells → (xs : List ℕ) × (walk cells 0 xs ≡ Some t)
walked values cells zero rules keys b at some within = ([], walk_none cells 0)
walked values cells (suc k) rules keys b at some within = elim (rules.others (suc k) (omega arith) within) [
  | inl free ↦ absurd (let e : base cells (suc k) ≡ pos 0 = ap (λ (x : Cell). x.0) free in let z = same_pos b 0 (sym at ∙ e) in omega (arith, z, some))
  | inr used ↦ let o = keys (suc k) used.state used.named in (o.front, o.led)
]

-- a free cell is no state with a base
pub free_no_base : (cells : List Cell) (i b : ℕ) → cell_at cells i ≡ free_cell → base cells i ≡ pos b → 1 ≤ b → ⊥
free_no_base cells i b free at some =
    let e : base cells i ≡ pos 0 = ap (λ (x : Cell). x.0) free in
    let z = same_pos b 0 (sym at ∙ e) in omega (arith, z, some)

pub free_no_check : (cells : List Cell) (i s : ℕ) → cell_at cells i ≡ free_cell → check cells i ≡ pos s → ⊥
free_no_check cells i s free named = let e : check cells i ≡ negsuc 0 = ap (λ (x : Cell). x.1) free in cc

module _ (values : ℕ) (old new : List Cell) (s b : ℕ) (rules : MeetsRules values old) (keys : AreOnKeys old) (move : IsMove old new s b) where
  -- the moved state, by its first child
  the_state : IsChild values old s move.some_child.1
  the_state = child_of values old s move.some_child.1 rules (step_named old s move.some_child.0 move.some_child.1 move.some_child.2)

  way : (xs : List ℕ) × (walk old 0 xs ≡ Some s)
  way = walked values old s rules keys the_state.from the_state.based the_state.positive the_state.within

  -- a child's code and step
  child_step : (t : ℕ) → check old t ≡ pos s → (c : ℕ) × (step old s c ≡ Some t)
  child_step t named = let i = child_of values old s t rules named in (i.code, i.led)

  no_self : check old s ≡ pos s → ⊥
  no_self named =
      let i = child_step s named in
      no_way_back values old way.0 s i.0 [] rules way.1 (walk_one old s i.0 [] s i.1 ∙ walk_none old s)

  no_circle : (x : ℕ) → check old x ≡ pos s → check old s ≡ pos x → ⊥
  no_circle x below above =
      let i = child_step x below in
      let j = child_of values old x s rules above in
      no_way_back values old way.0 s i.0 (j.code ∷ []) rules way.1 (walk_one old s i.0 (j.code ∷ []) x i.1 ∙ walk_one old x j.code [] s j.led ∙ walk_none old s)

  -- the new number of a used cell
  abbrev pub Renames : ℕ → ℕ → Type 0
  Renames t u = ((c : ℕ) × (step old s c ≡ Some t) × (u ≡ b + c)) ⊎ ((check old t ≡ pos s → ⊥) × (u ≡ t))

  -- the root, and the cells whose check is a state
  abbrev pub InUse : ℕ → Type 0
  InUse t = (t ≡ 0) ⊎ ((q : ℕ) × (check old t ≡ pos q))

  use_is_not_free : (t : ℕ) → InUse t → cell_at old t ≡ free_cell → ⊥
  use_is_not_free t (inl e) free =
      let r = rules.root_check in
      let f : check old 0 ≡ negsuc 0 = subst (λ (i : ℕ). check old i ≡ negsuc 0) e (ap (λ (x : Cell). x.1) free) in
      absurd (let g : negsuc 1 ≡ negsuc 0 = sym r ∙ f in cc)
  use_is_not_free t (inr u) free = free_no_check old t u.0 free u.1

  same_code : (c d t : ℕ) → step old s c ≡ Some t → step old s d ≡ Some t → c ≡ d
  same_code c d t h k =
      let p = step_place old s c t the_state.from h the_state.based in
      let q = step_place old s d t the_state.from k the_state.based in omega (arith, p, q)

  pub renames_one : (t u v : ℕ) → Renames t u → Renames t v → u ≡ v
  renames_one t u v (inl i) (inl j) = let e = same_code i.0 j.0 t i.1 j.1 in let p = i.2 in let q = j.2 in omega (arith, e, p, q)
  renames_one t u v (inl i) (inr j) = absurd (j.0 (step_named old s i.0 t i.1))
  renames_one t u v (inr i) (inl j) = absurd (i.0 (step_named old s j.0 t j.1))
  renames_one t u v (inr i) (inr j) = i.1 ∙ sym j.1

  new_cell_free : (c t : ℕ) → step old s c ≡ Some t → (u : ℕ) → u ≡ b + c → cell_at old u ≡ free_cell
  new_cell_free c t h u at = subst (λ (i : ℕ). cell_at old i ≡ free_cell) (sym at) (move.room c t h)

  apart_of : (t : ℕ) → (t ≡ s → ⊥) → (check old t ≡ pos s → ⊥) → InUse t → ((x : ℕ) → check old x ≡ pos s → check old t ≡ pos x → ⊥) → IsApart old s b t
  apart_of t no_s no_child busy no_grand = record {
    no_state = no_s;
    no_child = λ c h. no_child (step_named old s c t h);
    no_new_child = λ c x h at. use_is_not_free t busy (new_cell_free c x h t at);
    no_grandchild = λ c x h named. no_grand x (step_named old s c x h) named;
  }

  -- a used cell that is neither s nor a child keeps its base
  base_kept : (t : ℕ) → (t ≡ s → ⊥) → (check old t ≡ pos s → ⊥) → InUse t → base new t ≡ base old t
  base_kept t no_s no_child busy = elim (pos_or (check old t)) [
    | inl p ↦ elim (cases_pos (check old p.0) s) [
      | inl grand ↦ let i = child_step p.0 grand in ap (λ (x : Cell). x.0) (move.renamed i.0 p.0 t i.1 p.1 no_s)
      | inr other ↦ ap (λ (x : Cell). x.0) (move.apart t (apart_of t no_s no_child busy (λ x below named. other (subst (λ (i : ℕ). check old i ≡ pos s) (same_pos x p.0 (sym named ∙ p.1)) below))))
    ]
    | inr none ↦ ap (λ (x : Cell). x.0) (move.apart t (apart_of t no_s no_child busy (λ x below named. none x named)))
  ]

  -- one that is no child nor a child's child keeps its check
  check_kept : (t : ℕ) → (check old t ≡ pos s → ⊥) → InUse t → ((x : ℕ) → check old x ≡ pos s → check old t ≡ pos x → ⊥) → check new t ≡ check old t
  check_kept t no_child busy no_grand = elim (cases_eq t s) [
    | inl same ↦ subst (λ (i : ℕ). check new i ≡ check old i) (sym same) (ap (λ (x : Cell). x.1) move.state)
    | inr no_s ↦ ap (λ (x : Cell). x.1) (move.apart t (apart_of t no_s no_child busy no_grand))
  ]

  -- the new base of a used cell is its old one, except for s
  pub renamed_base : (t u : ℕ) → InUse t → (t ≡ s → ⊥) → Renames t u → base new u ≡ base old t
  renamed_base t u busy no_s (inl i) = subst (λ (k : ℕ). base new k ≡ base old t) (sym i.2) (ap (λ (x : Cell). x.0) (move.child i.0 t i.1))
  renamed_base t u busy no_s (inr i) = subst (λ (k : ℕ). base new k ≡ base old t) (sym i.1) (base_kept t no_s i.0 busy)

  -- s keeps its number
  state_stays : (u : ℕ) → Renames s u → u ≡ s
  state_stays u (inl i) = absurd (no_self (step_named old s i.0 s i.1))
  state_stays u (inr i) = i.1

  state_base : base new s ≡ pos b
  state_base = ap (λ (x : Cell). x.0) move.state

  -- ---- steps are kept

  child_moves : (c t : ℕ) → step old s c ≡ Some t → step new s c ≡ Some (b + c)
  child_moves c t h = step_at new s c (b + c) b state_base refl (ap (λ (x : Cell). x.1) (move.child c t h) ∙ step_named old s c t h)

  step_moves : (u v c t : ℕ) → InUse u → Renames u v → step old u c ≡ Some t → (w : ℕ) × Renames t w × (step new v c ≡ Some w)
  step_moves u v c t busy r h = elim (cases_eq u s) [
    | inl same ↦
        let k : step old s c ≡ Some t = subst (λ (i : ℕ). step old i c ≡ Some t) same h in
        let at : v ≡ s = state_stays v (subst (λ (i : ℕ). Renames i v) same r) in
        (b + c, inl (c, k, refl), subst (λ (i : ℕ). step new i c ≡ Some (b + c)) (sym at) (child_moves c t k))
    | inr no_s ↦
        let named = step_named old u c t h in
        let no_child : check old t ≡ pos s → ⊥ = λ e. no_s (same_pos u s (sym named ∙ e)) in
        let based : base new v +ℤ pos c ≡ pos t = ap (λ (z : ℤ). z +ℤ pos c) (renamed_base u v busy no_s r) ∙ (step_parts old u c t h).0 in
        let at : check new t ≡ pos v = elim r [
          | inl i ↦
              let no_state : t ≡ s → ⊥ = λ e. no_circle u (step_named old s i.0 u i.1) (subst (λ (k : ℕ). check old k ≡ pos u) e named) in
              subst (λ (k : ℕ). check new t ≡ pos k) (sym i.2) (ap (λ (x : Cell). x.1) (move.renamed i.0 u t i.1 named no_state))
          | inr i ↦
              subst (λ (k : ℕ). check new t ≡ pos k) (sym i.1)
              (check_kept t no_child (inr (u, named)) (λ x below above. i.0 (subst (λ (k : ℕ). check old k ≡ pos s) (same_pos x u (sym above ∙ named)) below)) ∙ named)
        ] in
        (t, inr (no_child, refl), step_from new v c t based at)
  ]

  walk_moves : (u v : ℕ) (cs : List ℕ) (t : ℕ) → InUse u → Renames u v → walk old u cs ≡ Some t → (w : ℕ) × Renames t w × (walk new v cs ≡ Some w)
  walk_moves u v [] t busy r h = let e = same_Some u t (sym (walk_none old u) ∙ h) in (v, subst (λ (i : ℕ). Renames i v) e r, walk_none new v)
  walk_moves u v (c ∷ cs) t busy r h =
      let f = walk_first old u c cs t h in
      let g = step_moves u v c f.0 busy r f.1 in
      let k = walk_moves f.0 g.0 cs t (inr (u, step_named old u c f.0 f.1)) g.1 f.2 in
      (k.0, k.1, walk_one new v c cs g.0 g.2 ∙ k.2)

  -- ---- each cell of the new list, by its old content

  data Origin (t : ℕ) : Type 0 where
    new_child : (c x : ℕ) → step old s c ≡ Some x → t ≡ b + c → Origin t
    old_child : (c : ℕ) → step old s c ≡ Some t → Origin t
    the_s : t ≡ s → Origin t
    grandchild : (c x : ℕ) → step old s c ≡ Some x → check old t ≡ pos x → (t ≡ s → ⊥) → Origin t
    apart : IsApart old s b t → Origin t

  is_new_child : (t : ℕ) → ((c : ℕ) × (x : ℕ) × (step old s c ≡ Some x) × (t ≡ b + c)) ⊎ ((c x : ℕ) → step old s c ≡ Some x → t ≡ b + c → ⊥)
  is_new_child t = elim (cases_lt t b) [
    | inl below ↦ inr (λ c x h at. omega (arith, below, at))
    | inr above ↦ elim (cases_pos (check old (the_state.from + (t - b))) s) [
      | inl named ↦ inl (t - b, the_state.from + (t - b), step_at old s (t - b) (the_state.from + (t - b)) the_state.from the_state.based refl named, omega (arith, above))
      | inr other ↦ inr (λ c x h at.
          let place = step_place old s c x the_state.from h the_state.based in
          let e : x ≡ the_state.from + (t - b) = omega (arith, at, place) in
          other (subst (λ (i : ℕ). check old i ≡ pos s) e (step_named old s c x h)))
    ]
  ]

  is_grandchild : (t : ℕ) → ((c : ℕ) × (x : ℕ) × (step old s c ≡ Some x) × (check old t ≡ pos x)) ⊎ ((c x : ℕ) → step old s c ≡ Some x → check old t ≡ pos x → ⊥)
  is_grandchild t = elim (pos_or (check old t)) [
    | inl p ↦ elim (cases_pos (check old p.0) s) [
      | inl named ↦ let i = child_step p.0 named in inl (i.0, p.0, i.1, p.1)
      | inr other ↦ inr (λ c x h at. other (subst (λ (i : ℕ). check old i ≡ pos s) (same_pos x p.0 (sym at ∙ p.1)) (step_named old s c x h)))
    ]
    | inr none ↦ inr (λ c x h at. none x at)
  ]

  origin : (t : ℕ) → Origin t
  origin t = elim (is_new_child t) [
    | inl i ↦ new_child i.0 i.1 i.2 i.3
    | inr no_new ↦ elim (cases_pos (check old t) s) [
      | inl named ↦ let i = child_step t named in old_child i.0 i.1
      | inr no_child ↦ elim (cases_eq t s) [
        | inl same ↦ the_s same
        | inr no_s ↦ elim (is_grandchild t) [
          | inl i ↦ grandchild i.0 i.1 i.2 i.3 no_s
          | inr no_grand ↦ apart (record { no_state = no_s; no_child = λ c h. no_child (step_named old s c t h); no_new_child = no_new; no_grandchild = no_grand })
        ]
      ]
    ]
  ]

  -- a cell that is used in the new list, its old number and its old state
  record Was (t v : ℕ) : Type 0 where
    pub cell : ℕ
    pub state : ℕ
    pub renames : Renames cell t
    pub named : check old cell ≡ pos state
    pub renames_state : Renames state v

  no_child_by : (t q : ℕ) → check old t ≡ pos q → (q ≡ s → ⊥) → check old t ≡ pos s → ⊥
  no_child_by t q named other h = other (same_pos q s (sym named ∙ h))

  was : (t v : ℕ) → check new t ≡ pos v → Origin t → Was t v
  was t v named (new_child c x h at) = record {
    cell = x;
    state = s;
    renames = inl (c, h, at);
    named = step_named old s c x h;
    renames_state = inr (no_self, same_pos v s (sym named ∙ subst (λ (i : ℕ). check new i ≡ check old x) (sym at) (ap (λ (y : Cell). y.1) (move.child c x h)) ∙ step_named old s c x h));
  }
  was t v named (old_child c h) = absurd (free_no_check new t v (move.freed c t h) named)
  was t v named (the_s same) =
      let above : check old s ≡ pos v = sym (ap (λ (y : Cell). y.1) move.state) ∙ subst (λ (i : ℕ). check new i ≡ pos v) same named in
      record {
        cell = s;
        state = v;
        renames = inr (no_self, same);
        named = above;
        renames_state = inr ((λ h. no_circle v h above), refl);
      }
  was t v named (grandchild c x h below no_s) =
      let e : v ≡ b + c = same_pos v (b + c) (sym named ∙ ap (λ (y : Cell). y.1) (move.renamed c x t h below no_s)) in
      let x_no_s : x ≡ s → ⊥ = λ k. no_self (subst (λ (i : ℕ). check old i ≡ pos s) k (step_named old s c x h)) in
      record {
        cell = t;
        state = x;
        renames = inr (no_child_by t x below x_no_s, refl);
        named = below;
        renames_state = inl (c, h, e);
      }
  was t v named (apart a) =
      let above : check old t ≡ pos v = sym (ap (λ (y : Cell). y.1) (move.apart t a)) ∙ named in
      let no_child : check old t ≡ pos s → ⊥ = λ h. let i = child_step t h in a.no_child i.0 i.1 in
      record {
        cell = t;
        state = v;
        renames = inr (no_child, refl);
        named = above;
        renames_state = inr ((λ h. let i = child_step v h in a.no_grandchild i.0 v i.1 above), refl);
      }

  -- two used cells with the same new number are the same
  renamed_from_one : (t u v : ℕ) → InUse t → InUse u → Renames t v → Renames u v → t ≡ u
  renamed_from_one t u v t_busy u_busy (inl i) (inl j) =
      let e : i.0 ≡ j.0 = let p = i.2 in let q = j.2 in omega (arith, p, q) in
      same_Some t u (sym i.1 ∙ ap (λ (c : ℕ). step old s c) e ∙ j.1)
  renamed_from_one t u v t_busy u_busy (inl i) (inr j) = absurd (use_is_not_free u u_busy (new_cell_free i.0 t i.1 u (sym j.1 ∙ i.2)))
  renamed_from_one t u v t_busy u_busy (inr i) (inl j) = absurd (use_is_not_free t t_busy (new_cell_free j.0 u j.1 t (sym i.1 ∙ j.2)))
  renamed_from_one t u v t_busy u_busy (inr i) (inr j) = sym i.1 ∙ j.1

  state_in_use : (t q : ℕ) → check old t ≡ pos q → InUse q
  state_in_use t zero named = inl refl
  state_in_use t (suc k) named =
      let i = child_of values old (suc k) t rules named in
      elim (rules.others (suc k) (omega arith) i.within) [
        | inl free ↦ absurd (free_no_base old (suc k) i.from free i.based i.positive)
        | inr used ↦ inr (used.state, used.named)
      ]

  -- a step of the new list was a step of the old one
  step_back : (u v c w : ℕ) → InUse u → Renames u v → step new v c ≡ Some w → (t : ℕ) × Renames t w × (step old u c ≡ Some t)
  step_back u v c w busy r h =
      let o = was w v (step_named new v c w h) (origin w) in
      let same : o.state ≡ u = renamed_from_one o.state u v (state_in_use o.cell o.state o.named) busy o.renames_state r in
      let named : check old o.cell ≡ pos u = o.named ∙ ap pos same in
      let i = child_of values old u o.cell rules named in
      let at : c ≡ i.code = elim (cases_eq u s) [
        | inl is_s ↦
            let v_is : v ≡ s = state_stays v (subst (λ (k : ℕ). Renames k v) is_s r) in
            let place : w ≡ b + c = step_place new v c w b h (subst (λ (k : ℕ). base new k ≡ pos b) (sym v_is) state_base) in
            let led : step old s i.code ≡ Some o.cell = subst (λ (k : ℕ). step old k i.code ≡ Some o.cell) is_s i.led in
            let w_is : w ≡ b + i.code = renames_one o.cell w (b + i.code) o.renames (inl (i.code, led, refl)) in
            omega (arith, place, w_is)
        | inr no_s ↦
            let based : base new v ≡ pos i.from = renamed_base u v busy no_s r ∙ i.based in
            let place : w ≡ i.from + c = step_place new v c w i.from h based in
            let w_is : w ≡ o.cell = elim o.renames [
              | inl j ↦ absurd (no_child_by o.cell u named no_s (step_named old s j.0 o.cell j.1))
              | inr j ↦ j.1
            ] in
            let cell_is = i.place in
            omega (arith, place, w_is, cell_is)
      ] in
      (o.cell, o.renames, ap (λ (k : ℕ). step old u k) at ∙ i.led)

  walk_back : (u v : ℕ) (cs : List ℕ) (w : ℕ) → InUse u → Renames u v → walk new v cs ≡ Some w → (t : ℕ) × Renames t w × (walk old u cs ≡ Some t)
  walk_back u v [] w busy r h = let e = same_Some v w (sym (walk_none new v) ∙ h) in (u, subst (λ (i : ℕ). Renames u i) e r, walk_none old u)
  walk_back u v (c ∷ cs) w busy r h =
      let f = walk_first new v c cs w h in
      let g = step_back u v c f.0 busy r f.1 in
      let k = walk_back g.0 f.0 cs w (inr (u, step_named old u c g.0 g.2)) g.1 f.2 in
      (k.0, k.1, walk_one old u c cs g.0 g.2 ∙ k.2)

  -- ---- the map

  root_stays : Renames 0 0
  root_stays = inr ((λ h. let r = rules.root_check in let e : negsuc 1 ≡ pos s = sym r ∙ h in cc), refl)

  walked_on : (u : ℕ) (cs : List ℕ) (t : ℕ) → InUse u → walk old u cs ≡ Some t → InUse t
  walked_on u [] t busy h = subst InUse (same_Some u t (sym (walk_none old u) ∙ h)) busy
  walked_on u (c ∷ cs) t busy h = let f = walk_first old u c cs t h in walked_on f.0 cs t (inr (u, step_named old u c f.0 f.1)) f.2

  walked_in_use : (cs : List ℕ) (t : ℕ) → walk old 0 cs ≡ Some t → InUse t
  walked_in_use cs t h = walked_on 0 cs t (inl refl) h

  value_base : (t v : ℕ) → base old t ≡ negsuc v → t ≡ s → ⊥
  value_base t v holds e = let k : base old s ≡ negsuc v = subst (λ (i : ℕ). base old i ≡ negsuc v) e holds in let l = the_state.based in let m : pos the_state.from ≡ negsuc v = sym l ∙ k in cc

  value_moves : (key : List ℕ) (v : ℕ) → value_of old key ≡ Some v → value_of new key ≡ Some v
  value_moves key v h =
      let p = value_parts old key v h in
      let g = walk_moves 0 0 (codes_of key) p.0 (inl refl) root_stays p.1.led in
      value_from new key v g.0 (record { some = p.1.some; led = g.2; holds = renamed_base p.0 g.0 (walked_in_use (codes_of key) p.0 p.1.led) (value_base p.0 v p.1.holds) g.1 ∙ p.1.holds })

  value_back : (key : List ℕ) (v : ℕ) → value_of new key ≡ Some v → value_of old key ≡ Some v
  value_back key v h =
      let p = value_parts new key v h in
      let g = walk_back 0 0 (codes_of key) p.0 (inl refl) root_stays p.1.led in
      let no_s : g.0 ≡ s → ⊥ = λ e.
      let at : p.0 ≡ s = state_stays p.0 (subst (λ (i : ℕ). Renames i p.0) e g.1) in
      let k : base new s ≡ negsuc v = subst (λ (i : ℕ). base new i ≡ negsuc v) at p.1.holds in
      let m : pos b ≡ negsuc v = sym state_base ∙ k in cc in
      value_from old key v g.0 (record { some = p.1.some; led = g.2; holds = sym (renamed_base g.0 p.0 (walked_in_use (codes_of key) g.0 g.2) no_s g.1) ∙ p.1.holds })

  pub map_is_kept : HasSameMap old new
  map_is_kept key = same_value old new key (value_moves key) (value_back key)

  -- ---- the rules

  -- the base of a state of some cell, at its new number
  state_moves : (q v from : ℕ) → InUse q → Renames q v → base old q ≡ pos from → (q ≡ s → ⊥) → base new v ≡ pos from
  state_moves q v from busy r at no_s = renamed_base q v busy no_s r ∙ at

  still_within : (i : ℕ) → i < length old → i < length new
  still_within i h = let e = move.same_length in omega (arith, e, h)

  new_within : (q v : ℕ) → q < length old → Renames q v → v < length new
  new_within q v less (inl i) = let h = move.within i.0 q i.1 in let e = i.2 in still_within v (omega (arith, h, e))
  new_within q v less (inr i) = let e = i.1 in still_within v (omega (arith, less, e))

  -- a used cell is used by the rules at its new number
  content_of_state : (c : ℕ) → IsBaseAfter values c (base old s) → IsBaseAfter values c (pos b)
  content_of_state zero h = absurd (let l = the_state.based in let m : pos the_state.from ≡ negsuc h.0 = sym l ∙ h.2 in cc)
  content_of_state (suc c) h = (b, move.positive, refl)

  used_moves : (t u q v : ℕ) → check old t ≡ pos q → Renames t u → Renames q v → check new u ≡ pos v → IsUsed values new u
  used_moves t u q v named r rq at =
      let i = child_of values old q t rules named in
      let content : IsBaseAfter values i.code (base new u) = elim (cases_eq t s) [
        | inl same ↦
            let u_is : u ≡ s = state_stays u (subst (λ (k : ℕ). Renames k u) same r) in
            let z : base new u ≡ pos b = subst (λ (k : ℕ). base new k ≡ pos b) (sym u_is) state_base in
            subst (IsBaseAfter values i.code) (sym z) (content_of_state i.code (subst (λ (k : ℕ). IsBaseAfter values i.code (base old k)) same i.holds))
        | inr no_s ↦ subst (IsBaseAfter values i.code) (sym (renamed_base t u (inr (q, named)) no_s r)) i.holds
      ] in
      elim (cases_eq q s) [
        | inl same ↦
            let v_is : v ≡ s = state_stays v (subst (λ (k : ℕ). Renames k v) same rq) in
            let led : step old s i.code ≡ Some t = subst (λ (k : ℕ). step old k i.code ≡ Some t) same i.led in
            record {
              state = v;
              from = b;
              code = i.code;
              named = at;
              within = new_within q v i.within rq;
              based = subst (λ (k : ℕ). base new k ≡ pos b) (sym v_is) state_base;
              positive = move.positive;
              near = i.near;
              place = renames_one t u (b + i.code) r (inl (i.code, led, refl));
              holds = content;
            }
        | inr no_s ↦
            let u_is : u ≡ t = elim r [
              | inl j ↦ absurd (no_child_by t q named no_s (step_named old s j.0 t j.1))
              | inr j ↦ j.1
            ] in
            record {
              state = v;
              from = i.from;
              code = i.code;
              named = at;
              within = new_within q v i.within rq;
              based = state_moves q v i.from (state_in_use t q named) rq i.based no_s;
              positive = i.positive;
              near = i.near;
              place = u_is ∙ i.place;
              holds = content;
            }
      ]

  used_was : (t v : ℕ) → check new t ≡ pos v → IsUsed values new t
  used_was t v named = let o = was t v named (origin t) in used_moves o.cell t o.state v o.named o.renames o.renames_state named

  root_check_kept : check new 0 ≡ negsuc 1
  root_check_kept =
      let r = rules.root_check in
      check_kept 0 (λ h. let e : negsuc 1 ≡ pos s = sym r ∙ h in cc) (inl refl) (λ x below h. let e : negsuc 1 ≡ pos x = sym r ∙ h in cc) ∙ r

  root_base_kept : (k : ℕ) × (base new 0 ≡ pos k)
  root_base_kept = elim (cases_eq 0 s) [
    | inl same ↦ (b, subst (λ (k : ℕ). base new k ≡ pos b) (sym same) state_base)
    | inr no_s ↦ (rules.root_base.0, renamed_base 0 0 (inl refl) no_s root_stays ∙ rules.root_base.1)
  ]

  free_or_used : (t : ℕ) → 0 < t → t < length new → Origin t → (cell_at new t ≡ free_cell) ⊎ IsUsed values new t
  free_or_used t above within (new_child c x h at) =
      inr (used_was t s (subst (λ (i : ℕ). check new i ≡ pos s) (sym at) (step_named new s c (b + c) (child_moves c x h))))
  free_or_used t above within (old_child c h) = inl (move.freed c t h)
  free_or_used t above within (the_s same) = elim (rules.others s (let e = same in omega (arith, above, e)) the_state.within) [
    | inl free ↦ absurd (free_no_base old s the_state.from free the_state.based the_state.positive)
    | inr used ↦ inr (used_was t used.state (subst (λ (i : ℕ). check new i ≡ pos used.state) (sym same) (ap (λ (y : Cell). y.1) move.state ∙ used.named)))
  ]
  free_or_used t above within (grandchild c x h below no_s) = inr (used_was t (b + c) (ap (λ (y : Cell). y.1) (move.renamed c x t h below no_s)))
  free_or_used t above within (apart a) = elim (rules.others t above (let e = move.same_length in omega (arith, within, e))) [
    | inl free ↦ inl (move.apart t a ∙ free)
    | inr used ↦ inr (used_was t used.state (ap (λ (y : Cell). y.1) (move.apart t a) ∙ used.named))
  ]

  rules_are_kept : MeetsRules values new
  rules_are_kept = record {
    root_check = root_check_kept;
    root_base = root_base_kept;
    others = λ t above within. free_or_used t above within (origin t);
  }

  -- ---- the keys

  keys_are_kept : AreOnKeys new
  keys_are_kept t v named =
      let o = was t v named (origin t) in
      let k = keys o.cell o.state o.named in
      let g = walk_moves 0 0 k.front o.cell (inl refl) root_stays k.led in
      let at : g.0 ≡ t = renames_one o.cell g.0 t g.1 o.renames in
      let led : walk new 0 k.front ≡ Some t = g.2 ∙ ap Some at in
      record {
        key = k.key;
        value = k.value;
        there = map_is_kept k.key ∙ k.there;
        front = k.front;
        back = k.back;
        codes = k.codes;
        led = led;
        back_to_root = leads_back new k.front t led;
      }

  pub all_is_kept : IsKept values old new
  all_is_kept = record { map = map_is_kept; rules = rules_are_kept; on_keys = keys_are_kept }

  -- a walk from the root leads to the new number of its old end
  pub walk_renamed : (cs : List ℕ) (t u : ℕ) → walk old 0 cs ≡ Some t → Renames t u → walk new 0 cs ≡ Some u
  walk_renamed cs t u h r = let g = walk_moves 0 0 cs t (inl refl) root_stays h in g.2 ∙ ap Some (renames_one t g.0 u g.1 r)

pub moves_keep_the_map : MovesKeepTheMap
moves_keep_the_map values old new s b rules keys move = all_is_kept values old new s b rules keys move
