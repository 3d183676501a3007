-- A key's value is replaced by another, or cells are the same by number.
use Rattle.std.proofs.Common.{◌≡◌, ◌≢◌, ℕ, zero, suc, ◌<◌, ◌≤◌, pos, negsuc, ◌+ℤ◌, List, [], ◌∷◌, length, set, Some, inl, inr, sym, ap, ◌∙◌, refl, arith, subst}
use Rattle.std.proofs.lemmas.Bool.{cases_eq, cases_lt}
use Rattle.std.proofs.lemmas.List.{length-set, get_or_past}
use Rattle.mj_model.specs.CellMap.{Cell, free_cell, cell_at, base, check, step, walk, codes_of, value_of, HasSameMap, IsMapWith}
use Rattle.mj_model.specs.CellRules.{IsBaseAfter, MeetsRules, AreOnKeys}
use Rattle.mj_model.proofs.CellWalks.{step_parts, step_from, step_named, child_of, walk_one, walk_none, walk_first, walk_is_one, leads_back, value_parts, value_from, same_value}
use Rattle.double_array.proofs.ViewLemmas.{at_same, at_other}
use Rattle.mj_model.proofs.KeyWalks.{same_key}

-- ---- cells that are the same by number

module _ (old new : List Cell) (same : (i : ℕ) → cell_at new i ≡ cell_at old i) where
  step_same : (u d w : ℕ) → step old u d ≡ Some w → step new u d ≡ Some w
  step_same u d w h = step_from new u d w (ap (λ (x : Cell). x.0 +ℤ pos d) (same u) ∙ (step_parts old u d w h).0) (ap (λ (x : Cell). x.1) (same w) ∙ step_named old u d w h)

  pub walk_same : (u : ℕ) (cs : List ℕ) (w : ℕ) → walk old u cs ≡ Some w → walk new u cs ≡ Some w
  walk_same u [] w h = walk_none new u ∙ sym (walk_none old u) ∙ h
  walk_same u (d ∷ cs) w h = let f = walk_first old u d cs w h in walk_one new u d cs f.0 (step_same u d f.0 f.1) ∙ walk_same f.0 cs w f.2

  value_same : (key : List ℕ) (v : ℕ) → value_of old key ≡ Some v → value_of new key ≡ Some v
  value_same key v h =
      let p = value_parts old key v h in
      value_from new key v p.0 (record { some = p.1.some; led = walk_same 0 (codes_of key) p.0 p.1.led; holds = ap (λ (x : Cell). x.0) (same p.0) ∙ p.1.holds })

pub map_same : (old new : List Cell) → ((i : ℕ) → cell_at new i ≡ cell_at old i) → HasSameMap old new
map_same old new same key = same_value old new key (value_same old new same key) (value_same new old (λ i. sym (same i)) key)

pub keys_same : (old new : List Cell) → ((i : ℕ) → cell_at new i ≡ cell_at old i) → AreOnKeys old → AreOnKeys new
keys_same old new same keys t q named =
    let k = keys t q (sym (ap (λ (x : Cell). x.1) (same t)) ∙ named) in
    let led = walk_same old new same 0 k.front t k.led in
    record { key = k.key; value = k.value; there = value_same old new same k.key k.value k.there; front = k.front; back = k.back; codes = k.codes; led = led; back_to_root = leads_back new k.front t led }

pub rules_same : (values : ℕ) (old new : List Cell) → ((i : ℕ) → cell_at new i ≡ cell_at old i) → length old ≤ length new → MeetsRules values old → MeetsRules values new
rules_same values old new same more rules = record {
  root_check = ap (λ (x : Cell). x.1) (same 0) ∙ rules.root_check;
  root_base = (rules.root_base.0, ap (λ (x : Cell). x.0) (same 0) ∙ rules.root_base.1);
  others = λ t above less. elim (cases_lt t (length old)) [
    | inl within ↦ elim (rules.others t above within) [
      | inl free ↦ inl (same t ∙ free)
      | inr u ↦ inr (record {
        state = u.state;
        from = u.from;
        code = u.code;
        named = ap (λ (x : Cell). x.1) (same t) ∙ u.named;
        within = omega (arith, more, u.within);
        based = ap (λ (x : Cell). x.0) (same u.state) ∙ u.based;
        positive = u.positive;
        near = u.near;
        place = u.place;
        holds = subst (IsBaseAfter values u.code) (sym (ap (λ (x : Cell). x.0) (same t))) u.holds;
      })
    ]
    | inr past ↦ inl (same t ∙ get_or_past old t free_cell past)
  ];
}

-- ---- a value cell gets another value

module _ (values : ℕ) (old : List Cell) (t before v : ℕ) (rules : MeetsRules values old) (holds : base old t ≡ negsuc before) (below : v < values) (within : t < length old) (new : List Cell) (written : new ≡ set old t (negsuc v, check old t)) where
  at_t : cell_at new t ≡ (negsuc v, check old t)
  at_t = ap (λ (xs : List Cell). cell_at xs t) written ∙ at_same old t (negsuc v, check old t) within

  pub valued_others : (j : ℕ) → j ≢ t → cell_at new j ≡ cell_at old j
  valued_others j other = ap (λ (xs : List Cell). cell_at xs j) written ∙ at_other old t j (negsuc v, check old t) other

  pub check_stays : (j : ℕ) → check new j ≡ check old j
  check_stays j = elim (cases_eq j t) [
    | inl e ↦ ap (check new) e ∙ ap (λ (x : Cell). x.1) at_t ∙ ap (check old) (sym e)
    | inr other ↦ ap (λ (x : Cell). x.1) (valued_others j other)
  ]

  no_state : (w u : ℕ) → check old w ≡ pos u → u ≢ t
  no_state w u named e =
      let i = child_of values old u w rules named in
      let k : pos i.from ≡ negsuc before = sym i.based ∙ ap (base old) e ∙ holds in absurd (cc)

  step_stays : (u d w : ℕ) → step old u d ≡ Some w → step new u d ≡ Some w
  step_stays u d w h =
      let named = step_named old u d w h in
      step_from new u d w (ap (λ (x : Cell). x.0 +ℤ pos d) (valued_others u (no_state w u named)) ∙ (step_parts old u d w h).0) (check_stays w ∙ named)

  step_was : (u d w : ℕ) → step new u d ≡ Some w → step old u d ≡ Some w
  step_was u d w h =
      let named : check old w ≡ pos u = sym (check_stays w) ∙ step_named new u d w h in
      step_from old u d w (sym (ap (λ (x : Cell). x.0 +ℤ pos d) (valued_others u (no_state w u named))) ∙ (step_parts new u d w h).0) named

  walk_stays : (u : ℕ) (cs : List ℕ) (w : ℕ) → walk old u cs ≡ Some w → walk new u cs ≡ Some w
  walk_stays u [] w h = walk_none new u ∙ sym (walk_none old u) ∙ h
  walk_stays u (d ∷ cs) w h = let f = walk_first old u d cs w h in walk_one new u d cs f.0 (step_stays u d f.0 f.1) ∙ walk_stays f.0 cs w f.2

  walk_was : (u : ℕ) (cs : List ℕ) (w : ℕ) → walk new u cs ≡ Some w → walk old u cs ≡ Some w
  walk_was u [] w h = walk_none old u ∙ sym (walk_none new u) ∙ h
  walk_was u (d ∷ cs) w h = let f = walk_first new u d cs w h in walk_one old u d cs f.0 (step_was u d f.0 f.1) ∙ walk_was f.0 cs w f.2

  content_stays : (code : ℕ) → IsBaseAfter values code (negsuc before) → IsBaseAfter values code (negsuc v)
  content_stays zero h = (v, below, refl)
  content_stays (suc code) h = absurd (let k : negsuc before ≡ pos h.0 = h.2 in cc)

  pub valued_rules : MeetsRules values new
  valued_rules = record {
    root_check = check_stays 0 ∙ rules.root_check;
    root_base = (rules.root_base.0, ap (λ (x : Cell). x.0) (valued_others 0 (λ e. let k : pos rules.root_base.0 ≡ negsuc before = sym rules.root_base.1 ∙ ap (base old) e ∙ holds in absurd (cc))) ∙ rules.root_base.1);
    others = λ j above less. elim (rules.others j above (let l = long in omega (arith, less, l))) [
      | inl free ↦ inl (valued_others j (λ e. let k : pos 0 ≡ negsuc before = sym (ap (λ (x : Cell). x.0) free) ∙ ap (base old) e ∙ holds in absurd (cc)) ∙ free)
      | inr u ↦ inr (record {
        state = u.state;
        from = u.from;
        code = u.code;
        named = check_stays j ∙ u.named;
        within = let l = long in omega (arith, l, u.within);
        based = ap (λ (x : Cell). x.0) (valued_others u.state (no_state j u.state u.named)) ∙ u.based;
        positive = u.positive;
        near = u.near;
        place = u.place;
        holds = elim (cases_eq j t) [
          | inl e ↦
              subst (IsBaseAfter values u.code) (sym (ap (base new) e ∙ ap (λ (x : Cell). x.0) at_t))
              (content_stays u.code (subst (IsBaseAfter values u.code) (ap (base old) e ∙ holds) u.holds))
          | inr other ↦ subst (IsBaseAfter values u.code) (sym (ap (λ (x : Cell). x.0) (valued_others j other))) u.holds
        ];
      })
    ];
  } where
    long : length new ≡ length old
    long = ap length written ∙ length-set old t (negsuc v, check old t)

  module _ (key : List ℕ) (some : 0 < length key) (led : walk old 0 (codes_of key) ≡ Some t) where
    pub value_replaced : IsMapWith old new key v
    value_replaced = record {
      there = value_from new key v t (record { some = some; led = walk_stays 0 (codes_of key) t led; holds = ap (λ (x : Cell). x.0) at_t });
      others = λ other apart. same_value old new other
          (λ w h.
          let p = value_parts old other w h in
          let no_t : p.0 ≢ t = λ e. apart (same_key other key (walk_is_one values old (codes_of other) (codes_of key) t rules (p.1.led ∙ ap Some e) led)) in
          value_from new other w p.0 (record { some = p.1.some; led = walk_stays 0 (codes_of other) p.0 p.1.led; holds = ap (λ (x : Cell). x.0) (valued_others p.0 no_t) ∙ p.1.holds }))
          (λ w h.
          let p = value_parts new other w h in
          let at = walk_was 0 (codes_of other) p.0 p.1.led in
          let no_t : p.0 ≢ t = λ e. apart (same_key other key (walk_is_one values old (codes_of other) (codes_of key) t rules (at ∙ ap Some e) led)) in
          value_from old other w p.0 (record { some = p.1.some; led = at; holds = sym (ap (λ (x : Cell). x.0) (valued_others p.0 no_t)) ∙ p.1.holds }));
    }

    -- a key of the map stays one
    still_there : (other : List ℕ) (w : ℕ) → value_of old other ≡ Some w → (x : ℕ) × (value_of new other ≡ Some x)
    still_there other w h =
        let p = value_parts old other w h in
        let at = walk_stays 0 (codes_of other) p.0 p.1.led in
        elim (cases_eq p.0 t) [
          | inl e ↦ (v, value_from new other v p.0 (record { some = p.1.some; led = at; holds = ap (base new) e ∙ ap (λ (x : Cell). x.0) at_t }))
          | inr no_t ↦ (w, value_from new other w p.0 (record { some = p.1.some; led = at; holds = ap (λ (x : Cell). x.0) (valued_others p.0 no_t) ∙ p.1.holds }))
        ]

    pub keys_valued : AreOnKeys old → AreOnKeys new
    keys_valued keys j q named =
        let k = keys j q (sym (check_stays j) ∙ named) in
        let s = still_there k.key k.value k.there in
        let at = walk_stays 0 k.front j k.led in
        record { key = k.key; value = s.0; there = s.1; front = k.front; back = k.back; codes = k.codes; led = at; back_to_root = leads_back new k.front j at }
