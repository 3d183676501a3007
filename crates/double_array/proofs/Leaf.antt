-- A free cell becomes the child of a state: all steps are kept, and one more leads to it.
use Rattle.std.proofs.Common.{◌≡◌, ◌≢◌, ℕ, ◌+◌, ◌<◌, ◌≤◌, ℤ, pos, negsuc, ◌+ℤ◌, List, [], ◌∷◌, ◌++◌, length, set, Some, inl, inr, sym, ap, ◌∙◌, refl, arith, subst}
use Rattle.std.proofs.lemmas.Bool.{cases_eq}
use Rattle.std.proofs.lemmas.List.{length-set, append_assoc}
use Rattle.std.proofs.lemmas.Option.{same_Some}
use Rattle.mj_model.specs.CellMap.{Cell, free_cell, cell_at, base, check, step, walk, codes_of, value_of, HasSameMap, IsMapWith}
use Rattle.mj_model.specs.CellRules.{IsBaseAfter, MeetsRules, IsOnKey, AreOnKeys}
use Rattle.mj_model.proofs.CellWalks.{step_parts, step_from, step_named, step_at, child_of, walk_one, walk_none, walk_first, walk_more, walk_is_one, leads_back, IsValueAt, value_parts, value_from, same_value}
use Rattle.double_array.proofs.CellMoveLaw.{free_no_check, free_no_base}
use Rattle.mj_model.proofs.Basics.{same_pos}
use Rattle.double_array.specs.Tail.{IsOnTail, AreOnKeysOrTail}
use Rattle.double_array.proofs.ViewLemmas.{at_same, at_other}
use Rattle.mj_model.proofs.KeyWalks.{same_key}
use Rattle.double_array.proofs.Moving.{based_within}

module _ (values : ℕ) (old : List Cell) (s c t from : ℕ) (z : ℤ) (rules : MeetsRules values old) (based : base old s ≡ pos from) (some : 1 ≤ from) (near : c ≤ 256) (place : t ≡ from + c)
    (free : cell_at old t ≡ free_cell) (within : t < length old) (content : IsBaseAfter values c z) (new : List Cell) (written : new ≡ set old t (z, pos s)) where
  pub leaf_at : cell_at new t ≡ (z, pos s)
  leaf_at = ap (λ (xs : List Cell). cell_at xs t) written ∙ at_same old t (z, pos s) within

  pub leaf_others : (j : ℕ) → j ≢ t → cell_at new j ≡ cell_at old j
  leaf_others j other = ap (λ (xs : List Cell). cell_at xs j) written ∙ at_other old t j (z, pos s) other

  state_other : s ≢ t
  state_other e = free_no_base old t from free (ap (base old) (sym e) ∙ based) some

  state_of_other : (u w : ℕ) → check old w ≡ pos u → u ≢ t
  state_of_other u w named e = let i = child_of values old u w rules named in free_no_base old t i.from free (ap (base old) (sym e) ∙ i.based) i.positive

  used_other : (w u : ℕ) → check old w ≡ pos u → w ≢ t
  used_other w u named e = free_no_check old t u free (ap (check old) (sym e) ∙ named)

  pub leaf_step : step new s c ≡ Some t
  leaf_step = step_at new s c t from (ap (λ (x : Cell). x.0) (leaf_others s state_other) ∙ based) place (ap (λ (x : Cell). x.1) leaf_at)

  pub leaf_has_no_child : (w : ℕ) → check new w ≡ pos t → ⊥
  leaf_has_no_child w named = elim (cases_eq w t) [
    | inl e ↦ state_other (same_pos s t (sym (ap (λ (x : Cell). x.1) leaf_at) ∙ ap (check new) (sym e) ∙ named))
    | inr other ↦ state_of_other t w (sym (ap (λ (x : Cell). x.1) (leaf_others w other)) ∙ named) refl
  ]

  pub step_stays : (u d w : ℕ) → step old u d ≡ Some w → step new u d ≡ Some w
  step_stays u d w h =
      let named = step_named old u d w h in
      let u_other = state_of_other u w named in
      let w_other = used_other w u named in
      step_from new u d w (ap (λ (x : Cell). x.0 +ℤ pos d) (leaf_others u u_other) ∙ (step_parts old u d w h).0) (ap (λ (x : Cell). x.1) (leaf_others w w_other) ∙ named)

  step_was : (u d w : ℕ) → step new u d ≡ Some w → w ≢ t → step old u d ≡ Some w
  step_was u d w h other =
      let named = step_named new u d w h in
      let u_other : u ≢ t = λ e. leaf_has_no_child w (named ∙ ap pos e) in
      step_from old u d w (sym (ap (λ (x : Cell). x.0 +ℤ pos d) (leaf_others u u_other)) ∙ (step_parts new u d w h).0) (sym (ap (λ (x : Cell). x.1) (leaf_others w other)) ∙ named)

  pub walk_stays : (u : ℕ) (cs : List ℕ) (w : ℕ) → walk old u cs ≡ Some w → walk new u cs ≡ Some w
  walk_stays u [] w h = walk_none new u ∙ sym (walk_none old u) ∙ h
  walk_stays u (d ∷ cs) w h = let f = walk_first old u d cs w h in walk_one new u d cs f.0 (step_stays u d f.0 f.1) ∙ walk_stays f.0 cs w f.2

  stuck : (cs : List ℕ) (w : ℕ) → walk new t cs ≡ Some w → w ≡ t
  stuck [] w h = sym (same_Some t w (sym (walk_none new t) ∙ h))
  stuck (d ∷ cs) w h = let f = walk_first new t d cs w h in absurd (leaf_has_no_child f.0 (step_named new t d f.0 f.1))

  walk_was : (u : ℕ) (cs : List ℕ) (w : ℕ) → walk new u cs ≡ Some w → w ≢ t → walk old u cs ≡ Some w
  walk_was u [] w h other = walk_none old u ∙ sym (walk_none new u) ∙ h
  walk_was u (d ∷ cs) w h other =
      let f = walk_first new u d cs w h in
      let on : f.0 ≢ t = λ e. other (stuck cs w (ap (λ (k : ℕ). walk new k cs) (sym e) ∙ f.2)) in
      walk_one old u d cs f.0 (step_was u d f.0 f.1 on) ∙ walk_was f.0 cs w f.2 other

  -- ---- the rules

  root_other : 0 ≢ t
  root_other e = omega (arith, e, place, some)

  pub leaf_rules : MeetsRules values new
  leaf_rules = record {
    root_check = ap (λ (x : Cell). x.1) (leaf_others 0 root_other) ∙ rules.root_check;
    root_base = (rules.root_base.0, ap (λ (x : Cell). x.0) (leaf_others 0 root_other) ∙ rules.root_base.1);
    others = λ j above less. elim (cases_eq j t) [
      | inl e ↦ inr (record {
        state = s;
        from = from;
        code = c;
        named = ap (check new) e ∙ ap (λ (x : Cell). x.1) leaf_at;
        within = let w = based_within old s from based some in let l = long in omega (arith, w, l);
        based = ap (λ (x : Cell). x.0) (leaf_others s state_other) ∙ based;
        positive = some;
        near = near;
        place = e ∙ place;
        holds = subst (IsBaseAfter values c) (sym (ap (base new) e ∙ ap (λ (x : Cell). x.0) leaf_at)) content;
      })
      | inr other ↦ elim (rules.others j above (let l = long in omega (arith, less, l))) [
        | inl free_j ↦ inl (leaf_others j other ∙ free_j)
        | inr u ↦ inr (record {
          state = u.state;
          from = u.from;
          code = u.code;
          named = ap (λ (x : Cell). x.1) (leaf_others j other) ∙ u.named;
          within = let l = long in omega (arith, l, u.within);
          based = ap (λ (x : Cell). x.0) (leaf_others u.state (state_of_other u.state j u.named)) ∙ u.based;
          positive = u.positive;
          near = u.near;
          place = u.place;
          holds = subst (IsBaseAfter values u.code) (sym (ap (λ (x : Cell). x.0) (leaf_others j other))) u.holds;
        })
      ]
    ];
  } where
    long : length new ≡ length old
    long = ap length written ∙ length-set old t (z, pos s)

  -- ---- values

  pub value_stays : (key : List ℕ) (v : ℕ) → value_of old key ≡ Some v → value_of new key ≡ Some v
  value_stays key v h =
      let p = value_parts old key v h in
      let other : p.0 ≢ t = λ e. let k : pos 0 ≡ negsuc v = sym (ap (λ (x : Cell). x.0) free) ∙ ap (base old) (sym e) ∙ p.1.holds in absurd (cc) in
      value_from new key v p.0 (record { some = p.1.some; led = walk_stays 0 (codes_of key) p.0 p.1.led; holds = ap (λ (x : Cell). x.0) (leaf_others p.0 other) ∙ p.1.holds })

  value_was : (key : List ℕ) (v w : ℕ) → IsValueAt new key v w → w ≢ t → value_of old key ≡ Some v
  value_was key v w i other =
      value_from old key v w (record { some = i.some; led = walk_was 0 (codes_of key) w i.led other; holds = sym (ap (λ (x : Cell). x.0) (leaf_others w other)) ∙ i.holds })

  -- a state without a value changes nothing in the map
  pub state_keeps_map : (b : ℕ) → z ≡ pos b → HasSameMap old new
  state_keeps_map b is key = same_value old new key (value_stays key) (λ v h.
      let p = value_parts new key v h in value_was key v p.0 p.1 (λ e. let k : pos b ≡ negsuc v = sym is ∙ sym (ap (λ (x : Cell). x.0) leaf_at) ∙ ap (base new) (sym e) ∙ p.1.holds in absurd (cc)))

  -- the cell of a key's last code sets the key's value
  pub value_is_set : (key front : List ℕ) (v : ℕ) → z ≡ negsuc v → 0 < length key → codes_of key ≡ front ++ c ∷ [] → walk old 0 front ≡ Some s → IsMapWith old new key v
  value_is_set key front v is some_key whole led =
      let end : walk new 0 (codes_of key) ≡ Some t = ap (walk new 0) whole ∙ walk_more new front s c t (walk_stays 0 front s led) leaf_step in
      record {
        there = value_from new key v t (record { some = some_key; led = end; holds = ap (λ (x : Cell). x.0) leaf_at ∙ is });
        others = λ other apart. same_value old new other (value_stays other) (λ w h.
            let p = value_parts new other w h in
            value_was other w p.0 p.1 (λ e. apart (same_key other key (walk_is_one values new (codes_of other) (codes_of key) t leaf_rules (p.1.led ∙ ap Some e) end))));
      }

  -- ---- keys

  pub on_key_stays : (u : ℕ) → IsOnKey old u → IsOnKey new u
  on_key_stays u k =
      let led = walk_stays 0 k.front u k.led in
      record { key = k.key; value = k.value; there = value_stays k.key k.value k.there; front = k.front; back = k.back; codes = k.codes; led = led; back_to_root = leads_back new k.front u led }

  on_way_stays : (codes : List ℕ) (u : ℕ) → IsOnTail old codes u → IsOnTail new codes u
  on_way_stays codes u k = record { front = k.front; back = k.back; whole = k.whole; led = walk_stays 0 k.front u k.led }

  -- the new cell is on the walk of the codes that lead to its state
  pub leaf_on_way : (codes front back : List ℕ) → codes ≡ front ++ c ∷ back → walk old 0 front ≡ Some s → AreOnKeysOrTail old codes → AreOnKeysOrTail new codes
  leaf_on_way codes front back whole led keys u q named = elim (cases_eq u t) [
    | inl e ↦ inr (record {
      front = front ++ c ∷ [];
      back = back;
      whole = append_assoc front (c ∷ []) back ∙ sym whole;
      led = walk_more new front s c t (walk_stays 0 front s led) leaf_step ∙ ap Some (sym e);
    })
    | inr other ↦ elim (keys u q (sym (ap (λ (x : Cell). x.1) (leaf_others u other)) ∙ named)) [
      | inl k ↦ inl (on_key_stays u k)
      | inr w ↦ inr (on_way_stays codes u w)
    ]
  ]

-- if the codes are those of a key of the map, every used cell lies on the walk of a key
pub on_way_is_on_key : (cells : List Cell) (key : List ℕ) (v : ℕ) → value_of cells key ≡ Some v → AreOnKeysOrTail cells (codes_of key) → AreOnKeys cells
on_way_is_on_key cells key v there keys t q named = elim (keys t q named) [
  | inl k ↦ k
  | inr w ↦ record { key = key; value = v; there = there; front = w.front; back = w.back; codes = w.whole; led = w.led; back_to_root = leads_back cells w.front t w.led }
]
