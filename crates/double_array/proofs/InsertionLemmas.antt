-- An insertion, from its steps.
use Rattle.std.proofs.Common.{◌≡◌, ◌≢◌, ℕ, suc, ◌+◌, ◌-◌, ◌<◌, ◌≤◌, ◌^◌, ◌+ℤ◌, pos, negsuc, List, length, set, take, get_or, Option, Some, None, inl, inr, sym, ap, ◌∙◌, refl, arith, subst}
use Rattle.std.specs.Prelude.{Result, Ok, Err}
use Rattle.std.specs.Result.{OnOk, is_ok}
use Rattle.std.proofs.lemmas.Bool.{cases_eq, cases_lt}
use Rattle.std.proofs.lemmas.List.{length-set}
use Rattle.std.proofs.lemmas.Option.{none-some}
use Rattle.mj_model.specs.CellMap.{Cell, cell_at, base, check, step, walk, codes_of, value_of, HasSameMap, IsMapWith}
use Rattle.mj_model.specs.CellRules.{IsBaseAfter}
use Rattle.mj_model.proofs.CellWalks.{step_parts, step_from, step_named, step_place, step_child, named_within, walk_none, walk_more, value_from}
use Rattle.mj_model.proofs.Basics.{same_pos}
use Rattle.double_array.specs.declared.insertion.LongestMatch.{LongestMatch}
use Rattle.double_array.specs.Pool.{Pool, IsGrown, IsInUse}
use Rattle.double_array.specs.Pool.IsInUse.{is_named}
use Rattle.double_array.specs.Built.{values, MeetsInvariants, IsCleared}
use Rattle.double_array.specs.Tail.{IsReady}
use Rattle.double_array.specs.Insertion.{IsLongestMatch, HasRoom}
use Rattle.double_array.proofs.RoomLemmas.{started_same}
use Rattle.double_array.proofs.ViewLemmas.{at_same}
use Rattle.mj_model.proofs.KeyWalks.{length-codes_of, code_of_byte, code_of_end, codes_end, walk_take_more, no_value_by_stop}
use Rattle.double_array.proofs.Valued.{walk_same, map_same, keys_same, rules_same, valued_others, valued_rules, value_replaced, keys_valued}

-- ---- steps

pub step_or_none : (cells : List Cell) (s c : ℕ) → ((t : ℕ) → step cells s c ≡ Some t → ⊥) → step cells s c ≡ None
step_or_none cells s c none = by_option (step cells s c) none where
  by_option : (o : Option ℕ) → ((t : ℕ) → o ≡ Some t → ⊥) → o ≡ None
  by_option None h = refl
  by_option (Some t) h = absurd (h t refl)

pub no_child_no_step : (cells : List Cell) (s from c : ℕ) → base cells s ≡ pos from → (check cells (from + c) ≡ pos s → ⊥) → step cells s c ≡ None
no_child_no_step cells s from c at none = step_or_none cells s c (λ t h. none (ap (check cells) (sym (step_place cells s c t from h at)) ∙ step_named cells s c t h))

-- a step on a byte leads to a state with a base
pub byte_state : (pool : Pool) (s byte t : ℕ) → MeetsInvariants pool → step pool.cells s (byte + 1) ≡ Some t → (b : ℕ) × (base pool.cells t ≡ pos b) × (2 ≤ b) × (b ≤ pool.top)
byte_state pool s byte t built h =
    let e : byte + 1 ≡ suc byte = omega arith in
    let content = subst (λ (c : ℕ). IsBaseAfter values c (base pool.cells t)) e (step_child values pool.cells s (byte + 1) t built.rules h).1 in
    let r = built.bases t content.0 content.2 (let a = content.1 in omega (arith, a)) in
    (content.0, content.2, r.0, r.1)

-- a walk over the bytes of a key, in progress
pub record IsWalked (pool : Pool) (key : List ℕ) (used state from : ℕ) : Type 0 where
  pub led : walk pool.cells 0 (take used (codes_of key)) ≡ Some state
  pub based : base pool.cells state ≡ pos from
  pub least : 2 ≤ from
  pub low : from ≤ pool.top

pub walked_none : (pool : Pool) (key : List ℕ) (from : ℕ) → MeetsInvariants pool → base pool.cells 0 ≡ pos from → IsWalked pool key 0 0 from
walked_none pool key from built at =
    let same : built.root.0 ≡ from = same_pos built.root.0 from (sym built.root.1 ∙ at) in
    let least : 2 ≤ from = let l = built.root.2 in omega (arith, l, same) in
    record { led = walk_none pool.cells 0; based = at; least = least; low = (built.bases 0 from at (omega (arith, least))).1 }

pub walked_more : (pool : Pool) (key : List ℕ) (used state from next next_from : ℕ) → MeetsInvariants pool → IsWalked pool key used state from → used < length key → step pool.cells state (get_or key used 0 + 1) ≡ Some next → base pool.cells next ≡ pos next_from
    → IsWalked pool key (used + 1) next next_from
walked_more pool key used state from next next_from built w less h at =
    let b = byte_state pool state (get_or key used 0) next built h in
    let same : b.0 ≡ next_from = same_pos b.0 next_from (sym b.1 ∙ at) in
    let coded : used < length (codes_of key) = let e = length-codes_of key in omega (arith, e, less) in
    record {
      led = walk_take_more pool.cells (codes_of key) used state (get_or key used 0 + 1) next coded (code_of_byte key used less) w.led h;
      based = at;
      least = let l = b.2 in omega (arith, l, same);
      low = let l = b.3 in omega (arith, l, same);
    }

pub walked_stopped : (pool : Pool) (key : List ℕ) (used state from : ℕ) → IsWalked pool key used state from → used < length key → step pool.cells state (get_or key used 0 + 1) ≡ None → IsLongestMatch pool.cells key (record { state = state; from = from; used = used })
walked_stopped pool key used state from w less none = record {
  within = omega (arith, less);
  led = w.led;
  based = w.based;
  least = w.least;
  stopped = λ below. ap (step pool.cells state) (code_of_byte key used less) ∙ none;
}

pub walked_all : (pool : Pool) (key : List ℕ) (used state from n : ℕ) → IsWalked pool key used state from → used ≡ length key → n ≡ length key → IsLongestMatch pool.cells key (record { state = state; from = from; used = n })
walked_all pool key used state from n w all whole = record {
  within = omega (arith, whole);
  led = ap (λ (k : ℕ). walk pool.cells 0 (take k (codes_of key))) (whole ∙ sym all) ∙ w.led;
  based = w.based;
  least = w.least;
  stopped = λ below. absurd (omega (arith, below, whole));
}

-- ---- room

pub grown_built : (old new : Pool) (n long left : ℕ) → MeetsInvariants old → IsGrown old.cells new.cells n → new.top ≡ old.top → n ≡ length old.cells + long + 600 → n ≤ 2 ^ 30 → left ≤ long → HasRoom old new long left
grown_built old new n long left built grown top n_is few less =
    let more = grown.long in
    record {
      built = record {
        rules = rules_same values old.cells new.cells grown.same (omega (arith, more, n_is)) built.rules;
        on_keys = keys_same old.cells new.cells grown.same built.on_keys;
        bases = λ t b at above. let r = built.bases t b (sym (ap (λ (x : Cell). x.0) (grown.same t)) ∙ at) above in (r.0, (let l = r.1 in omega (arith, l, top)));
        root = (built.root.0, ap (λ (x : Cell). x.0) (grown.same 0) ∙ built.root.1, built.root.2);
        started = started_same old.cells new.cells grown.same built.started;
        room = let r = built.room in omega (arith, r, top, more, n_is);
        few = omega (arith, more, few);
      };
      same = grown.same;
      room = let r = built.room in omega (arith, r, top, more, n_is, less);
      least = omega (arith, more, n_is);
      most = omega (arith, more, n_is);
    }

-- ---- a key of the map

module _ (old : Pool) (key : List ℕ) (at : LongestMatch) (code end : ℕ) (built : MeetsInvariants old) (some : 0 < length key) (reached : IsLongestMatch old.cells key at) (code_is : code ≡ get_or (codes_of key) at.used 0) (there : Some end ≡ step old.cells at.state code) where
  all_used : at.used ≡ length key
  all_used = elim (cases_lt at.used (length key)) [
    | inl less ↦ absurd (none-some end (sym (reached.stopped less) ∙ ap (step old.cells at.state) (sym code_is) ∙ sym there))
    | inr above ↦ let w = reached.within in omega (arith, above, w)
  ]

  last_code : code ≡ 0
  last_code = code_is ∙ ap (λ (n : ℕ). get_or (codes_of key) n 0) all_used ∙ code_of_end key

  end_step : step old.cells at.state 0 ≡ Some end
  end_step = ap (step old.cells at.state) (sym last_code) ∙ sym there

  pub end_led : walk old.cells 0 (codes_of key) ≡ Some end
  end_led =
      ap (walk old.cells 0) (codes_end key)
      ∙ walk_more old.cells (take (length key) (codes_of key)) at.state 0 end (ap (λ (n : ℕ). walk old.cells 0 (take n (codes_of key))) (sym all_used) ∙ reached.led) end_step

  pub end_holds : (v : ℕ) × (v < values) × (base old.cells end ≡ negsuc v)
  end_holds = (step_child values old.cells at.state 0 end built.rules end_step).1

  pub end_within : end < length old.cells
  end_within = named_within old.cells end at.state (step_named old.cells at.state 0 end end_step)

  pub end_in_use : IsInUse old.cells end
  end_in_use = is_named {s = at.state} (step_named old.cells at.state 0 end end_step)

  module _ (new : Pool) (value v : ℕ) (below : value < values) (holds : base old.cells end ≡ negsuc v) (cells_is : new.cells ≡ set old.cells end (negsuc value, check old.cells end)) (top_is : new.top ≡ old.top) where
    pub end_replaced : IsMapWith old.cells new.cells key value
    end_replaced = value_replaced values old.cells end v value built.rules holds below end_within new.cells cells_is key some end_led

    pub end_value : value_of old.cells key ≡ Some v
    end_value = value_from old.cells key v end (record { some = some; led = end_led; holds = holds })

    rest : (j : ℕ) → j ≢ end → cell_at new.cells j ≡ cell_at old.cells j
    rest = valued_others values old.cells end v value built.rules holds below end_within new.cells cells_is

    at_end : cell_at new.cells end ≡ (negsuc value, check old.cells end)
    at_end = ap (λ (xs : List Cell). cell_at xs end) cells_is ∙ at_same old.cells end (negsuc value, check old.cells end) end_within

    pub end_long : length new.cells ≡ length old.cells
    end_long = ap length cells_is ∙ length-set old.cells end (negsuc value, check old.cells end)

    pub end_built : MeetsInvariants new
    end_built = record {
      rules = valued_rules values old.cells end v value built.rules holds below end_within new.cells cells_is;
      on_keys = keys_valued values old.cells end v value built.rules holds below end_within new.cells cells_is key some end_led built.on_keys;
      bases = λ t b base_is above. elim (cases_eq t end) [
        | inl e ↦ absurd (let k : negsuc value ≡ pos b = sym (ap (λ (x : Cell). x.0) at_end) ∙ ap (base new.cells) (sym e) ∙ base_is in cc)
        | inr other ↦ let r = built.bases t b (sym (ap (λ (x : Cell). x.0) (rest t other)) ∙ base_is) above in (r.0, (let l = r.1 in omega (arith, l, top_is)))
      ];
      root = (built.root.0, ap (λ (x : Cell). x.0) (rest 0 (λ e. let k : pos built.root.0 ≡ negsuc v = sym built.root.1 ∙ ap (base old.cells) e ∙ holds in absurd (cc))) ∙ built.root.1, built.root.2);
      started = inl (end, at.state, ap (λ (x : Cell). x.1) at_end ∙ step_named old.cells at.state 0 end end_step);
      room = let r = built.room in let l = end_long in omega (arith, r, l, top_is);
      few = let f = built.few in let l = end_long in omega (arith, f, l);
    }

-- ---- a new key

module _ (old : Pool) (key : List ℕ) (at : LongestMatch) (code : ℕ) (built : MeetsInvariants old) (some : 0 < length key) (reached : IsLongestMatch old.cells key at) (code_is : code ≡ get_or (codes_of key) at.used 0) (none : step old.cells at.state code ≡ None) where
  pub absent : value_of old.cells key ≡ None
  absent =
      let coded : at.used < length (codes_of key) = let e = length-codes_of key in let w = reached.within in omega (arith, e, w) in
      no_value_by_stop old.cells key at.used at.state code some coded (sym code_is) reached.led none

  module _ (roomy : Pool) (room : HasRoom old roomy (length key) (length key - at.used)) where
    pub none_still : step roomy.cells at.state code ≡ None
    none_still = step_or_none roomy.cells at.state code (λ t h. none-some t (sym none ∙ step_from old.cells at.state code t
        (ap (λ (x : Cell). x.0 +ℤ pos code) (sym (room.same at.state)) ∙ (step_parts roomy.cells at.state code t h).0) (ap (λ (x : Cell). x.1) (sym (room.same t)) ∙ step_named roomy.cells at.state code t h)))

    module _ (cleared : Pool) (state wanted : ℕ) (clear : IsCleared roomy cleared at.state code state wanted) where
      pub ready : IsReady cleared key at.used state wanted
      ready = record {
        rules = clear.built.rules;
        keys = λ t q named. inl (clear.built.on_keys t q named);
        bases = clear.built.bases;
        root = clear.built.root;
        some_left = reached.within;
        led = clear.led (take at.used (codes_of key)) (walk_same old.cells roomy.cells room.same 0 (take at.used (codes_of key)) at.state reached.led);
        based = (clear.based.0, clear.based.1, clear.based.2, clear.based.3 ∙ ap (λ (c : ℕ). clear.based.0 + c) code_is);
        free = clear.free;
        room_wanted = let a = clear.low in let b = room.room in let l = clear.long in omega (arith, a, b, l);
        room_top = let a = clear.top in let b = room.room in let l = clear.long in omega (arith, a, b, l);
        few = clear.built.few;
      }

      pub map_before : HasSameMap old.cells cleared.cells
      map_before other = clear.map other ∙ map_same old.cells roomy.cells room.same other

-- a consequence of a success also holds if the error is converted
pub on_passed : {T E D A B P : Type 0} (given : Result T E) (passed : Result T D) → is_ok passed ≡ is_ok given → OnOk given A → OnOk given B → (A → B → P) → OnOk passed P
on_passed (Ok x) (Ok y) same a b f = f a b
on_passed (Ok x) (Err d) same a b f = tt
on_passed (Err e) (Ok y) same a b f = absurd (cc)
on_passed (Err e) (Err d) same a b f = tt
