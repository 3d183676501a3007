-- The words of any list, at each position, are words of a text.
use Rattle.std.proofs.Common.{◌≡◌, ℕ, zero, suc, ◌+◌, ◌<◌, ◌≤◌, ◌^◌, Bool, true, false, cond, List, [], ◌∷◌, ◌++◌, slice_get, drop, length, flat_map, Contains, Option, Some, refl, sym, ap, ◌∙◌, subst, arith}
use Rattle.std.specs.List.{AllByRecursion}
use Rattle.std.specs.Option.{option_map_or}
use Rattle.std.proofs.lemmas.List.{drop_more}
use Rattle.std.specs.Prelude.{pos, negsuc, nat_eq, nat_lt, nat_le, int_lt}
use Rattle.std.proofs.lemmas.Int.{ints}
use Rattle.std.proofs.lemmas.Bool.{eqb-true, ltb-true, leb-true, and_parts}
use Rattle.std.proofs.lemmas.Option.{same_Some, slice_get_within}
use Rattle.mj_model.specs.declared.word.Word.{Word}
use Rattle.mj_model.specs.declared.word.Origin.TheVariants.{Known}
use Rattle.mj_model.specs.Bounds.{IsWithin}
use Rattle.mj_model.specs.Searchable.{IsSearchable}
use Rattle.mj_model.specs.declared.paths.surface.Surface.{Surface}
use Rattle.mj_model.specs.Surfaces.{AreSurfacesOf, IsWhole, HasSameSpan}
use Rattle.search_tests.specs.Sample.{lies_at, numbered, sample_connection, sample_surfaces, sample_words, surface_of, words_numbered}
use Rattle.viterbi.proofs.Pushed.{get_from_Contains}

-- A word that lies at `p`, with a number of at least `k`.
record Lies (k len p : ℕ) (w : Word) : Type 0 where
  here : lies_at len p w ≡ true
  number : ℕ
  least : k ≤ number
  known : w.origin ≡ Known number 0

later : (k len p : ℕ) (w : Word) → Lies (k + 1) len p w → Lies k len p w
later k len p w l = let le = l.least in record { here = l.here; number = l.number; least = omega (arith, le); known = l.known }

lies_case : (v w : Word) (rest : List Word) (k len p i : ℕ) (b : Bool) → lies_at len p v ≡ b → ((j : ℕ) → slice_get rest j ≡ Some w → Lies k len p w)
    → slice_get (cond b (numbered k v ∷ []) [] ++ rest) i ≡ Some w → Lies k len p w
lies_case v w rest k len p i false e more h = more i h
lies_case v w rest k len p zero true e more h = subst (Lies k len p) (same_Some (numbered k v) w h) (record { here = e; number = k; least = omega arith; known = refl })
lies_case v w rest k len p (suc i) true e more h = more i h

lies : (ws : List Word) (k len p i : ℕ) (w : Word) → slice_get (sample_words ws k len p) i ≡ Some w → Lies k len p w
lies [] k len p i w h = absurd (cc)
lies (v ∷ vs) k len p i w h = lies_case v w (sample_words vs (k + 1) len p) k len p i (lies_at len p v) refl (λ j g. later k len p w (lies vs (k + 1) len p j w g)) h

-- A word with the number `k` differs from all words with greater numbers.
not_later : (v w : Word) (k len p : ℕ) → Some (numbered k v) ≡ Some w → Lies (k + 1) len p w → ⊥
not_later v w k len p same l =
    let e : Known k 0 ≡ Known l.number 0 = ap (λ (u : Word). u.origin) (same_Some (numbered k v) w same) ∙ l.known in
    let n : k ≡ l.number = cc in
    let le = l.least in
    omega (arith, n, le)

once_case : (v w : Word) (rest : List Word) (k len p i j : ℕ) (b : Bool) → ((n : ℕ) → slice_get rest n ≡ Some w → Lies (k + 1) len p w) → ((m n : ℕ) → slice_get rest m ≡ Some w → slice_get rest n ≡ Some w → m ≡ n)
    → slice_get (cond b (numbered k v ∷ []) [] ++ rest) i ≡ Some w → slice_get (cond b (numbered k v ∷ []) [] ++ rest) j ≡ Some w → i ≡ j
once_case v w rest k len p i j false up more g h = more i j g h
once_case v w rest k len p zero zero true up more g h = refl
once_case v w rest k len p zero (suc j) true up more g h = absurd (not_later v w k len p g (up j h))
once_case v w rest k len p (suc i) zero true up more g h = absurd (not_later v w k len p h (up i g))
once_case v w rest k len p (suc i) (suc j) true up more g h = ap suc (more i j g h)

once : (ws : List Word) (k len p i j : ℕ) (w : Word) → slice_get (sample_words ws k len p) i ≡ Some w → slice_get (sample_words ws k len p) j ≡ Some w → i ≡ j
once [] k len p i j w g h = absurd (cc)
once (v ∷ vs) k len p i j w g h = once_case v w (sample_words vs (k + 1) len p) k len p i j (lies_at len p v) (λ n. lies vs (k + 1) len p n w) (λ m n. once vs (k + 1) len p m n w) g h

record Fields (len p : ℕ) (w : Word) : Type 0 where
  place : w.place ≡ p
  goes_on : p < w.end
  within : w.end ≤ len
  cost : IsWithin (2 ^ 15) w.cost

fields : (len p : ℕ) (w : Word) → lies_at len p w ≡ true → Fields len p w
fields len p w here =
    let high = and_parts _ (int_lt w.cost (pos 1000)) here in
    let low = and_parts _ (int_lt (negsuc 999) w.cost) high.0 in
    let end = and_parts _ (nat_le w.end len) low.0 in
    let both = and_parts (nat_eq w.place p) (nat_lt p w.end) end.0 in
    record {
      place = eqb-true w.place p both.0;
      goes_on = ltb-true p w.end both.1;
      within = leb-true w.end len end.1;
      cost = (grind (arith, ints), grind (arith, ints));
    }

fields_of : (ws : List Word) (len p : ℕ) (w : Word) → Contains (sample_words ws 0 len p) w → Fields len p w
fields_of ws len p w h = let g = get_from_Contains (sample_words ws 0 len p) w h in fields len p w (lies ws 0 len p g.0 w g.1).here

connection_within : (r l : Bool) → IsWithin (2 ^ 15) (cond r (cond l (pos 0) (pos 10)) (cond l (pos 5) (pos 7)))
connection_within true true = (omega (arith, ints), omega (arith, ints))
connection_within true false = (omega (arith, ints), omega (arith, ints))
connection_within false true = (omega (arith, ints), omega (arith, ints))
connection_within false false = (omega (arith, ints), omega (arith, ints))

pub sample_is_searchable : (ws : List Word) (len : ℕ) → len ≤ 2 ^ 20 → IsSearchable (λ p. Unit {0}) (λ r l. Unit {0}) (sample_words ws 0 len) sample_connection len
sample_is_searchable ws len short = record {
  source = record {
    are = record {
      places = λ p w h. (fields_of ws len p w h).place;
      go_on = λ p w h. (fields_of ws len p w h).goes_on;
      within = λ p w h. (fields_of ws len p w h).within;
      distinct = λ p i j w. once ws 0 len p i j w;
    };
    costs = λ p w h. (fields_of ws len p w h).cost;
    connections = λ r l. connection_within (nat_eq r 0) (nat_eq l 0);
  };
  short = short;
  places = record { begins = tt; word_ends_there = λ p w h. tt };
  eos_follows = record { after_bos = tt; after_word = λ p w h. tt };
  word_follows = λ p w h. record { after_bos = tt; after_word = λ q v g. tt };
}

-- ---- as surfaces

first_dropped : (all ws : List Word) (k : ℕ) (w : Word) → drop k all ≡ w ∷ ws → slice_get all k ≡ Some w
first_dropped [] ws zero w e = absurd (cc)
first_dropped [] ws (suc k) w e = absurd (cc)
first_dropped (v ∷ vs) ws zero w e = ap (λ (us : List Word). slice_get us 0) e
first_dropped (v ∷ vs) ws (suc k) w e = first_dropped vs ws k w e

others_dropped : (all ws : List Word) (k : ℕ) (w : Word) → drop k all ≡ w ∷ ws → drop (k + 1) all ≡ ws
others_dropped all ws k w e = ap (drop 1) (sym (drop_more all k w (slice_get_within all k w (first_dropped all ws k w e)))) ∙ ap (drop 1) e

one_sample : (all : List Word) (k : ℕ) (w : Word) → slice_get all k ≡ Some w → words_numbered all (surface_of k w) ≡ numbered k w ∷ []
one_sample all k w at = ap (λ (o : Option Word). option_map_or (λ (v : Word). numbered k v ∷ []) o []) at

sample_is_whole : (all : List Word) (k : ℕ) (w : Word) → slice_get all k ≡ Some w → IsWhole (words_numbered all) (surface_of k w)
sample_is_whole all k w at =
    let e = one_sample all k w at in
    record { count_is = ap length e; some = omega arith; same_spans = subst (AllByRecursion (HasSameSpan (surface_of k w))) (sym e) (record { place = refl; start = refl; end = refl }, tt) }

are_case : (all : List Word) (k : ℕ) (w : Word) (words : List Word) (surfaces : List Surface) (b : Bool) → slice_get all k ≡ Some w → AreSurfacesOf (words_numbered all) words surfaces
    → AreSurfacesOf (words_numbered all) (cond b (numbered k w ∷ []) [] ++ words) (cond b (surface_of k w ∷ []) [] ++ surfaces)
are_case all k w words surfaces false at are = are
are_case all k w words surfaces true at are = record {
  joined = ap (λ (ws : List Word). ws ++ flat_map (words_numbered all) surfaces) (one_sample all k w at) ∙ ap (λ (ws : List Word). numbered k w ∷ ws) are.joined;
  whole = (sample_is_whole all k w at, are.whole);
}

samples_from : (all ws : List Word) (k len p : ℕ) → drop k all ≡ ws → AreSurfacesOf (words_numbered all) (sample_words ws k len p) (sample_surfaces ws k len p)
samples_from all [] k len p e = record { joined = refl; whole = tt }
samples_from all (w ∷ ws) k len p e = are_case all k w (sample_words ws (k + 1) len p) (sample_surfaces ws (k + 1) len p) (lies_at len p w) (first_dropped all ws k w e) (samples_from all ws (k + 1) len p (others_dropped all ws k w e))

pub are_samples : (all : List Word) (len p : ℕ) → AreSurfacesOf (words_numbered all) (sample_words all 0 len p) (sample_surfaces all 0 len p)
are_samples all len p = samples_from all all 0 len p refl
