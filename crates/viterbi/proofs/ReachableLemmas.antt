-- The words that some chain reaches, with those of one more position: all of them if some chain
-- reaches it, and none otherwise. Chains reach the start of the text and the end of each reachable
-- word, and these positions are marked.
use Rattle.std.proofs.Common.{◌≡◌, ℕ, ◌+◌, ◌<◌, ◌≤◌, Bool, true, false, List, [], ◌∷◌, ◌++◌, length, set, get_or, take, flat_map, Contains, Some, ◌⊎◌, inl, inr, refl, sym, ap, ◌∙◌, subst, arith, slice_get}
use Rattle.std.specs.Prelude.{ℤ}
use Rattle.std.proofs.lemmas.Bool.{both_ways, cases_eq, cases_lt}
use Rattle.std.proofs.lemmas.List.{append_assoc, append-nil, length-append, length-set, length_push, take_more}
use Rattle.std.proofs.lemmas.List.Concat.{flat_map-append}
use Rattle.std.proofs.lemmas.Option.{get_or_from_slice_get, slice_get-get_or, slice_get_within}
use Rattle.mj_model.specs.declared.word.Word.{Word}
use Rattle.mj_model.specs.Best.{IsSource}
use Rattle.mj_model.specs.ReversedChains.{IsChainTo}
use Rattle.mj_model.specs.Searchable.{StaysOnPlaces}
use Rattle.mj_model.specs.declared.paths.surface.Surface.{Surface}
use Rattle.viterbi.proofs.Pushed.{Contains_from_get, get_from_Contains, get_push_cases}
use Rattle.viterbi.proofs.WordNumbers.{no_word}
use Rattle.viterbi.specs.Search.SearchedText.{CanBeSearched, SearchedText}
use Rattle.viterbi.specs.Nodes.LatticeNodes.{AreReachableBefore, ComesBefore, IsReached}
use Rattle.viterbi.specs.Nodes.ReachableWords.{AreIndexed, AreMarked, IsFirstFrom, IsReachedTo}
use Rattle.viterbi.proofs.Lists.{get_first, get_joined, get_second, get_written, set_elsewhere, set_here}

-- ---- a position's words, by surface

-- the words of one more surface
pub surfaces_more : (f : Surface → List Word) (ss : List Surface) (n : ℕ) (d : Surface) (old ws after : List Word) → n < length ss → ws ≡ old ++ flat_map f (take n ss) → after ≡ ws ++ f (get_or ss n d) → after ≡ old ++ flat_map f (take (n + 1) ss)
surfaces_more f ss n d old ws after less is pushed =
    let s = get_or ss n d in
    let split = ap (flat_map f) (take_more ss n d less) ∙ flat_map-append f (take n ss) (s ∷ []) ∙ ap (λ (xs : List Word). flat_map f (take n ss) ++ xs) (append-nil (f s)) in
    pushed ∙ ap (λ (xs : List Word). xs ++ f s) is ∙ append_assoc old (flat_map f (take n ss)) (f s) ∙ ap (λ (xs : List Word). old ++ xs) (sym split)

-- one more word
pub words_more : (xs old ws after : List Word) (i : ℕ) (w : Word) → slice_get xs i ≡ Some w → ws ≡ old ++ take i xs → after ≡ ws ++ w ∷ [] → after ≡ old ++ take (i + 1) xs
words_more xs old ws after i w at is pushed =
    let within = slice_get_within xs i w at in
    let split = take_more xs i w within ∙ ap (λ (x : Word). take i xs ++ x ∷ []) (get_or_from_slice_get xs i w w at) in
    pushed ∙ ap (λ (zs : List Word). zs ++ w ∷ []) is ∙ append_assoc old (take i xs) (w ∷ []) ∙ ap (λ (zs : List Word). old ++ zs) (sym split)

-- ---- marks

pub not_marked : (marks : List Bool) (place : ℕ) → get_or marks place false ≡ false → slice_get marks place ≡ Some true → ⊥
not_marked marks place none at = both_ways (get_or marks place false) none (get_or_from_slice_get marks place true false at)

-- the start of the text alone
pub marked_first : (marks : List Bool) → slice_get marks 0 ≡ Some true → ((place : ℕ) → slice_get marks place ≡ Some true → place ≡ 0) → AreMarked [] marks
marked_first marks begins only = record {
  begins = begins;
  ends = λ i w at. absurd (cc);
  marked = λ place at. inl (only place at);
}

-- a mark stays set
mark_stays : (marks : List Bool) (end place : ℕ) → end < length marks → slice_get marks place ≡ Some true → slice_get (set marks end true) place ≡ Some true
mark_stays marks end place within at = elim (cases_eq place end) [
  | inl same ↦ subst (λ (q : ℕ). slice_get (set marks end true) q ≡ Some true) (sym same) (set_here marks end true within)
  | inr other ↦ set_elsewhere marks end place true true other at
]

module _ (ws vs : List Word) (marks : List Bool) (end : ℕ) (m : AreMarked ws marks) (within : end < length marks) (appear : (j : ℕ) (w : Word) → slice_get vs j ≡ Some w → w.end ≡ end) (some : 0 < length vs) where
  ends_marked : (i : ℕ) (w : Word) → slice_get (ws ++ vs) i ≡ Some w → slice_get (set marks end true) w.end ≡ Some true
  ends_marked i w at = elim (get_joined ws vs i w at) [
    | inl old ↦ mark_stays marks end w.end within (m.ends i w old)
    | inr new ↦ subst (λ (q : ℕ). slice_get (set marks end true) q ≡ Some true) (sym (appear new.0 w new.2)) (set_here marks end true within)
  ]

  marked_ends : (place : ℕ) → slice_get (set marks end true) place ≡ Some true → (place ≡ 0) ⊎ ((i : ℕ) × (w : Word) × (slice_get (ws ++ vs) i ≡ Some w) × (w.end ≡ place))
  marked_ends place at = elim (get_written marks end place true true at) [
    | inl new ↦
        let w = get_or vs 0 no_word in
        let here = slice_get-get_or vs 0 no_word some in
        inr (length ws + 0, w, get_second ws vs 0 w here, appear 0 w here ∙ sym new.0)
    | inr old ↦ elim (m.marked place old.1) [ inl zero_is ↦ inl zero_is | inr f ↦ inr (f.0, f.1, get_first ws vs f.0 f.1 f.2, f.3) ]
  ]

  -- with the words of a surface, their end is marked
  pub marks_more : AreMarked (ws ++ vs) (set marks end true)
  marks_more = record {
    begins = mark_stays marks end 0 within m.begins;
    ends = ends_marked;
    marked = marked_ends;
  }

-- the first word of a later position does not come earlier
pub firsts_rise : (ws : List Word) (place later first next_ones : ℕ) → place ≤ later → IsFirstFrom ws place first → IsFirstFrom ws later next_ones → first ≤ next_ones
firsts_rise ws place later first next_ones le f g = elim (cases_lt next_ones first) [
  | inl less ↦
      let within = f.within in
      let w = get_or ws next_ones no_word in
      let at = slice_get-get_or ws next_ones no_word (omega (arith, less, within)) in
      let a = f.before next_ones w at less in
      let b = g.from next_ones w at (omega arith) in
      omega (arith, a, b, le)
  | inr more ↦ more
]

-- the words of a position are those between its first word and that of the next position
pub between_firsts : (ws : List Word) (place first next_ones i : ℕ) (w : Word) → IsFirstFrom ws place first → IsFirstFrom ws (place + 1) next_ones → slice_get ws i ≡ Some w → first ≤ i → i < next_ones → w.place ≡ place
between_firsts ws place first next_ones i w f g at low high =
    let a = f.from i w at low in
    let b = g.before i w at high in
    omega (arith, a, b)

module _ (words : ℕ → List Word) (conn : ℕ → ℕ → ℤ) (len : ℕ) (source : IsSource words conn len) where
  -- ---- chains

  -- a chain to a position leads to each of its words
  pub reached_after : (us : List Word) (p : ℕ) (w : Word) → IsChainTo words us p → Contains (words p) w → IsReached words w
  reached_after us p w h c =
      let e = source.are.places p w c in
      (us, (refl, subst (λ (q : ℕ). Contains (words q) w) (sym e) c, subst (IsChainTo words us) (sym e) h))

  -- no chain reaches a position without a mark
  pub no_chain : (ws : List Word) (marks : List Bool) (p : ℕ) → AreReachableBefore words p ws → AreMarked ws marks → (slice_get marks p ≡ Some true → ⊥) → (us : List Word) → IsChainTo words us p → ⊥
  no_chain ws marks p r m none [] h = none (subst (λ (q : ℕ). slice_get marks q ≡ Some true) (sym h) m.begins)
  no_chain ws marks p r m none (u ∷ us) h =
      let go = source.are.go_on u.place u h.1 in
      let at = get_from_Contains ws u (r.all u (us, (refl, h.1, h.2)) (omega (arith, go, h.0))) in
      none (subst (λ (q : ℕ). slice_get marks q ≡ Some true) h.0 (m.ends at.0 u at.1))

  -- some chain reaches a marked position
  pub some_chain : (ws : List Word) (marks : List Bool) (p : ℕ) → AreReachableBefore words p ws → AreMarked ws marks → slice_get marks p ≡ Some true → (us : List Word) × IsChainTo words us p
  some_chain ws marks p r m at = elim (m.marked p at) [
    | inl zero_is ↦ ([], zero_is)
    | inr f ↦ let b = r.each f.0 f.1 f.2 in (f.1 ∷ b.0, (f.3, b.1.1, b.1.2))
  ]

  -- and it is a valid position
  pub is_place_there : (is_place : ℕ → Type 0) (ws : List Word) (marks : List Bool) (p : ℕ) → StaysOnPlaces is_place words → AreReachableBefore words p ws → AreMarked ws marks → slice_get marks p ≡ Some true → is_place p
  is_place_there is_place ws marks p stays r m at = elim (m.marked p at) [
    | inl zero_is ↦ subst is_place (sym zero_is) stays.begins
    | inr f ↦ let b = r.each f.0 f.1 f.2 in subst is_place f.3 (stays.word_ends_there f.1.place f.1 b.1.1)
  ]

  -- ---- one more position

  pub none_before : AreReachableBefore words 0 []
  none_before = record {
    each = λ i w at. absurd (cc);
    below = λ i w at. absurd (cc);
    all = λ w h less. absurd (omega (arith, less));
    in_order = λ i j v w less at_v at_w. absurd (cc);
  }

  -- that no chain reaches
  pub place_passed : (ws : List Word) (p : ℕ) → ((us : List Word) → IsChainTo words us p → ⊥) → AreReachableBefore words p ws → AreReachableBefore words (p + 1) ws
  place_passed ws p none r = record {
    each = r.each;
    below = λ i w at. let l = r.below i w at in omega (arith, l);
    all = λ w h less. elim (cases_lt w.place p) [
      | inl before ↦ r.all w h before
      | inr more ↦ let e : w.place ≡ p = omega (arith, less, more) in absurd (none h.0 (subst (IsChainTo words h.0) e h.1.2))
    ];
    in_order = r.in_order;
  }

  module _ (ws : List Word) (p : ℕ) (us : List Word) (prefix_chain : IsChainTo words us p) (r : AreReachableBefore words p ws) where
    at_place : (j : ℕ) (w : Word) → slice_get (words p) j ≡ Some w → w.place ≡ p
    at_place j w at = source.are.places p w (Contains_from_get (words p) j w at)

    all_reached : (i : ℕ) (w : Word) → slice_get (ws ++ words p) i ≡ Some w → IsReached words w
    all_reached i w at = elim (get_joined ws (words p) i w at) [
      | inl old ↦ r.each i w old
      | inr new ↦ reached_after us p w prefix_chain (Contains_from_get (words p) new.0 w new.2)
    ]

    all_below : (i : ℕ) (w : Word) → slice_get (ws ++ words p) i ≡ Some w → w.place < p + 1
    all_below i w at = elim (get_joined ws (words p) i w at) [
      | inl old ↦ (let l = r.below i w old in omega (arith, l))
      | inr new ↦ (let e = at_place new.0 w new.2 in omega (arith, e))
    ]

    all_there : (w : Word) → IsReached words w → w.place < p + 1 → Contains (ws ++ words p) w
    all_there w h less = elim (cases_lt w.place p) [
      | inl before ↦
          let g = get_from_Contains ws w (r.all w h before) in
          Contains_from_get (ws ++ words p) g.0 w (get_first ws (words p) g.0 w g.1)
      | inr more ↦
          let e : w.place ≡ p = omega (arith, less, more) in
          let c : Contains (words p) w = subst (λ (q : ℕ). Contains (words q) w) e h.1.1 in
          let g = get_from_Contains (words p) w c in
          Contains_from_get (ws ++ words p) (length ws + g.0) w (get_second ws (words p) g.0 w g.1)
    ]

    new_order : (i j : ℕ) (v w : Word) → i < j → slice_get (words p) i ≡ Some v → slice_get (words p) j ≡ Some w → ComesBefore words v w
    new_order i j v w less at_v at_w =
        let e = at_place i v at_v in
        let f = at_place j w at_w in
        inr (
          e ∙ sym f,
          record {
            first = i;
            second = j;
            in_order = less;
            has_first = subst (λ (q : ℕ). slice_get (words q) i ≡ Some v) (sym e) at_v;
            has_second = subst (λ (q : ℕ). slice_get (words q) j ≡ Some w) (sym e) at_w;
          },
        )

    all_in_order : (i j : ℕ) (v w : Word) → i < j → slice_get (ws ++ words p) i ≡ Some v → slice_get (ws ++ words p) j ≡ Some w → ComesBefore words v w
    all_in_order i j v w less at_v at_w = elim (get_joined ws (words p) i v at_v) [
      | inl old ↦ elim (get_joined ws (words p) j w at_w) [
        | inl also ↦ r.in_order i j v w less old also
        | inr new ↦ (let l = r.below i v old in let e = at_place new.0 w new.2 in inl (omega (arith, l, e)))
      ]
      | inr new ↦ elim (get_joined ws (words p) j w at_w) [
        | inl old ↦ (let l = slice_get_within ws j w old in let e = new.1 in absurd (omega (arith, l, e, less)))
        | inr also ↦ (let a = new.1 in let b = also.1 in new_order new.0 also.0 v w (omega (arith, a, b, less)) new.2 also.2)
      ]
    ]

    -- that some chain reaches
    pub place_added : AreReachableBefore words (p + 1) (ws ++ words p)
    place_added = record { each = all_reached; below = all_below; all = all_there; in_order = all_in_order }

  -- ---- the first word of each position

  pub none_indexed : AreIndexed [] []
  none_indexed = record { each = λ place first at. absurd (cc); below = λ i w at. absurd (cc) }

  -- the next position, before its words are there
  pub first_pushed : (ws : List Word) (firsts : List ℕ) (p : ℕ) → AreReachableBefore words p ws → AreIndexed ws firsts → length firsts ≡ p → AreIndexed ws (firsts ++ length ws ∷ [])
  first_pushed ws firsts p r x long = record {
    each = λ place first at. elim (get_push_cases firsts (length ws) place first at) [
      | inl old ↦ x.each place first old
      | inr new ↦
          let here = new.0 in
          let is = new.1 in
          record {
            within = omega (arith, is);
            before = λ i w at_w less. let l = r.below i w at_w in omega (arith, l, here, long);
            from = λ i w at_w low. let l = slice_get_within ws i w at_w in absurd (omega (arith, l, low, is));
          }
    ];
    below = λ i w at. let l = x.below i w at in omega (arith, l, length_push firsts (length ws));
  }

  -- and with them
  pub words_indexed : (ws : List Word) (firsts : List ℕ) (p : ℕ) → AreIndexed ws firsts → length firsts ≡ p + 1 → AreIndexed (ws ++ words p) firsts
  words_indexed ws firsts p x long = record {
    each = λ place first at.
        let f = x.each place first at in
        let low = f.within in
        let there = slice_get_within firsts place first at in
        record {
          within = omega (arith, low, length-append ws (words p));
          before = λ i w at_w less. elim (get_joined ws (words p) i w at_w) [
            | inl old ↦ f.before i w old less
            | inr new ↦ (let e = new.1 in absurd (omega (arith, e, less, low)))
          ];
          from = λ i w at_w more. elim (get_joined ws (words p) i w at_w) [
            | inl old ↦ f.from i w old more
            | inr new ↦ (let e = source.are.places p w (Contains_from_get (words p) new.0 w new.2) in omega (arith, e, there, long))
          ];
        };
    below = λ i w at. elim (get_joined ws (words p) i w at) [
      | inl old ↦ x.below i w old
      | inr new ↦ (let e = source.are.places p w (Contains_from_get (words p) new.0 w new.2) in omega (arith, e, long))
    ];
  }

pub first_past : (ws : List Word) (firsts : List ℕ) (place n : ℕ) → AreIndexed ws firsts → length firsts ≤ place → n ≡ length ws → IsFirstFrom ws place n
first_past ws firsts place n x past is = record {
  within = omega (arith, is);
  before = λ i w at less. let l = x.below i w at in omega (arith, l, past);
  from = λ i w at low. let l = slice_get_within ws i w at in absurd (omega (arith, l, low, is));
}

-- ---- what was collected

-- before the first position
pub collected_none : (t : SearchedText) (source : CanBeSearched t) (before marks : List Bool) → length before ≡ t.text_length + 1 → ((k : ℕ) → k < t.text_length + 1 → get_or before k true ≡ false) → marks ≡ set before 0 true → IsReachedTo t 0 [] [] marks
collected_none t source before marks long none is = subst (IsReachedTo t 0 [] []) (sym is) (record {
  are = none_before t.words t.connection t.text_length source.source;
  indexed = none_indexed t.words t.connection t.text_length source.source;
  places = refl;
  marks_are = marked_first (set before 0 true) (set_here before 0 true (omega (arith, long))) (λ place at. elim (get_written before 0 place true true at) [
    | inl new ↦ new.0
    | inr old ↦
        (let low = slice_get_within before place true old.1 in
        absurd (both_ways (get_or before place true) (none place (omega (arith, low, long))) (get_or_from_slice_get before place true true old.1)))
  ]);
  marks_long = length-set before 0 true ∙ long;
})

module _ (t : SearchedText) (source : CanBeSearched t) (p : ℕ) (ws : List Word) (firsts after : List ℕ) (marks : List Bool) (h : IsReachedTo t p ws firsts marks) (pushed : after ≡ firsts ++ length ws ∷ []) where
  indexed_after : AreIndexed ws after
  indexed_after = subst (AreIndexed ws) (sym pushed) (first_pushed t.words t.connection t.text_length source.source ws firsts p h.are h.indexed h.places)

  places_after : length after ≡ p + 1
  places_after =
      let e = h.places in
      let f = ap length pushed in
      omega (arith, e, f, length_push firsts (length ws))

  -- after a position that no chain reaches
  pub collected_past : (slice_get marks p ≡ Some true → ⊥) → IsReachedTo t (p + 1) ws after marks
  collected_past none = record {
    are = place_passed t.words t.connection t.text_length source.source ws p (no_chain t.words t.connection t.text_length source.source ws marks p h.are h.marks_are none) h.are;
    indexed = indexed_after;
    places = places_after;
    marks_are = h.marks_are;
    marks_long = h.marks_long;
  }

  -- after one that some chain reaches
  pub collected_more : slice_get marks p ≡ Some true → (more : List Word) (marked : List Bool) → more ≡ ws ++ t.words p → AreMarked more marked → length marked ≡ length marks → IsReachedTo t (p + 1) more after marked
  collected_more at more marked joined m long =
      let c = some_chain t.words t.connection t.text_length source.source ws marks p h.are h.marks_are at in
      record {
        are = subst (AreReachableBefore t.words (p + 1)) (sym joined) (place_added t.words t.connection t.text_length source.source ws p c.0 c.1 h.are);
        indexed = subst (λ (zs : List Word). AreIndexed zs after) (sym joined) (words_indexed t.words t.connection t.text_length source.source ws after p indexed_after places_after);
        places = places_after;
        marks_are = m;
        marks_long = long ∙ h.marks_long;
      }
