-- The words of a surface that are kept: the first of least forward cost of each right id replaces
-- the others.
use Rattle.std.proofs.Common.{◌≡◌, ℕ, zero, suc, ◌+◌, ◌*◌, ◌<◌, ◌≤◌, ◌^◌, List, [], ◌∷◌, ◌++◌, All, length, map, flat_map, get_or, Contains, Some, ◌⊎◌, inl, inr, refl, sym, ap, ◌∙◌, subst, arith, slice_get}
use Rattle.std.specs.Prelude.{ℤ, ◌+ℤ◌, ◌<ℤ◌}
use Rattle.std.specs.List.{AllByRecursion}
use Rattle.std.proofs.lemmas.Bool.{cases_lt}
use Rattle.std.proofs.lemmas.Int.{ints}
use Rattle.std.proofs.lemmas.List.{append-nil, length_push, length-map}
use Rattle.std.proofs.lemmas.List.Concat.{flat_map-append}
use Rattle.std.proofs.lemmas.Option.{get_or_from_slice_get, same_Some, slice_get-get_or, slice_get_within}
use Rattle.mj_model.specs.declared.word.Word.{Word}
use Rattle.mj_model.specs.Bounds.{IsWithin}
use Rattle.mj_model.specs.declared.paths.surface.Surface.{Surface}
use Rattle.mj_model.specs.Order.{IsEarlierIn}
use Rattle.mj_model.specs.Pruned.{ArePartOf}
use Rattle.mj_model.specs.Surfaces.{IsWhole, IsWordOf, HasSameSpan}
use Rattle.mj_model.proofs.Pruning.{all_are_part}
use Rattle.viterbi.specs.declared.search.node.EndNode.{EndNode}
use Rattle.viterbi.specs.declared.search.node.Predecessor.{Predecessor}
use Rattle.viterbi.specs.Search.EndNodes.{HasSmallTotal, IsLeast}
use Rattle.viterbi.specs.Search.Pruning.{AreAlone, AreBounded, AreForwardCosts, ArePrunedOf, ArePrunedSurfaces, ArePrunedWords, CanBePruned, CanBePrunedAll, HasForwardCost, HaveNumbersBelow, HaveRightIdsOnce, IsReplaced}
use Rattle.viterbi.specs.Search.SearchedText.{SearchedText}
use Rattle.viterbi.specs.Search.PrunedEndNodes.{ArePrunedFrom, ArePruned, HaveDistinctRightIds}
use Rattle.viterbi.proofs.Appended.{contains_either, contains_left, contains_right, map_at, map_cases, part_of_both, appears_left, appears_right}
use Rattle.viterbi.proofs.Pushed.{Contains_from_get, get_from_Contains, get_push_cases}
use Rattle.viterbi.proofs.PruningLemmas.{no_end}
use Rattle.viterbi.proofs.WordNumbers.{holds_in, no_word}

-- all words are kept
pub all_words_kept : (conn : ℕ → ℕ → ℤ) (ends : List EndNode) (ws : List Word) → ArePrunedWords conn ends ws ws
all_words_kept conn ends ws = record { part = all_are_part ws; served = λ w h. inl h }

replaced_left : (conn : ℕ → ℕ → ℤ) (ends : List EndNode) (qs ss bs rs : List Word) (w : Word) → IsReplaced conn ends qs ss w → IsReplaced conn ends (qs ++ bs) (ss ++ rs) w
replaced_left conn ends qs ss bs rs w r = record {
  word = r.word;
  there = contains_left ss rs r.word r.there;
  end = r.end;
  right = r.right;
  cost = r.cost;
  own = r.own;
  has_cost = r.has_cost;
  has_own = r.has_own;
  no_more = elim r.no_more [ inl less ↦ inl less | inr same ↦ inr (same.0, appears_left qs bs r.word w same.1) ];
}

replaced_right : (conn : ℕ → ℕ → ℤ) (ends : List EndNode) (qs ss bs rs : List Word) (w : Word) → IsReplaced conn ends bs rs w → IsReplaced conn ends (qs ++ bs) (ss ++ rs) w
replaced_right conn ends qs ss bs rs w r = record {
  word = r.word;
  there = contains_right ss rs r.word r.there;
  end = r.end;
  right = r.right;
  cost = r.cost;
  own = r.own;
  has_cost = r.has_cost;
  has_own = r.has_own;
  no_more = elim r.no_more [ inl less ↦ inl less | inr same ↦ inr (same.0, appears_right qs bs r.word w same.1) ];
}

-- words that are kept of one list and of another are kept of both
pub kept_of_both : (conn : ℕ → ℕ → ℤ) (ends : List EndNode) (qs ss bs rs : List Word) → ArePrunedWords conn ends qs ss → ArePrunedWords conn ends bs rs → ArePrunedWords conn ends (qs ++ bs) (ss ++ rs)
kept_of_both conn ends qs ss bs rs p q = record {
  part = part_of_both qs ss bs rs p.part q.part;
  served = λ w h. elim (contains_either qs bs w h) [
    | inl front ↦ elim (p.served w front) [
      | inl there ↦ inl (contains_left ss rs w there)
      | inr other ↦ inr (replaced_left conn ends qs ss bs rs w other)
    ]
    | inr next_ones ↦ elim (q.served w next_ones) [
      | inl there ↦ inl (contains_right ss rs w there)
      | inr other ↦ inr (replaced_right conn ends qs ss bs rs w other)
    ]
  ];
}

-- the cost of a chain to a predecessor is small
pub predecessor_is_small : (conn : ℕ → ℕ → ℤ) (ends : List EndNode) (left : ℕ) (j : Predecessor) → All HasSmallTotal ends → ((right next : ℕ) → IsWithin (2 ^ 15) (conn right next)) → IsLeast conn ends left j → IsWithin (2 ^ 41) j.cost
predecessor_is_small conn ends left j forward_costs connections best_predecessor =
    let end = best_predecessor.end in
    let low = slice_get_within ends best_predecessor.rank end best_predecessor.here in
    let total = subst HasSmallTotal (get_or_from_slice_get ends best_predecessor.rank end end best_predecessor.here) (forward_costs best_predecessor.rank end low) in
    let c = connections end.right left in
    let is = best_predecessor.cost_is in
    (omega (arith, ints, total.0, c.0, is), omega (arith, ints, total.1, c.1, is))

-- the word of an end node
abbrev pub word_by : List Word → EndNode → Word
word_by ws e = get_or ws e.before no_word

module _ (conn : ℕ → ℕ → ℤ) (ends : List EndNode) (ws : List Word) (words : List EndNode) (are : AreForwardCosts conn ends ws (length ws) words) (left : List EndNode) (l : ArePrunedFrom words left) where
  abbrev pub kept : List Word
  kept = map (word_by ws) left

  word_is : (r : ℕ) (e : EndNode) (at : slice_get words r ≡ Some e) → word_by ws e ≡ (are.each r e at).word
  word_is r e at =
      let f = are.each r e at in
      get_or_from_slice_get ws e.before f.word no_word (subst (λ (i : ℕ). slice_get ws i ≡ Some f.word) (sym f.before) f.here)

  -- a kept word has its rank among all
  kept_at : (r : ℕ) (v : Word) → slice_get kept r ≡ Some v → slice_get ws (l.rank r) ≡ Some v
  kept_at r v at =
      let m = map_cases (word_by ws) left r v at in
      let there = l.each r m.0 m.1 in
      let f = are.each (l.rank r) m.0 there in
      f.here ∙ ap Some (sym (word_is (l.rank r) m.0 there) ∙ m.2)

  kept_within : (r : ℕ) (v : Word) → slice_get kept r ≡ Some v → r < length left
  kept_within r v at = let m = map_cases (word_by ws) left r v at in slice_get_within left r m.0 m.1

  pub kept_part : ArePartOf ws kept
  kept_part = record {
    among = λ w h. let f = get_from_Contains kept w h in Contains_from_get ws (l.rank f.0) w (kept_at f.0 w f.1);
    in_order = λ v w s. record {
      first = l.rank s.first;
      second = l.rank s.second;
      in_order = l.rising s.first s.second s.in_order (kept_within s.second w s.has_second);
      has_first = kept_at s.first v s.has_first;
      has_second = kept_at s.second w s.has_second;
    };
  }

  kept_serves : ((v w : Word) → Contains ws v → Contains ws w → v.end ≡ w.end) → (w : Word) → Contains ws w → Contains kept w ⊎ IsReplaced conn ends ws kept w
  kept_serves one_end w h =
      let g = get_from_Contains ws w h in
      let i = g.0 in
      let long = are.long in
      let low = slice_get_within ws i w g.1 in
      let x = get_or words i no_end in
      let at = slice_get-get_or words i no_end (omega (arith, long, low)) in
      let own = are.each i x at in
      let own_is : own.word ≡ w = same_Some own.word w (sym own.here ∙ g.1) in
      let s = l.served i x at in
      let r = s.0 in
      let e = s.1 in
      let there = l.each r e s.2 in
      let f = are.each (l.rank r) e there in
      let in_kept : slice_get kept r ≡ Some f.word = map_at (word_by ws) left r e s.2 ∙ ap Some (word_is (l.rank r) e there) in
      let serves = s.3 in
      let found = λ (more : (e.total <ℤ x.total) ⊎ ((e.total ≡ x.total) × IsEarlierIn ws f.word w)).
      let outcome : IsReplaced conn ends ws kept w = record {
        word = f.word;
        there = Contains_from_get kept r f.word in_kept;
        end = one_end f.word w (Contains_from_get ws (l.rank r) f.word f.here) h;
        right = sym f.right ∙ serves.right ∙ own.right ∙ ap (λ (u : Word). u.right) own_is;
        cost = e.total;
        own = x.total;
        has_cost = f.cost;
        has_own = subst (λ (u : Word). HasForwardCost conn ends u x.total) own_is own.cost;
        no_more = more;
      } in outcome in
      elim serves.cost [
        | inl less ↦ inr (found (inl less))
        | inr same ↦ elim (cases_lt (l.rank r) i) [
          | inl before ↦ inr (found (inr (same.0, record { first = l.rank r; second = i; in_order = before; has_first = f.here; has_second = g.1 })))
          | inr more ↦
              let one : l.rank r ≡ i = omega (arith, more, same.1) in
              let is : f.word ≡ w = same_Some f.word w (sym f.here ∙ ap (slice_get ws) one ∙ g.1) in
              inl (subst (Contains kept) is (Contains_from_get kept r f.word in_kept))
        ]
      ]

  pub kept_words : ((v w : Word) → Contains ws v → Contains ws w → v.end ≡ w.end) → ArePrunedWords conn ends ws kept
  kept_words one_end = record { part = kept_part; served = kept_serves one_end }

  pub kept_apart : HaveDistinctRightIds left → HaveRightIdsOnce kept
  kept_apart once = λ i j v w at_v at_w same.
      let m = map_cases (word_by ws) left i v at_v in
      let n = map_cases (word_by ws) left j w at_w in
      let a = are.each (l.rank i) m.0 (l.each i m.0 m.1) in
      let b = are.each (l.rank j) n.0 (l.each j n.0 n.1) in
      let first = a.right ∙ ap (λ (u : Word). u.right) (sym (word_is (l.rank i) m.0 (l.each i m.0 m.1)) ∙ m.2) in
      let second = b.right ∙ ap (λ (u : Word). u.right) (sym (word_is (l.rank j) n.0 (l.each j n.0 n.1)) ∙ n.2) in
      once i j m.0 n.0 m.1 n.1 (first ∙ same ∙ sym second)

  pub kept_bounded : ArePruned left → (some : List Word) → length some ≤ 4 * length left → AreBounded ws some
  kept_bounded (inl few) some low = inl (omega (arith, few, low))
  kept_bounded (inr once) some low =
      let long = length-map left (word_by ws) in
      inr (kept, kept_part, kept_apart once, omega (arith, low, long))

-- the words of a surface end at one position
pub one_end : (f : Surface → List Word) (s : Surface) → IsWhole f s → (v w : Word) → Contains (f s) v → Contains (f s) w → v.end ≡ w.end
one_end f s whole v w h k =
    let g = get_from_Contains (f s) v h in
    let i = get_from_Contains (f s) w k in
    (holds_in (HasSameSpan s) (f s) g.0 v whole.same_spans g.1).end ∙ sym (holds_in (HasSameSpan s) (f s) i.0 w whole.same_spans i.1).end

-- ---- surfaces of one word each

alone_shift : (f : Surface → List Word) (s one : Surface) (e : EndNode) (es : List EndNode) (n : ℕ) (added : List Surface) → AreAlone f s (e ∷ es) (suc n) (one ∷ added) → AreAlone f s es n added
alone_shift f s one e es n added h = let long = h.long in record { long = omega (arith, long); each = λ r x at. h.each (suc r) x at }

pub alone_words : (f : Surface → List Word) (s : Surface) (es : List EndNode) (added : List Surface) → AreAlone f s es (length es) added → HaveNumbersBelow (length (f s)) es → flat_map f added ≡ map (word_by (f s)) es
alone_words f s [] [] h below = refl
alone_words f s [] (one ∷ added) h below = let long = h.long in absurd (omega (arith, long))
alone_words f s (e ∷ es) [] h below = let long = h.long in absurd (omega (arith, long))
alone_words f s (e ∷ es) (one ∷ added) h below =
    let first = h.each 0 one refl in
    let is : e ≡ first.0 = same_Some e first.0 first.1 in
    let low = below 0 e refl in
    let at = slice_get-get_or (f s) e.before no_word low in
    let word : f one ≡ word_by (f s) e ∷ [] = first.2.word (word_by (f s) e) (ap (λ (x : EndNode). slice_get (f s) x.before) (sym is) ∙ at) in
    let rest = alone_words f s es added (alone_shift f s one e es (length es) added h) (λ r x there. below (suc r) x there) in
    ap (λ (ws : List Word). ws ++ flat_map f added) word ∙ ap (λ (ws : List Word). word_by (f s) e ∷ ws) rest

pub alone_whole : (f : Surface → List Word) (s : Surface) (es : List EndNode) (n : ℕ) (added : List Surface) → ((r : ℕ) (one : Surface) → slice_get added r ≡ Some one → IsWhole f one) → AllByRecursion (IsWhole f) added
alone_whole f s es n [] each = tt
alone_whole f s es n (one ∷ added) each = (each 0 one refl, alone_whole f s es n added (λ r x at. each (suc r) x at))

-- the numbers of the words that are left are those of words
pub numbers_below : (conn : ℕ → ℕ → ℤ) (ends : List EndNode) (ws : List Word) (count : ℕ) (words left : List EndNode) → AreForwardCosts conn ends ws count words → ArePrunedFrom words left → HaveNumbersBelow count left
numbers_below conn ends ws count words left are l = λ r e at.
    let there = l.each r e at in
    let low = slice_get_within words (l.rank r) e there in
    let is = (are.each (l.rank r) e there).before in
    let long = are.long in
    omega (arith, low, is, long)

all_of_both : (P : Surface → Type 0) (xs ys : List Surface) → AllByRecursion P xs → AllByRecursion P ys → AllByRecursion P (xs ++ ys)
all_of_both P [] ys h k = k
all_of_both P (x ∷ xs) ys h k = (h.0, all_of_both P xs ys h.1 k)

-- one more surface of one word
pub alone_more : (f : Surface → List Word) (s : Surface) (es : List EndNode) (rank : ℕ) (added : List Surface) (one : Surface) (e : EndNode) → AreAlone f s es rank added → slice_get es rank ≡ Some e → IsWordOf f s e.before one → AreAlone f s es (rank + 1) (added ++ one ∷ [])
alone_more f s es rank added one e h at word = record {
  long = let long = h.long in let more = length_push added one in omega (arith, long, more);
  each = λ r x there. elim (get_push_cases added one r x there) [
    | inl old ↦ h.each r x old
    | inr new ↦ (
      e,
      (let long = h.long in ap (slice_get es) (new.0 ∙ long) ∙ at),
      subst (IsWordOf f s e.before) new.1 word,
    )
  ];
}

-- one more word of a surface with its forward cost
pub costs_more : (conn : ℕ → ℕ → ℤ) (ends : List EndNode) (ws : List Word) (i : ℕ) (words : List EndNode) (w : Word) (j : Predecessor) (e : EndNode) → AreForwardCosts conn ends ws i words → slice_get ws i ≡ Some w → IsLeast conn ends w.left j
    → e ≡ record { total = j.cost +ℤ w.cost; before = i; right = w.right } → AreForwardCosts conn ends ws (i + 1) (words ++ e ∷ [])
costs_more conn ends ws i words w j e h at best_predecessor is = record {
  long = let long = h.long in let more = length_push words e in omega (arith, long, more);
  each = λ r x there. elim (get_push_cases words e r x there) [
    | inl old ↦ h.each r x old
    | inr new ↦
        let long = h.long in
        let same : r ≡ i = new.0 ∙ long in
        let x_is = sym new.1 ∙ is in
        record {
          word = w;
          here = ap (slice_get ws) same ∙ at;
          cost = record { predecessor = j; best_predecessor = best_predecessor; total_is = ap (λ (y : EndNode). y.total) x_is };
          right = ap (λ (y : EndNode). y.right) x_is;
          before = ap (λ (y : EndNode). y.before) x_is ∙ sym same;
        }
  ];
}

-- one more surface of a position
pub surfaces_more : (t : SearchedText) (ends : List EndNode) (old new added : List Surface) (s : Surface) → ArePrunedSurfaces t ends old new → ArePrunedOf t ends (t.surface_words s) added → ArePrunedSurfaces t ends (old ++ s ∷ []) (new ++ added)
surfaces_more t ends old new added s h one =
    let f = t.surface_words in
    let before = flat_map-append f old (s ∷ []) ∙ ap (λ (ws : List Word). flat_map f old ++ ws) (append-nil (f s)) in
    let next_ones = flat_map-append f new added in
    record {
      whole = all_of_both (IsWhole f) new added h.whole one.whole;
      words = subst (λ (ws : List Word). ArePrunedWords t.connection ends ws (flat_map f (new ++ added))) (sym before)
          (subst (ArePrunedWords t.connection ends (flat_map f old ++ f s)) (sym next_ones) (kept_of_both t.connection ends (flat_map f old) (flat_map f new) (f s) (flat_map f added) h.words one.words));
    }

-- a surface that is kept whole
pub kept_whole : (t : SearchedText) (ends : List EndNode) (s : Surface) → IsWhole t.surface_words s → AreBounded (t.surface_words s) (t.surface_words s) → ArePrunedOf t ends (t.surface_words s) (s ∷ [])
kept_whole t ends s whole bound =
    let f = t.surface_words in
    let one = append-nil (f s) in
    record {
      whole = (whole, tt);
      words = subst (ArePrunedWords t.connection ends (f s)) (sym one) (all_words_kept t.connection ends (f s));
      bounded = subst (AreBounded (f s)) (sym one) bound;
    }

-- the kept words of a surface
pub kept_alone : (t : SearchedText) (ends : List EndNode) (s : Surface) (words left : List EndNode) (added : List Surface) → IsWhole t.surface_words s → AreForwardCosts t.connection ends (t.surface_words s) s.count words → ArePrunedFrom words left → ArePruned left
    → AreAlone t.surface_words s left (length left) added → ArePrunedOf t ends (t.surface_words s) added
kept_alone t ends s words left added whole costs l prune_ends single_word_surface =
    let f = t.surface_words in
    let ws = f s in
    let are = subst (λ (n : ℕ). AreForwardCosts t.connection ends ws n words) (sym whole.count_is) costs in
    let below = numbers_below t.connection ends ws s.count words left costs l in
    let is = alone_words f s left added single_word_surface (λ r e at. let b = below r e at in let count = whole.count_is in omega (arith, b, count)) in
    let long = length-map left (word_by ws) in
    record {
      whole = alone_whole f s left (length left) added (λ r x at. (single_word_surface.each r x at).2.whole);
      words = subst (ArePrunedWords t.connection ends ws) (sym is) (kept_words t.connection ends ws words are left l (one_end f s whole));
      bounded = subst (AreBounded ws) (sym is) (kept_bounded t.connection ends ws words are left l prune_ends (map (word_by ws) left) (omega (arith, long)));
    }

-- a surface most of whose words would be kept is kept whole
pub kept_mostly : (t : SearchedText) (ends : List EndNode) (s : Surface) (words left : List EndNode) → IsWhole t.surface_words s → AreForwardCosts t.connection ends (t.surface_words s) s.count words → ArePrunedFrom words left → ArePruned left
    → s.count ≤ 4 * length left → AreBounded (t.surface_words s) (t.surface_words s)
kept_mostly t ends s words left whole costs l prune_ends most =
    let ws = t.surface_words s in
    let count = whole.count_is in
    kept_bounded t.connection ends ws words (subst (λ (n : ℕ). AreForwardCosts t.connection ends ws n words) (sym count) costs) left l prune_ends ws (omega (arith, most, count))

-- no word has been listed yet
pub no_costs : (conn : ℕ → ℕ → ℤ) (ends : List EndNode) (ws : List Word) → AreForwardCosts conn ends ws 0 []
no_costs conn ends ws = record { long = refl; each = λ i e at. absurd (cc) }

-- no surface has been pruned yet
pub no_surfaces : (t : SearchedText) (ends : List EndNode) → ArePrunedSurfaces t ends [] []
no_surfaces t ends = record { whole = tt; words = all_words_kept t.connection ends [] }

-- nothing is left out of the surfaces of a position
pub same_surfaces : (t : SearchedText) (ends : List EndNode) (ss : List Surface) → AllByRecursion (IsWhole t.surface_words) ss → ArePrunedSurfaces t ends ss ss
same_surfaces t ends ss whole = record { whole = whole; words = all_words_kept t.connection ends (flat_map t.surface_words ss) }

-- the words of a surface are words of the surfaces
pub word_of_surfaces : (f : Surface → List Word) (ss : List Surface) (number : ℕ) (s : Surface) (w : Word) → slice_get ss number ≡ Some s → Contains (f s) w → Contains (flat_map f ss) w
word_of_surfaces f [] number s w at h = absurd (cc)
word_of_surfaces f (x ∷ ss) zero s w at h = contains_left (f x) (flat_map f ss) w (subst (λ (y : Surface). Contains (f y) w) (sym (same_Some x s at)) h)
word_of_surfaces f (x ∷ ss) (suc number) s w at h = contains_right (f x) (flat_map f ss) w (word_of_surfaces f ss number s w at h)

pub whole_surface : (P : Surface → Type 0) (ss : List Surface) (number : ℕ) (s : Surface) → AllByRecursion P ss → slice_get ss number ≡ Some s → P s
whole_surface P [] number s all at = absurd (cc)
whole_surface P (x ∷ ss) zero s all at = subst P (same_Some x s at) all.0
whole_surface P (x ∷ ss) (suc number) s all at = whole_surface P ss number s all.1 at

pub one_can_be_pruned : (t : SearchedText) (ends : List EndNode) (ss : List Surface) (number : ℕ) (s : Surface) → CanBePrunedAll t ends ss → slice_get ss number ≡ Some s → CanBePruned t ends (t.surface_words s)
one_can_be_pruned t ends ss number s can at = record {
  some = can.words.some;
  forward_costs = can.words.forward_costs;
  connections = can.words.connections;
  pairs = λ w h. can.words.pairs w (word_of_surfaces t.surface_words ss number s w at h);
}
