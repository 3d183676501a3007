-- The unknown words at a position: the form of each of them, and that none is repeated.
use Rattle.std.proofs.Common.{◌≡◌, ℕ, ◌+◌, ◌-◌, ◌<◌, ◌≤◌, Bool, true, false, cond, not, ◌&&◌, ◌||◌, List, [], ◌∷◌, ◌++◌, length, map, inl, inr, sym, ap, refl, ◌⊎◌, arith}
use Rattle.std.specs.Prelude.{nat_lt, nat_le, ◌==◌}
use Rattle.std.proofs.lemmas.Bool.{both_ways, and_parts, ltb-true, leb-true, or_cases, not-true}
use Rattle.std.proofs.lemmas.List.{map-id}
use Rattle.mj_model.specs.declared.word.Word.{Word}
use Rattle.mj_model.specs.declared.word.Origin.TheVariants.{Unknown}
use Rattle.mj_model.specs.declared.category.Category.{Category}
use Rattle.mj_model.specs.Tables.{Overlay, Token, category_at, HasDistinctTokens}
use Rattle.mj_model.specs.Run.{run, bytes_of, sharing_with_first}
use Rattle.mj_model.specs.Lists.{up_to, IsMember, AreDistinct}
use Rattle.mj_model.specs.UnknownSpans.{grouped_span, length_spans, one_if_none, spans_of, spans}
use Rattle.mj_model.specs.Words.{unknown_word, unknown}
use Rattle.mj_model.proofs.Members.{in_append, in_map, in_filter, in_flat_map, apart_append, apart_map, apart_filter, apart_flat_map, in_up_to, apart_up_to}
use Rattle.mj_model.proofs.CharBytes.{bytes_same, run_within, alike_within}

-- ---- the spans of a category

in_if : (b : Bool) (xs : List ℕ) (n : ℕ) → IsMember (cond b xs []) n → IsMember xs n × (b ≡ true)
in_if true xs n h = (h, refl)
in_if false xs n h = absurd h

in_one_or : (b : Bool) (xs : List ℕ) (n : ℕ) → IsMember (cond b (1 ∷ []) xs) n → (n ≡ 1) ⊎ IsMember xs n
in_one_or true xs n (inl e) = inl (sym e)
in_one_or true xs n (inr out) = absurd out
in_one_or false xs n h = inr h

in_grouped : (category : Category) (grouping whole n : ℕ) → IsMember (grouped_span category grouping whole) n → (n ≡ whole) × (category.group ≡ true)
in_grouped category grouping whole n h =
    let i = in_if (category.group && nat_le (whole - 1) grouping) (whole ∷ []) n h in
    (elim i.0 [ inl e ↦ sym e | inr out ↦ absurd out ], (and_parts category.group (nat_le (whole - 1) grouping) i.1).0)

in_lengths : (category : Category) (whole same n : ℕ) → IsMember (length_spans category whole same) n → (0 < n) × (n ≤ same) × ((not category.group || nat_lt n whole) ≡ true)
in_lengths category whole same n h =
    let f = in_filter (λ n. nat_le n same && (not category.group || nat_lt n whole)) (up_to category.length) n h in
    let u = in_up_to category.length n f.0 in
    let b = and_parts (nat_le n same) (not category.group || nat_lt n whole) f.1 in
    (u.0, leb-true n same b.0, b.1)

-- each span has a character, and no more than there are
in_spans_of : (category : Category) (none_known : Bool) (grouping whole same most n : ℕ) → 0 < whole → whole ≤ most → same ≤ most → IsMember (spans_of category none_known grouping whole same) n → (0 < n) × (n ≤ most)
in_spans_of category none_known grouping whole same most n one w s h =
    let grouped = grouped_span category grouping whole in
    let lengths = length_spans category whole same in
    let made = in_if (category.invoke || none_known) (one_if_none none_known (grouped ++ lengths)) n h in
    elim (in_one_or (none_known && length (grouped ++ lengths) == 0) (grouped ++ lengths) n made.0) [
      | inl e ↦ (omega arith, omega arith)
      | inr i ↦ elim (in_append grouped lengths n i) [
        | inl g ↦ let r = (in_grouped category grouping whole n g).0 in (omega arith, omega arith)
        | inr l ↦ let r = in_lengths category whole same n l in (r.0, omega (arith, r.1))
      ]
    ]

apart_if : (b : Bool) (xs : List ℕ) → AreDistinct xs → AreDistinct (cond b xs [])
apart_if true xs a = a
apart_if false xs a = tt

apart_one_or : (b : Bool) (xs : List ℕ) → AreDistinct xs → AreDistinct (cond b (1 ∷ []) xs)
apart_one_or true xs a = (λ h. h, tt)
apart_one_or false xs a = a

apart_lengths : (category : Category) (whole same : ℕ) → AreDistinct (length_spans category whole same)
apart_lengths category whole same =
    rw map-id at (apart_filter (λ (n : ℕ). n) (λ n. nat_le n same && (not category.group || nat_lt n whole)) (up_to category.length) (rw map-id (apart_up_to category.length)))

apart_spans_of : (category : Category) (none_known : Bool) (grouping whole same : ℕ) → AreDistinct (spans_of category none_known grouping whole same)
apart_spans_of category none_known grouping whole same =
    let grouped = grouped_span category grouping whole in
    let lengths = length_spans category whole same in
    apart_if (category.invoke || none_known) (one_if_none none_known (grouped ++ lengths))
    (apart_one_or (none_known && length (grouped ++ lengths) == 0) (grouped ++ lengths)
    (apart_append grouped lengths
    (apart_if (category.group && nat_le (whole - 1) grouping) (whole ∷ []) ((λ h. h), tt))
    (apart_lengths category whole same)
    (λ n i j.
    let g = in_grouped category grouping whole n i in
    let l = in_lengths category whole same n j in
    elim (or_cases (not category.group) (nat_lt n whole) l.2) [
      | inl off ↦ both_ways category.group (not-true category.group off) g.1
      | inr less ↦ let b = ltb-true n whole less in omega (arith, b, g.0)
    ])))

in_spans : (o : Overlay) (none_known : Bool) (c : ℕ) (cs : List ℕ) (n : ℕ) → IsMember (spans o none_known c cs) n → (0 < n) × (n ≤ length (c ∷ cs))
in_spans o none_known c cs n h =
    let info = o.system.info in
    let w = run_within info (info c) cs in
    in_spans_of (category_at o (info c).head) none_known o.grouping (1 + run info (info c) cs) (sharing_with_first info c cs) (length (c ∷ cs)) n
    (omega arith) (omega (arith, w)) (alike_within info c cs) h

apart_spans : (o : Overlay) (none_known : Bool) (c : ℕ) (cs : List ℕ) → AreDistinct (spans o none_known c cs)
apart_spans o none_known c cs =
    let info = o.system.info in apart_spans_of (category_at o (info c).head) none_known o.grouping (1 + run info (info c) cs) (sharing_with_first info c cs)

-- ---- the words

-- z is the unknown word of an entry and of the first n of the characters from a start
pub record IsUnknown (place start : ℕ) (cs : List ℕ) (z : Word) : Type 0 where
  pub n : ℕ
  pub above : 0 < n
  pub low : n ≤ length cs
  pub entry : Token
  pub is : z ≡ unknown_word place start (bytes_of n cs) entry

pub in_unknown : (o : Overlay) (none_known : Bool) (place start : ℕ) (cs : List ℕ) (z : Word) → IsMember (unknown o none_known place start cs) z → IsUnknown place start cs z
in_unknown o none_known place start [] z h = absurd h
in_unknown o none_known place start (c ∷ cs) z h =
    let entries = o.system.unknown (o.system.info c).head in
    let r = in_flat_map (λ n. map (unknown_word place start (bytes_of n (c ∷ cs))) entries) (spans o none_known c cs) z h in
    let m = in_map (unknown_word place start (bytes_of r.0 (c ∷ cs))) entries z r.2 in
    let b = in_spans o none_known c cs r.0 r.1 in
    record { n = r.0; above = b.0; low = b.1; entry = m.0; is = sym m.2 }

same_unknown : (s t : ℕ) → Unknown s ≡ Unknown t → s ≡ t
same_unknown s t h = cc

same_bytes : (place start a b : ℕ) (entries : List Token) (z : Word) → IsMember (map (unknown_word place start a) entries) z → IsMember (map (unknown_word place start b) entries) z → a ≡ b
same_bytes place start a b entries z i j =
    let e = ap (λ (w : Word). w.end) (in_map (unknown_word place start a) entries z i).2 in
    let f = ap (λ (w : Word). w.end) (in_map (unknown_word place start b) entries z j).2 in
    omega (arith, e, f)

pub apart_unknown : (o : Overlay) (none_known : Bool) (place start : ℕ) (cs : List ℕ) → ((i : ℕ) → HasDistinctTokens (o.system.unknown i)) → AreDistinct (unknown o none_known place start cs)
apart_unknown o none_known place start [] apart = tt
apart_unknown o none_known place start (c ∷ cs) apart =
    let entries = o.system.unknown (o.system.info c).head in
    apart_flat_map (λ n. map (unknown_word place start (bytes_of n (c ∷ cs))) entries) (spans o none_known c cs) (apart_spans o none_known c cs)
    (λ n i. apart_map (unknown_word place start (bytes_of n (c ∷ cs))) (λ (t : Token). t.number) entries
    (λ s t same. same_unknown s.number t.number (ap (λ (w : Word). w.origin) same))
    (apart (o.system.info c).head))
    (λ n m z i j a b.
    bytes_same n m (c ∷ cs) (in_spans o none_known c cs n i).1 (in_spans o none_known c cs m j).1
    (same_bytes place start (bytes_of n (c ∷ cs)) (bytes_of m (c ∷ cs)) entries z a b))
