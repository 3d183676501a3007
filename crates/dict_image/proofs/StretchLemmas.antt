-- Valid UTF-8 in parts of the bytes, by stretches.
--
-- A non-empty part that starts in a stretch and is UTF-8 lies within it: otherwise a text would
-- start at the end of the stretch, which is impossible. A part of a stretch is UTF-8 if neither of
-- its ends is at a continuation byte.
use Rattle.std.proofs.Common.{◌≡◌, ℕ, zero, suc, ◌+◌, ◌-◌, ◌<◌, ◌≤◌, ◌↔◌, List, [], ◌∷◌, ◌++◌, length, get_or, take, drop, slice_index, slice_range, IsUtf8, IsCharBoundary, Option, Some, None, is_some, IfSome, option_copied, true, false, nat_lt, ltb, ltb-true, ltb-false, inl, inr, sym, ap, ◌∙◌, refl, arith, subst}
use Rattle.std.specs.Borrow.{Bor}
use Rattle.std.specs.Option.{unwrap_or}
use Rattle.std.specs.Str.{IsValidUpTo}
use Rattle.std.proofs.lemmas.List.{length-take, length-drop, drop-take, drop-drop, take-take, take_all, take-append-drop, get_or-take, get_or-drop, get_or_push, get_or_past, get_or_read, get_or_append_left, length_push}
use Rattle.std.proofs.lemmas.List.Sorted.{IsNonDecreasingBy-short, IsNonDecreasingBy-push}
use Rattle.std.proofs.lemmas.Grind.{get_or_default_zero}
use Rattle.std.specs.List.Sorted.{IsPartitionPoint}
use Rattle.std.proofs.lemmas.Bool.{cases_lt}
use Rattle.std.proofs.lemmas.Str.{IsUtf8-append, IsUtf8-drop, IsUtf8-between, IsCharBoundary-start, IsCharBoundary-from_take}
use Rattle.dict_image.specs.Validation.Stretches.{IsUtf8Run, IsEndOf, IsStretchEnd, stretch_start, AreWrongBefore, AreWrong}

-- ---- parts of parts

part_length : (bytes : List ℕ) (from to : ℕ) → to ≤ length bytes → length (slice_range bytes from to) ≡ to - from
part_length bytes from to within = omega (arith, length-take (to - from) (drop from bytes), length-drop from bytes, within)

part_byte : (bytes : List ℕ) (from to place : ℕ) → from ≤ place → place < to → slice_index (slice_range bytes from to) (place - from) ≡ slice_index bytes place
part_byte bytes from to place following before =
    let e : from + (place - from) ≡ place = omega arith in
    get_or-take (to - from) (drop from bytes) (place - from) 0 (omega arith) ∙ get_or-drop from bytes (place - from) 0 ∙ ap (λ (i : ℕ). get_or bytes i 0) e

rest_of_part : (bytes : List ℕ) (from start to : ℕ) → from ≤ start → start ≤ to → drop (start - from) (slice_range bytes from to) ≡ slice_range bytes start to
rest_of_part bytes from start to following before =
    let n = start - from in
    let all : to - from ≡ n + (to - start) = omega arith in
    let at : from + n ≡ start = omega arith in
    ap (λ (k : ℕ). drop n (take k (drop from bytes))) all ∙ drop-take n (to - start) (drop from bytes) ∙ ap (take (to - start)) (drop-drop n from bytes) ∙ ap (λ (k : ℕ). take (to - start) (drop k bytes)) at

prefix_of_part : (bytes : List ℕ) (from end to : ℕ) → end ≤ to → take (end - from) (slice_range bytes from to) ≡ slice_range bytes from end
prefix_of_part bytes from end to before = take-take (end - from) (to - from) (drop from bytes) (omega arith)

parts_join : (bytes : List ℕ) (from at to : ℕ) → from ≤ at → at ≤ to → slice_range bytes from at ++ slice_range bytes at to ≡ slice_range bytes from to
parts_join bytes from at to following before =
    let whole = slice_range bytes from to in
    ap (λ (xs : List ℕ). xs ++ slice_range bytes at to) (sym (prefix_of_part bytes from at to before))
    ∙ ap (λ (xs : List ℕ). take (at - from) whole ++ xs) (sym (rest_of_part bytes from at to following before)) ∙ take-append-drop (at - from) whole

part_of_part : (bytes : List ℕ) (from to start end : ℕ) → from ≤ start → start ≤ end → end ≤ to → slice_range (slice_range bytes from to) (start - from) (end - from) ≡ slice_range bytes start end
part_of_part bytes from to start end following forward before =
    let n : end - from - (start - from) ≡ end - start = omega arith in
    ap (λ (k : ℕ). take k (drop (start - from) (slice_range bytes from to))) n ∙ ap (take (end - start)) (rest_of_part bytes from start to following (omega arith)) ∙ prefix_of_part bytes start end to before

-- ---- parts of a stretch

boundary : (bytes : List ℕ) (from to place : ℕ) → to ≤ length bytes → from ≤ place → place ≤ to → IsStretchEnd bytes to place → IsCharBoundary (slice_range bytes from to) (place - from)
boundary bytes from to place within following before cut = (
  omega (arith, part_length bytes from to within),
  λ less high.
      let short : place < to = omega (arith, less, part_length bytes from to within) in
      let same = part_byte bytes from to place following short in
      subst (λ (b : ℕ). 192 ≤ b) (sym same) (cut short (subst (λ (b : ℕ). 128 ≤ b) same high)),
)

segmented_line : (bytes : List ℕ) (from to place : ℕ) → to ≤ length bytes → from ≤ place → IsCharBoundary (slice_range bytes from to) (place - from) → IsStretchEnd bytes to place
segmented_line bytes from to place within following b short high =
    let same = part_byte bytes from to place following short in
    subst (λ (b : ℕ). 192 ≤ b) same (b.1 (omega (arith, part_length bytes from to within, short, following)) (subst (λ (b : ℕ). 128 ≤ b) (sym same) high))

part_is_text : (bytes : List ℕ) (from to start end : ℕ) → IsUtf8Run bytes from to → from ≤ start → start ≤ end → end ≤ to → IsStretchEnd bytes to start → IsStretchEnd bytes to end → IsUtf8 (slice_range bytes start end)
part_is_text bytes from to start end s following forward before cut cut_end =
    let b = boundary bytes from to start s.within following (omega (arith, forward, before)) cut in
    let e = boundary bytes from to end s.within (omega (arith, following, forward)) before cut_end in
    subst IsUtf8 (part_of_part bytes from to start end following forward before)
    (IsUtf8-between (slice_range bytes from to) (start - from) (end - from) s.is_text (omega (arith, forward)) b e)

-- ---- the start and end of a text

-- a text does not start with a continuation byte
start_is_cut : (bytes : List ℕ) (to start end : ℕ) → start < end → end ≤ length bytes → IsUtf8 (slice_range bytes start end) → IsStretchEnd bytes to start
start_is_cut bytes to start end some within text short high =
    let e : start - start ≡ 0 = omega arith in
    segmented_line bytes start end start within (omega arith) (rw e (IsCharBoundary-start (slice_range bytes start end) text)) some high

-- the remainder of a stretch from a position on
left_is_text : (bytes : List ℕ) (from to start end : ℕ) → IsUtf8Run bytes from to → from ≤ start → start ≤ to → start < end → end ≤ length bytes → IsUtf8 (slice_range bytes start end) → IsUtf8 (slice_range bytes start to)
left_is_text bytes from to start end s following before some within text =
    part_is_text bytes from to start to s following before (omega arith) (start_is_cut bytes to start end some within text) (λ short high. absurd (omega (arith, short)))

-- a text that starts in a stretch ends in it
end_before : (bytes : List ℕ) (from to start end : ℕ) → IsUtf8Run bytes from to → from ≤ start → start ≤ to → start < end → end ≤ length bytes → IsUtf8 (slice_range bytes start end) → end ≤ to
end_before bytes from to start end s following before some within text = elim (cases_lt to end) [
  | inl past ↦
      let left = left_is_text bytes from to start end s following before some within text in
      let whole = slice_range bytes start end in
      let front = subst IsUtf8 (sym (prefix_of_part bytes start to end (omega (arith, past)))) left in
      let at = IsCharBoundary-from_take whole (to - start) text (omega (arith, part_length bytes start end within, past)) front in
      absurd (s.ends end past within (subst IsUtf8 (rest_of_part bytes start to end before (omega (arith, past))) (IsUtf8-drop whole (to - start) text at)))
  | inr fits ↦ fits
]

-- no continuation byte follows a text
end_is_cut : (bytes : List ℕ) (from to start end : ℕ) → IsUtf8Run bytes from to → from ≤ start → start ≤ to → start < end → end ≤ to → IsUtf8 (slice_range bytes start end) → IsStretchEnd bytes to end
end_is_cut bytes from to start end s following before some short text =
    let w = s.within in
    let left = left_is_text bytes from to start end s following before some (omega (arith, short, w)) text in
    let front = subst IsUtf8 (sym (prefix_of_part bytes start end to short)) text in
    segmented_line bytes start to end w (omega (arith, some)) (IsCharBoundary-from_take (slice_range bytes start to) (end - start) left (omega (arith, part_length bytes start to w, short)) front)

-- the parts that start in a stretch and are UTF-8
pub text_iff_cut : (bytes : List ℕ) (from to start end : ℕ) → IsUtf8Run bytes from to → from ≤ start → start ≤ to → start < end → end ≤ length bytes → IsUtf8 (slice_range bytes start end) ↔ ((end ≤ to) × IsStretchEnd bytes to start × IsStretchEnd bytes to end)
text_iff_cut bytes from to start end s following before some within = (
  λ text.
      let short = end_before bytes from to start end s following before some within text in
      (short, start_is_cut bytes to start end some within text, end_is_cut bytes from to start end s following before some short text),
  λ cuts. part_is_text bytes from to start end s following (omega (arith, some)) cuts.0 cuts.1 cuts.2,
)

-- ---- the end of a stretch

-- the end of the longest prefix that is UTF-8
pub stretch_to_fault : (bytes : List ℕ) (from n : ℕ) → from ≤ length bytes → IsValidUpTo (slice_range bytes from (length bytes)) n → IsUtf8Run bytes from (from + n) × (from + n < length bytes)
stretch_to_fault bytes from n within v =
    let size = length bytes in
    let rest = slice_range bytes from size in
    let long = part_length bytes from size (omega arith) in
    let short = v.short in
    let back : from + n - from ≡ n = omega arith in
    let front : take n rest ≡ slice_range bytes from (from + n) = subst (λ (k : ℕ). take k rest ≡ take (from + n - from) (drop from bytes)) back (prefix_of_part bytes from (from + n) size (omega (arith, short, long))) in (
      record {
        forward = omega arith;
        within = omega (arith, short, long);
        is_text = subst IsUtf8 front v.front;
        ends = λ end past fits text.
            let whole = parts_join bytes from (from + n) end (omega arith) (omega (arith, past)) ∙ sym (prefix_of_part bytes from end size fits) in
            v.longest (end - from) (omega (arith, past)) (subst IsUtf8 whole (IsUtf8-append (slice_range bytes from (from + n)) (slice_range bytes (from + n) end) (subst IsUtf8 front v.front) text));
      },
      omega (arith, short, long),
    )

-- the end of bytes that are UTF-8
pub stretch_to_end : (bytes : List ℕ) (from : ℕ) → from ≤ length bytes → IsUtf8 (slice_range bytes from (length bytes)) → IsUtf8Run bytes from (length bytes)
stretch_to_end bytes from within text = record {
  forward = within;
  within = omega arith;
  is_text = text;
  ends = λ end past fits rest. absurd (omega (arith, past, fits));
}

-- ---- invalid positions

pub none_before : (bytes : List ℕ) → AreWrongBefore bytes 0 []
none_before bytes = record {
  rising = IsNonDecreasingBy-short (λ (x : ℕ). x) [] (omega arith);
  each = λ k less. absurd (omega (arith, less));
  next = refl;
}

start_kept : (wrong more : List ℕ) (k : ℕ) → k ≤ length wrong → stretch_start (wrong ++ more) k ≡ stretch_start wrong k
start_kept wrong more zero fits = refl
start_kept wrong more (suc k) fits = ap (λ (x : ℕ). x + 1) (get_or_append_left wrong more 0 k (omega (arith, fits)))

last_before : (wrong : List ℕ) (at d : ℕ) → at ≡ stretch_start wrong (length wrong) → 0 < length wrong → get_or wrong (length wrong - 1) d < at
last_before wrong at d next some =
    let n = length wrong - 1 in
    let e : length wrong ≡ suc n = omega (arith, some) in
    let start = next ∙ ap (stretch_start wrong) e in
    let same = get_or_default_zero wrong n d (omega (arith, some)) in
    omega (arith, start, same)

-- one more invalid position
pub wrong_more : (bytes wrong : List ℕ) (at place : ℕ) → AreWrongBefore bytes at wrong → IsUtf8Run bytes at place → AreWrongBefore bytes (place + 1) (wrong ++ place ∷ [])
wrong_more bytes wrong at place w s =
    let more = wrong ++ place ∷ [] in
    let count = length wrong in
    let next = w.next in
    let forward = s.forward in
    let long = length_push wrong place in
    let last = get_or_push wrong place 0 count refl in
    let same = λ (k : ℕ) (less : k < count). get_or_append_left wrong (place ∷ []) 0 k less in
    let start = λ (k : ℕ) (fits : k ≤ count). start_kept wrong (place ∷ []) k fits in
    record {
      rising = IsNonDecreasingBy-push (λ (x : ℕ). x) wrong place w.rising (λ d some. omega (arith, last_before wrong at d w.next some, forward));
      each = λ k less. elim (cases_lt k count) [
        | inl old ↦ subst (λ (to : ℕ). IsUtf8Run bytes (stretch_start more k) to) (sym (same k old)) (subst (λ (from : ℕ). IsUtf8Run bytes from (slice_index wrong k)) (sym (start k (omega (arith, old)))) (w.each k old))
        | inr new ↦
            let k_is : count ≡ k = omega (arith, less, long, new) in
            subst (λ (i : ℕ). IsUtf8Run bytes (stretch_start more i) (slice_index more i)) k_is (subst (λ (to : ℕ). IsUtf8Run bytes (stretch_start more count) to) (sym last) (subst (λ (from : ℕ). IsUtf8Run bytes from place) (next ∙ sym (start count (omega arith))) s))
      ];
      next = ap (λ (x : ℕ). x + 1) (sym last) ∙ ap (stretch_start more) (let e : suc count ≡ length more = omega (arith, long) in e);
    }

pub all_wrong : (bytes wrong : List ℕ) (at : ℕ) → AreWrongBefore bytes at wrong → IsUtf8Run bytes at (length bytes) → AreWrong bytes wrong
all_wrong bytes wrong at w s = record {
  before = subst (λ (i : ℕ). AreWrongBefore bytes i wrong) w.next w;
  last = subst (λ (i : ℕ). IsUtf8Run bytes i (length bytes)) w.next s;
}

-- UTF-8 has no invalid positions
pub none_wrong : (bytes : List ℕ) → IsUtf8 bytes → AreWrong bytes []
none_wrong bytes text = all_wrong bytes [] 0 (none_before bytes) (stretch_to_end bytes 0 (omega arith) (subst IsUtf8 (sym (take_all (length bytes - 0) bytes (omega arith))) text))

-- ---- the stretch of a position

abbrev pub ArePast : List ℕ → ℕ → ℕ → Type 0
ArePast wrong place n = IsPartitionPoint (λ w. ltb w place ≡ true) (λ w. ltb w place ≡ false) wrong n

start_after : (wrong : List ℕ) (place n : ℕ) → ArePast wrong place n → stretch_start wrong n ≤ place
start_after wrong place zero past = omega arith
start_after wrong place (suc k) past = let less = ltb-true (slice_index wrong k) place (past.0 k 0 (omega arith) (omega arith)) in omega (arith, less)

-- the result of `get`, or a default
pub read_or : (xs : List ℕ) (n d : ℕ) (found : Option (Bor ℕ)) → is_some found ≡ nat_lt n (length xs) → IfSome found (λ x. x.now ≡ get_or xs n x.now) → unwrap_or (option_copied found) d ≡ get_or xs n d
read_or xs n d None none at = sym (get_or_past xs n d (ltb-false n (length xs) (sym none)))
read_or xs n d (Some x) some at = get_or_read xs n x.now (ltb-true n (length xs) (sym some)) at d

pub stretch_of : (bytes wrong : List ℕ) (place n : ℕ) → AreWrong bytes wrong → place ≤ length bytes → ArePast wrong place n → n ≤ length wrong → IsEndOf bytes place (get_or wrong n (length bytes))
stretch_of bytes wrong place n w within past fits = elim (cases_lt n (length wrong)) [
  | inl less ↦
      let here : IsEndOf bytes place (slice_index wrong n) = record {
        from = stretch_start wrong n;
        stretch = w.before.each n less;
        following = start_after wrong place n past;
        before = ltb-false (slice_index wrong n) place (past.1 n 0 (omega arith) less);
      } in
      subst (λ (to : ℕ). IsEndOf bytes place to) (sym (get_or_default_zero wrong n (length bytes) less)) here
  | inr all ↦
      let e : n ≡ length wrong = omega (arith, all, fits) in
      let here : IsEndOf bytes place (length bytes) = record {
        from = stretch_start wrong (length wrong);
        stretch = w.last;
        following = subst (λ (i : ℕ). stretch_start wrong i ≤ place) e (start_after wrong place n past);
        before = within;
      } in
      subst (λ (to : ℕ). IsEndOf bytes place to) (sym (get_or_past wrong n (length bytes) all)) here
]
