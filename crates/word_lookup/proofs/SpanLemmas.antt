-- Unknown spans from a run that was scanned up to a bound.
use Rattle.std.proofs.Common.{◌≡◌, ℕ, zero, suc, ◌+◌, ◌-◌, ◌<◌, ◌≤◌, Bool, true, false, cond, ◌&&◌, ◌||◌, List, [], ◌∷◌, ◌++◌, length, take, filter, sym, ap, ◌∙◌, refl, arith, subst}
use Rattle.std.specs.Char.{len_utf8}
use Rattle.mj_model.specs.Tables.{no_category}
use Rattle.std.specs.Prelude.{IfSome, slice_get, slice_index_or, not, max, min, nat_lt, nat_le, take_while, Option, Some, None}
use Rattle.std.specs.List.{prefix_len}
use Rattle.std.proofs.lemmas.Bool.{cases_Bool}
use Rattle.std.proofs.Common.{inl, inr}
use Rattle.std.proofs.lemmas.Bool.Decides.{nat_tests}
use Rattle.std.proofs.lemmas.List.{append-nil, length-take}
use Rattle.std.proofs.lemmas.List.Folds.{length-prefix_len}
use Rattle.std.proofs.lemmas.List.Sums.{prefix_len-le-length}
use Rattle.std.proofs.lemmas.List.Elements.{filter-append, filter_agree}
use Rattle.mj_model.specs.declared.category.Category.{Category}
use Rattle.mj_model.specs.declared.category.CharInfo.{CharInfo}
use Rattle.mj_model.specs.Categories.{shares}
use Rattle.mj_model.specs.Lists.{up_to}
use Rattle.mj_model.specs.Run.{run, sharing_with_first, bytes_of}
use Rattle.mj_model.specs.UnknownSpans.{grouped_span, length_spans, one_if_none, spans_of}
use Rattle.word_lookup.specs.declared.run.Run.{Run}
use Rattle.word_lookup.specs.declared.spans.Spans.{Spans}
use Rattle.word_lookup.specs.Spans.{grouped_spans, lookahead, spans_in, HasBytes}
use Rattle.word_lookup.proofs.RunLemmas.{bytes_after}

-- ---- lengths

one_length_more_by : (L m : ℕ) (b : Bool) → nat_le (suc L) m ≡ b → up_to (min L m) ++ cond b (suc L ∷ []) [] ≡ up_to (min (suc L) m)
one_length_more_by L m true e =
    let less : suc L ≤ m = grind (arith, nat_tests, e) in
    let a : min L m ≡ L = omega (arith, less) in
    let b : min (suc L) m ≡ suc L = omega (arith, less) in
    ap (λ (n : ℕ). up_to n ++ suc L ∷ []) a ∙ sym (ap up_to b)
one_length_more_by L m false e =
    let less : m ≤ L = grind (arith, nat_tests, e) in
    let same : min L m ≡ min (suc L) m = omega (arith, less) in
    append-nil (up_to (min L m)) ∙ ap up_to same

-- the lengths up to a bound
up_to_bound : (m L : ℕ) → filter (λ n. nat_le n m) (up_to L) ≡ up_to (min L m)
up_to_bound m zero = ap up_to (let e : 0 ≡ min zero m = omega arith in e)
up_to_bound m (suc L) =
    filter-append (λ n. nat_le n m) (up_to L) (suc L ∷ [])
    ∙ ap (λ (xs : List ℕ). xs ++ filter (λ n. nat_le n m) (suc L ∷ [])) (up_to_bound m L)
    ∙ one_length_more_by L m (nat_le (suc L) m) refl

below_run : (same whole n : ℕ) → 0 < whole → (nat_le n same && (not true || nat_lt n whole)) ≡ nat_le n (min same (whole - 1))
below_run same whole n some = grind (arith, nat_tests, some)

any_length : (same whole n : ℕ) → (nat_le n same && (not false || nat_lt n whole)) ≡ nat_le n same
any_length same whole n = grind (arith, nat_tests)

-- how many of the lengths there are
abbrev pub longest : Bool → ℕ → ℕ → ℕ → ℕ
longest group len same following = cond group (min (min len same) following) (min len same)

lengths_by : (group : Bool) (len same following : ℕ) → filter (λ n. nat_le n same && (not group || nat_lt n (1 + following))) (up_to len) ≡ up_to (longest group len same following)
lengths_by true len same following =
    filter_agree (λ n. nat_le n same && (not true || nat_lt n (1 + following))) (λ n. nat_le n (min same following)) (λ n. below_run same (1 + following) n (omega arith) ∙ ap (λ (m : ℕ). nat_le n (min same m)) (let e : 1 + following - 1 ≡ following = omega arith in e)) (up_to len)
    ∙ up_to_bound (min same following) len
    ∙ ap up_to (let e : min len (min same following) ≡ min (min len same) following = omega arith in e)
lengths_by false len same following =
    filter_agree (λ n. nat_le n same && (not false || nat_lt n (1 + following))) (λ n. nat_le n same) (any_length same (1 + following)) (up_to len)
    ∙ up_to_bound same len

-- a run that was scanned far enough
longest_seen : (group : Bool) (len same seen following limit seen_run : ℕ) → min len seen ≡ min len same → (group ≡ true → len ≤ limit) → seen_run ≡ min limit following
    → longest group len seen seen_run ≡ longest group len same following
longest_seen true len same seen following limit seen_run e far is = let f = far refl in omega (arith, e, f, is)
longest_seen false len same seen following limit seen_run e far is = e

-- ---- the grouped span

abbrev pub grouped_seen : Bool → ℕ → ℕ → List ℕ
grouped_seen group grouping seen_run = cond (group && nat_le seen_run grouping) ((1 + seen_run) ∷ []) []

grouped_by : (group : Bool) (grouping limit following seen_run : ℕ) → (group ≡ true → grouping + 1 ≤ limit) → seen_run ≡ min limit following
    → grouped_seen group grouping seen_run ≡ cond (group && nat_le (1 + following - 1) grouping) ((1 + following) ∷ []) []
grouped_by false grouping limit following seen_run far is = refl
grouped_by true grouping limit following seen_run far is = elim (cases_Bool (nat_le following grouping)) [
  | inl low_enough ↦
      let low : following ≤ grouping = grind (arith, nat_tests, low_enough) in
      let f = far refl in
      let same : seen_run ≡ following = omega (arith, f, is, low) in
      let one : following ≡ 1 + following - 1 = omega arith in
      ap (λ (n : ℕ). cond (nat_le n grouping) ((1 + n) ∷ []) []) same ∙ ap (λ (n : ℕ). cond (nat_le n grouping) ((1 + following) ∷ []) []) one
  | inr too_many ↦
      let high : grouping < following = grind (arith, nat_tests, too_many) in
      let f = far refl in
      let above : grouping < seen_run = omega (arith, f, is, high) in
      let a : nat_le seen_run grouping ≡ false = grind (arith, nat_tests, above) in
      let one : nat_le (1 + following - 1) grouping ≡ false = grind (arith, nat_tests, high) in
      ap (λ (b : Bool). cond b ((1 + seen_run) ∷ []) []) a ∙ sym (ap (λ (b : Bool). cond b ((1 + following) ∷ []) []) one)
]

-- ---- all of them

pub seen_spans : (category : Category) (none_known : Bool) (grouping limit following seen_run same seen : ℕ)
    → (category.invoke || none_known) ≡ true
    → (category.group ≡ true → grouping + 1 ≤ limit) → (category.group ≡ true → category.length ≤ limit) → seen_run ≡ min limit following
    → min category.length seen ≡ min category.length same
    → one_if_none none_known (grouped_seen category.group grouping seen_run ++ up_to (longest category.group category.length seen seen_run))
    ≡ spans_of category none_known grouping (1 + following) same
seen_spans category none_known grouping limit following seen_run same seen made far far_enough is seen_same =
    let g = grouped_by category.group grouping limit following seen_run far is in
    let l = ap up_to (longest_seen category.group category.length same seen following limit seen_run seen_same far_enough is) ∙ sym (lengths_by category.group category.length same following) in
    ap (λ (xs : List ℕ). one_if_none none_known (xs ++ up_to (longest category.group category.length seen seen_run))) g
    ∙ ap (λ (xs : List ℕ). one_if_none none_known (grouped_span category grouping (1 + following) ++ xs)) l
    ∙ sym (ap (λ (b : Bool). cond b (one_if_none none_known (grouped_span category grouping (1 + following) ++ length_spans category (1 + following) same)) []) made)

pub no_spans : (category : Category) (none_known : Bool) (grouping whole same : ℕ) → (category.invoke || none_known) ≡ false → spans_of category none_known grouping whole same ≡ []
no_spans category none_known grouping whole same made =
    ap (λ (b : Bool). cond b (one_if_none none_known (grouped_span category grouping whole ++ length_spans category whole same)) []) made

-- ---- characters that share a category

front_prefix_by : (p : ℕ → Bool) (n : ℕ) (c : ℕ) (cs : List ℕ) (b : Bool) → prefix_len p (take n cs) ≡ min n (prefix_len p cs) → cond b (1 + prefix_len p (take n cs)) 0 ≡ min (suc n) (cond b (1 + prefix_len p cs) 0)
front_prefix_by p n c cs true h = omega (arith, h)
front_prefix_by p n c cs false h = omega arith

pub front_prefix : (p : ℕ → Bool) (n : ℕ) (cs : List ℕ) → prefix_len p (take n cs) ≡ min n (prefix_len p cs)
front_prefix p zero cs = omega arith
front_prefix p (suc n) [] = omega arith
front_prefix p (suc n) (c ∷ cs) = front_prefix_by p n c cs (p c) (front_prefix p n cs)

-- the first one that follows in the run shares a category with the first of all
second_by : (b : Bool) (n k : ℕ) → min 1 (cond b (suc n) 0) ≤ cond b (1 + k) 0
second_by true n k = omega arith
second_by false n k = omega arith

second_alike : (info : ℕ → CharInfo) (entry : CharInfo) (cs : List ℕ) → min 1 (run info entry cs) ≤ prefix_len (λ c. shares entry (info c)) cs
second_alike info entry [] = omega arith
second_alike info entry (c ∷ cs) = second_by (shares entry (info c)) (run info (info c) cs) (prefix_len (λ d. shares entry (info d)) cs)

few_by : (group : Bool) (len following all most known : ℕ) → min 1 following ≤ all → most ≡ longest group len len following → known ≡ cond group 2 1 → most ≤ known
    → most ≡ longest group len (1 + min len all) following
few_by true len following all most known second is is_known few = omega (arith, second, is, is_known, few)
few_by false len following all most known second is is_known few = omega (arith, second, is, is_known, few)

more_by : (group : Bool) (len following all most seen : ℕ) → most ≡ longest group len len following → seen ≡ min (most - 1) all → min most (1 + seen) ≡ longest group len (1 + min len all) following
more_by true len following all most seen is is_seen = omega (arith, is, is_seen)
more_by false len following all most seen is is_seen = omega (arith, is, is_seen)

alike_are : (p : ℕ → Bool) (n : ℕ) (cs : List ℕ) → length (take_while p (take n cs)) ≡ min n (prefix_len p cs)
alike_are p n cs = let a = length-prefix_len p (take n cs) in let e = front_prefix p n cs in omega (arith, a, e)

-- the longest length, if no characters have to be compared
pub few_alike_for_sure : (info : ℕ → CharInfo) (entry : CharInfo) (cs : List ℕ) (group : Bool) (len following most known : ℕ) → following ≤ run info entry cs
    → most ≡ longest group len len following → known ≡ cond group 2 1 → most ≤ known
    → most ≡ longest group len (1 + length (take_while (λ c. shares entry (info c)) (take len cs))) following
few_alike_for_sure info entry cs group len following most known low is is_known few =
    let second = second_alike info entry cs in
    few_by group len following (prefix_len (λ c. shares entry (info c)) cs) most known (omega (arith, second, low)) is is_known few
    ∙ ap (λ (n : ℕ). longest group len (1 + n) following) (sym (alike_are (λ c. shares entry (info c)) len cs))

-- the longest length, after comparing one character fewer than there are lengths
pub alike_up_to_longest : (p : ℕ → Bool) (cs : List ℕ) (group : Bool) (len following most seen : ℕ) → most ≡ longest group len len following → seen ≡ length (take_while p (take (most - 1) cs))
    → min most (1 + seen) ≡ longest group len (1 + length (take_while p (take len cs))) following
alike_up_to_longest p cs group len following most seen is is_seen =
    more_by group len following (prefix_len p cs) most seen is (is_seen ∙ alike_are p (most - 1) cs)
    ∙ ap (λ (n : ℕ). longest group len (1 + n) following) (sym (alike_are p len cs))

-- ---- what is found

grouped_found_by : (b : Bool) (n bytes : ℕ) → grouped_spans (cond b (Some (record { characters = n; bytes = bytes })) None) ≡ cond b (n ∷ []) []
grouped_found_by true n bytes = refl
grouped_found_by false n bytes = refl

has_bytes_by : (b : Bool) (first : ℕ) (cs : List ℕ) (n bytes : ℕ) → (b ≡ true → bytes ≡ bytes_of n cs) → IfSome (cond b (Some (record { characters = 1 + n; bytes = len_utf8 first + bytes })) None) (HasBytes (first ∷ cs))
has_bytes_by true first cs n bytes h = let e = bytes_after n first cs in let f = h refl in omega (arith, e, f)
has_bytes_by false first cs n bytes h = tt

pub has_bytes : (b : Bool) (first : ℕ) (cs : List ℕ) (n bytes : ℕ) (grouped found : Option Run) → found ≡ grouped → grouped ≡ cond b (Some (record { characters = 1 + n; bytes = len_utf8 first + bytes })) None
    → (b ≡ true → bytes ≡ bytes_of n cs) → IfSome found (HasBytes (first ∷ cs))
has_bytes b first cs n bytes grouped found e f h = subst (λ (o : Option Run). IfSome o (HasBytes (first ∷ cs))) (sym (e ∙ f)) (has_bytes_by b first cs n bytes h)

alike_seen : (info : ℕ → CharInfo) (first limit : ℕ) (cs : List ℕ) (seen : ℕ) → seen ≡ length (take_while (λ c. shares (info first) (info c)) (take limit cs)) → min limit (1 + seen) ≡ min limit (sharing_with_first info first cs)
alike_seen info first limit cs seen is =
    let p = λ (c : ℕ). shares (info first) (info c) in
    let a = length-prefix_len p (take limit cs) in
    let b = length-prefix_len p cs in
    let e = front_prefix p limit cs in
    omega (arith, is, a, b, e)

pub spans_found : (info : ℕ → CharInfo) (category : Category) (none_known : Bool) (grouping limit first : ℕ) (cs : List ℕ) (seen_run seen bytes : ℕ) (spans result : Spans)
    → (category.invoke || none_known) ≡ true
    → (category.group ≡ true → grouping + 1 ≤ limit) → (category.group ≡ true → category.length ≤ limit)
    → seen_run ≡ min limit (run info (info first) cs) → seen ≡ length (take_while (λ c. shares (info first) (info c)) (take category.length cs))
    → spans.grouped ≡ cond (category.group && nat_le seen_run grouping) (Some (record { characters = 1 + seen_run; bytes = bytes })) None
    → spans.longest ≡ longest category.group category.length (1 + seen) seen_run
    → spans_in result ≡ one_if_none none_known (spans_in spans)
    → spans_in result ≡ spans_of category none_known grouping (1 + run info (info first) cs) (sharing_with_first info first cs)
spans_found info category none_known grouping limit first cs seen_run seen bytes spans result made far far_enough is_run is_seen grouped long found =
    let g : grouped_spans spans.grouped ≡ grouped_seen category.group grouping seen_run = ap grouped_spans grouped ∙ grouped_found_by (category.group && nat_le seen_run grouping) (1 + seen_run) bytes in
    found
    ∙ ap (λ (xs : List ℕ). one_if_none none_known (xs ++ up_to spans.longest)) g
    ∙ ap (λ (n : ℕ). one_if_none none_known (grouped_seen category.group grouping seen_run ++ up_to n)) long
    ∙ seen_spans category none_known grouping limit (run info (info first) cs) seen_run (sharing_with_first info first cs) (1 + seen) made far far_enough is_run (alike_seen info first category.length cs seen is_seen)

-- `lookahead` characters suffice to know whether more follow than the grouping
ahead_of_grouping : (group : Bool) (grouping len : ℕ) → group ≡ true → grouping + 1 ≤ cond group (max (grouping + 1) len) 0
ahead_of_grouping true grouping len is = omega arith
ahead_of_grouping false grouping len is = absurd (cc)

-- and whether LENGTH many follow
ahead_of_lengths : (group : Bool) (grouping len : ℕ) → group ≡ true → len ≤ cond group (max (grouping + 1) len) 0
ahead_of_lengths true grouping len is = omega arith
ahead_of_lengths false grouping len is = absurd (cc)

-- a grouped run ends within `lookahead` characters
pub grouped_below : (group : Bool) (grouping len limit n : ℕ) → limit ≡ cond group (max (grouping + 1) len) 0 → (group && nat_le n grouping) ≡ true → n < limit
grouped_below true grouping len limit n is grouped = let low : n ≤ grouping = grind (arith, nat_tests, grouped) in omega (arith, low, is)
grouped_below false grouping len limit n is grouped = absurd (cc)

-- the spans, if the categories of the first character are known
pub spans_found_from : (info : ℕ → CharInfo) (category wanted : Category) (none_known : Bool) (grouping limit first : ℕ) (entry : CharInfo) (cs : List ℕ) (seen_run seen n bytes : ℕ) (spans result : Spans)
    → entry ≡ info first → wanted ≡ category → n ≡ category.length → (category.invoke || none_known) ≡ true
    → limit ≡ lookahead category grouping
    → seen_run ≡ min limit (run info entry cs) → seen ≡ length (take_while (λ c. shares entry (info c)) (take n cs))
    → spans.grouped ≡ cond (category.group && nat_le seen_run grouping) (Some (record { characters = 1 + seen_run; bytes = bytes })) None
    → spans.longest ≡ longest category.group category.length (1 + seen) seen_run
    → spans_in result ≡ one_if_none none_known (spans_in spans)
    → spans_in result ≡ spans_of wanted none_known grouping (1 + run info (info first) cs) (sharing_with_first info first cs)
spans_found_from info category wanted none_known grouping limit first entry cs seen_run seen n bytes spans result e w is_n made limit_is is_run is_seen grouped long found =
    let far : category.group ≡ true → grouping + 1 ≤ limit = λ group. subst (λ (n : ℕ). grouping + 1 ≤ n) (sym limit_is) (ahead_of_grouping category.group grouping category.length group) in
    let far_enough : category.group ≡ true → category.length ≤ limit = λ group. subst (λ (n : ℕ). category.length ≤ n) (sym limit_is) (ahead_of_lengths category.group grouping category.length group) in
    let runs : seen_run ≡ min limit (run info (info first) cs) = is_run ∙ ap (λ (i : CharInfo). min limit (run info i cs)) e in
    let sees : seen ≡ length (take_while (λ c. shares (info first) (info c)) (take category.length cs)) =
    is_seen ∙ ap (λ (i : CharInfo). length (take_while (λ c. shares i (info c)) (take n cs))) e ∙ ap (λ (k : ℕ). length (take_while (λ c. shares (info first) (info c)) (take k cs))) is_n in spans_found
    info category none_known grouping limit first cs seen_run seen bytes spans result made far far_enough runs sees grouped long found
    ∙ ap (λ (k : Category). spans_of k none_known grouping (1 + run info (info first) cs) (sharing_with_first info first cs)) (sym w)

pub no_spans_from : (category wanted : Category) (none_known : Bool) (grouping whole same : ℕ) → wanted ≡ category → (category.invoke || none_known) ≡ false → [] ≡ spans_of wanted none_known grouping whole same
no_spans_from category wanted none_known grouping whole same w made =
    sym (ap (λ (k : Category). spans_of k none_known grouping whole same) w ∙ no_spans category none_known grouping whole same made)

-- ---- the category

found_in : (categories : List Category) (i : ℕ) (found : Category) → slice_get categories i ≡ Some found → slice_index_or categories i no_category ≡ found
found_in [] i found h = absurd (cc)
found_in (c ∷ categories) zero found h = cc
found_in (c ∷ categories) (suc i) found h = found_in categories i found h

pub category_is : (categories : List Category) (head i : ℕ) (found : Category) → i ≡ head → slice_get categories i ≡ Some found → slice_index_or categories head no_category ≡ found
category_is categories head i found at h = ap (λ (k : ℕ). slice_index_or categories k no_category) (sym at) ∙ found_in categories i found h

-- ---- the longest length

few_alike : (p : ℕ → Bool) (cs : List ℕ) → length (take_while p cs) ≤ length cs
few_alike p cs =
    let e = length-prefix_len p cs in
    let low = prefix_len-le-length p cs in
    omega (arith, e, low)

within_by : (group : Bool) (len seen following long result n : ℕ) → seen ≤ n → long ≡ longest group len (1 + seen) following → result ≤ max 1 long → result ≤ suc n
within_by true len seen following long result n few is most = omega (arith, few, is, most)
within_by false len seen following long result n few is most = omega (arith, few, is, most)

pub longest_within : (group : Bool) (p : ℕ → Bool) (limit len seen following long result : ℕ) (cs : List ℕ) → seen ≡ length (take_while p (take limit cs)) → long ≡ longest group len (1 + seen) following → result ≤ max 1 long → result ≤ suc (length cs)
longest_within group p limit len seen following long result cs are is most =
    let few = few_alike p (take limit cs) in
    let short = length-take limit cs in
    within_by group len seen following long result (length cs) (omega (arith, are, few, short)) is most
