-- An index between brackets: its digits are all the leading digits, so its end, its value and the
-- remainder are unique.
use Rattle.std.proofs.Common.{◌≡◌, ℕ, suc, ◌+◌, ◌-◌, ◌*◌, ◌<◌, ◌≤◌, true, cond, List, [], ◌∷◌, ◌++◌, length, take, drop, get_or, refl, sym, ◌∙◌, ap, arith, Some, None, inl, inr, fold}
use Rattle.std.specs.Prelude.{nat_le}
use Rattle.std.specs.Char.{is_ascii_digit}
use Rattle.std.specs.List.{prefix_len}
use Rattle.std.specs.Str.{all_ascii_digits}
use Rattle.std.proofs.lemmas.Bool.{cases_Bool, and_parts, and_from, leb-true, cond-true, cond-false, le-leb, lt-leb}
use Rattle.std.proofs.lemmas.List.{take_at, drop_at, drop_more, take-append-drop, length-append, length-drop, length-take-le}
use Rattle.std.proofs.lemmas.Option.{same_Some}
use Rattle.out_format.specs.Formats.{IsIndex}
use Rattle.mj_model.specs.Numbers.{digits_value}
use Rattle.mj_model.proofs.Basics.{same_head, same_tail}
use Rattle.out_format.specs.FirstItems.{HasIndex, HasNoIndex}

abbrev pub digits_before : List ℕ → ℕ
digits_before cs = prefix_len is_ascii_digit cs

digits_up_to : (ds rest : List ℕ) → all_ascii_digits ds ≡ true → digits_before (ds ++ 93 ∷ rest) ≡ length ds
digits_up_to [] rest are = refl
digits_up_to (d ∷ ds) rest are =
    let p = and_parts (is_ascii_digit d) (all_ascii_digits ds) are in
    let more : digits_before (ds ++ 93 ∷ rest) ≡ length ds = digits_up_to ds rest p.1 in
    cond-true (is_ascii_digit d) (1 + digits_before (ds ++ 93 ∷ rest)) 0 p.0 ∙ omega (arith, more)

pub are_digits : (cs : List ℕ) → all_ascii_digits (take (digits_before cs) cs) ≡ true
are_digits [] = refl
are_digits (c ∷ cs) = elim (cases_Bool (is_ascii_digit c)) [
  | inl is ↦
      let n : digits_before (c ∷ cs) ≡ suc (digits_before cs) = cond-true (is_ascii_digit c) (1 + digits_before cs) 0 is ∙ omega arith in
      ap (λ (k : ℕ). all_ascii_digits (take k (c ∷ cs))) n ∙ and_from (is_ascii_digit c) (all_ascii_digits (take (digits_before cs) cs)) is (are_digits cs)
  | inr not_one ↦ ap (λ (k : ℕ). all_ascii_digits (take k (c ∷ cs))) (cond-false (is_ascii_digit c) (1 + digits_before cs) 0 not_one)
]

-- the text after the opening bracket of an index
pub record IndexFacts (cs : List ℕ) (n : ℕ) (rest : List ℕ) : Type 0 where
  pub some : 1 ≤ digits_before cs
  pub few : digits_before cs ≤ 5
  pub within : digits_before cs < length cs
  pub closed : get_or cs (digits_before cs) 0 ≡ 93
  pub value : digits_value (take (digits_before cs) cs) ≡ n
  pub low : n ≤ 65535
  pub rest_is : rest ≡ drop (digits_before cs + 1) cs

pub index_facts : (digits cs rest : List ℕ) (n : ℕ) → IsIndex digits n → cs ≡ digits ++ 93 ∷ rest → IndexFacts cs n rest
index_facts digits cs rest n is e =
    let count : digits_before cs ≡ length digits = ap digits_before e ∙ digits_up_to digits rest is.are_digits in
    let some : 1 ≤ length digits = is.some in
    let few : length digits ≤ 5 = is.few in
    let long : length cs ≡ length digits + length (93 ∷ rest) = ap length e ∙ length-append digits (93 ∷ rest) in
    let first : drop (digits_before cs) cs ≡ 93 ∷ rest = ap (λ (k : ℕ). drop k cs) count ∙ ap (drop (length digits)) e ∙ drop_at digits (93 ∷ rest) (length digits) refl in
    let within : digits_before cs < length cs = omega (arith, count, long) in
    let split : 93 ∷ rest ≡ get_or cs (digits_before cs) 0 ∷ drop (digits_before cs + 1) cs = sym first ∙ drop_more cs (digits_before cs) 0 within in
    record {
      some = omega (arith, count, some);
      few = omega (arith, count, few);
      within = within;
      closed = (let e = split in cc);
      value = ap (λ (k : ℕ). digits_value (take k cs)) count ∙ ap (λ (xs : List ℕ). digits_value (take (length digits) xs)) e
          ∙ ap digits_value (take_at digits (93 ∷ rest) (length digits) refl) ∙ is.value;
      low = is.low;
      rest_is = (let e = split in cc);
    }

pub facts_of : (cs rest : List ℕ) (n : ℕ) → HasIndex (91 ∷ cs) n rest → IndexFacts cs n rest
facts_of cs rest n has = index_facts has.digits cs rest n has.is_index (same_tail 91 91 cs (has.digits ++ 93 ∷ rest) has.is)

-- ---- how the code finds an index

pub digits_there : (cs : List ℕ) (count : ℕ) → count ≡ digits_before cs → all_ascii_digits (take count cs) ≡ true
digits_there cs count is = ap (λ (k : ℕ). all_ascii_digits (take k cs)) is ∙ are_digits cs

some_not_none : (x : ℕ) → Some x ≡ None → ⊥
some_not_none x e = cc

value_fits : (value n : ℕ) → Some n ≡ cond (nat_le value 65535) (Some value) None → (value ≡ n) × (n ≤ 65535)
value_fits value n e = elim (cases_Bool (nat_le value 65535)) [
  | inl fits ↦
      let same : value ≡ n = same_Some value n (sym (e ∙ cond-true (nat_le value 65535) (Some value) None fits)) in
      let low : value ≤ 65535 = leb-true value 65535 fits in
      (same, omega (arith, same, low))
  | inr great ↦ absurd (some_not_none n (e ∙ cond-false (nat_le value 65535) (Some value) None great))
]

pub has_index : (cs sub rest : List ℕ) (count n : ℕ) → count ≡ digits_before cs → count ≤ length cs → (count ≡ 0 → ⊥) → count ≤ 5 → sub ≡ drop count cs → sub ≡ 93 ∷ rest
    → Some n ≡ cond (nat_le (digits_value (take count cs)) 65535) (Some (digits_value (take count cs))) None → HasIndex (91 ∷ cs) n rest
has_index cs sub rest count n is within some few following closed number =
    let long : length (take count cs) ≡ count = length-take-le count cs within in
    let v = value_fits (digits_value (take count cs)) n number in
    record {
      digits = take count cs;
      is_index = record {
        some = (let h : count ≡ 0 → ⊥ = some in omega (arith, long, h));
        few = omega (arith, long, few);
        are_digits = digits_there cs count is;
        value = v.0;
        low = v.1;
      };
      is = ap (λ (xs : List ℕ). 91 ∷ xs) (sym (take-append-drop count cs) ∙ ap (λ (xs : List ℕ). take count cs ++ xs) (sym following ∙ closed));
    }

pub no_bracket : (c : ℕ) (cs : List ℕ) → (c ≡ 91 → ⊥) → HasNoIndex (c ∷ cs)
no_bracket c cs other = λ n rest has. other (same_head c 91 cs (has.digits ++ 93 ∷ rest) has.is)

pub no_text : HasNoIndex []
no_text = λ n rest has. let e = has.is in absurd (cc)

pub too_few : (cs : List ℕ) (count : ℕ) → count ≡ digits_before cs → count ≡ 0 → HasNoIndex (91 ∷ cs)
too_few cs count is none = λ n rest has. let f = (facts_of cs rest n has).some in omega (arith, is, none, f)

pub too_many : (cs : List ℕ) (count : ℕ) → count ≡ digits_before cs → 5 < count → HasNoIndex (91 ∷ cs)
too_many cs count is many = λ n rest has. let f = (facts_of cs rest n has).few in omega (arith, is, many, f)

pub at_end : (cs sub : List ℕ) (count : ℕ) → count ≡ digits_before cs → sub ≡ drop count cs → sub ≡ [] → HasNoIndex (91 ∷ cs)
at_end cs sub count is following end = λ n rest has.
    let f : digits_before cs < length cs = (facts_of cs rest n has).within in
    let long : length (drop count cs) ≡ length cs - count = length-drop count cs in
    let none : length (drop count cs) ≡ 0 = ap length (sym following ∙ end) in
    omega (arith, is, f, long, none)

pub not_closed : (cs sub more : List ℕ) (count c : ℕ) → count ≡ digits_before cs → sub ≡ drop count cs → sub ≡ c ∷ more → (c ≡ 93 → ⊥) → HasNoIndex (91 ∷ cs)
not_closed cs sub more count c is following here other = λ n rest has.
    let f = facts_of cs rest n has in
    let there : get_or cs count 0 ≡ 93 = ap (λ (k : ℕ). get_or cs k 0) is ∙ f.closed in
    let low : digits_before cs < length cs = f.within in
    let within : count < length cs = omega (arith, is, low) in
    let split : c ∷ more ≡ get_or cs count 0 ∷ drop (count + 1) cs = sym (sym following ∙ here) ∙ drop_more cs count 0 within in
    other (same_head c (get_or cs count 0) more (drop (count + 1) cs) split ∙ there)

pub too_great : (cs : List ℕ) (count : ℕ) → count ≡ digits_before cs
    → None ≡ cond (nat_le (digits_value (take count cs)) 65535) (Some (digits_value (take count cs))) None → HasNoIndex (91 ∷ cs)
too_great cs count is none = λ n rest has.
    let f = facts_of cs rest n has in
    let value : digits_value (take count cs) ≡ n = ap (λ (k : ℕ). digits_value (take k cs)) is ∙ f.value in
    let low : n ≤ 65535 = f.low in
    let fits : nat_le (digits_value (take count cs)) 65535 ≡ true = le-leb (digits_value (take count cs)) 65535 (omega (arith, value, low)) in
    some_not_none (digits_value (take count cs)) (sym (none ∙ cond-true (nat_le (digits_value (take count cs)) 65535) (Some (digits_value (take count cs))) None fits))

-- ---- the value of digits

abbrev pub value_from : ℕ → List ℕ → ℕ
value_from value digits = fold (λ v c. 10 * v + (c - 0x30)) value digits

grows : (digits : List ℕ) (value : ℕ) → value ≤ value_from value digits
grows [] value = omega arith
grows (d ∷ ds) value = let more : 10 * value + (d - 0x30) ≤ value_from (10 * value + (d - 0x30)) ds = grows ds (10 * value + (d - 0x30)) in omega (arith, more)

pub value_great : (digits : List ℕ) (i whole value next : ℕ) → i < length digits → whole ≡ value_from value (drop i digits) → next ≡ 10 * value + (get_or digits i 0 - 0x30) → 65535 < next
    → None ≡ cond (nat_le whole 65535) (Some whole) None
value_great digits i whole value next in' is step great =
    let up : next ≤ value_from next (drop (i + 1) digits) = grows (drop (i + 1) digits) next in
    let e : whole ≡ value_from next (drop (i + 1) digits) = is ∙ ap (value_from value) (drop_more digits i 0 in') ∙ ap (λ (v : ℕ). value_from v (drop (i + 1) digits)) (sym step) in
    sym (cond-false (nat_le whole 65535) (Some whole) None (lt-leb whole 65535 (omega (arith, up, e, great))))
