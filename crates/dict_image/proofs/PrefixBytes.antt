-- Listed keys that start with equal bytes, by the byte after these.
use Rattle.std.proofs.Common.{◌≡◌, ℕ, suc, ◌+◌, ◌<◌, ◌≤◌, List, [], ◌∷◌, ◌++◌, length, get_or, take, drop, Option, Some, None, inl, inr, sym, ap, ◌∙◌, refl, arith, subst}
use Rattle.std.specs.Cmp.{nat_cmp_is, ranked}
use Rattle.std.specs.Ordering.{nat_cmp, ordering_then}
use Rattle.std.specs.declared.cmp.Ordering.{Ordering}
use Rattle.std.specs.declared.cmp.Ordering.TheVariants.{Less, Equal, Greater}
use Rattle.std.specs.Str.{bytes_eq}
use Rattle.std.proofs.lemmas.Slice.Eq.{bytes_eq-Decides}
use Rattle.std.proofs.lemmas.Bool.{cases_eq, cases_lt}
use Rattle.std.proofs.lemmas.List.{append-nil, append_assoc, length-append, length-take-le, nil_from_length, take-append-drop, take_all, take_more, get_or_past}
use Rattle.mj_model.specs.CellMap.{codes_of}
use Rattle.mj_model.proofs.KeyWalks.{code_of_end, length-codes_of}
use Rattle.image_format.specs.OlderSections.{IsListedKey, listed_key, listed_number}
use Rattle.dict_image.specs.KeyLists.{KeyList}
use Rattle.dict_image.specs.ListedHits.{StartsWith, CodesRise, IsFirstFrom, IsRangeOf, code_at}
use Rattle.dict_image.proofs.ListedOrder.{found_number, groups_of_list, key_above, longer_not_below, order}

-- ---- texts by the byte after a common prefix

same_rank : (x : ℕ) → nat_cmp x x ≡ Equal
same_rank x = sym (nat_cmp_is x x Equal refl)

without_prefix : (front xs ys : List ℕ) → order (front ++ xs) (front ++ ys) ≡ order xs ys
without_prefix [] xs ys = refl
without_prefix (f ∷ fs) xs ys = ap (λ (o : Ordering). ordering_then o (order (fs ++ xs) (fs ++ ys))) (same_rank f) ∙ without_prefix fs xs ys

abbrev first_code : List ℕ → ℕ
first_code xs = get_or (codes_of xs) 0 0

code_after : (front rest : List ℕ) → get_or (codes_of (front ++ rest)) (length front) 0 ≡ first_code rest
unfolding codes_of
code_after [] rest = refl
code_after (f ∷ fs) rest = code_after fs rest

by_rank : (x y : ℕ) (o rest : Ordering) → o ≡ nat_cmp x y → ordering_then o rest ≡ Less → x ≤ y
by_rank x y Less rest is less = let r = ranked x y Less is in omega (arith, r)
by_rank x y Equal rest is less = let r = ranked x y Equal is in omega (arith, r)
by_rank x y Greater rest is less = absurd (cc)

codes_in_order : (xs ys : List ℕ) → order xs ys ≡ Less → first_code xs ≤ first_code ys
unfolding codes_of
codes_in_order [] ys less = omega arith
codes_in_order (x ∷ xs) [] less = absurd (cc)
codes_in_order (x ∷ xs) (y ∷ ys) less = let l = by_rank x y (nat_cmp x y) (order xs ys) refl less in omega (arith, l)

first_byte : (xs : List ℕ) (byte : ℕ) → first_code xs ≡ byte + 1 → (rest : List ℕ) × (xs ≡ byte ∷ rest)
unfolding codes_of
first_byte [] byte e = absurd (omega (arith, e))
first_byte (x ∷ xs) byte e = let same : x ≡ byte = omega (arith, e) in (xs, ap (λ (b : ℕ). b ∷ xs) same)

code_of_first : (byte : ℕ) (rest : List ℕ) → first_code (byte ∷ rest) ≡ byte + 1
unfolding codes_of
code_of_first byte rest = let e : suc byte ≡ byte + 1 = omega arith in e

pub code_past : (key : List ℕ) (place : ℕ) → length key ≤ place → get_or (codes_of key) place 0 ≡ 0
code_past key place past = elim (cases_eq place (length key)) [
  | inl end ↦ ap (λ (i : ℕ). get_or (codes_of key) i 0) end ∙ code_of_end key
  | inr other ↦ get_or_past (codes_of key) place 0 (let l = length-codes_of key in omega (arith, l, past, other))
]

-- ---- ranges

none_of : (o : Option ℕ) → ((g : ℕ) → o ≡ Some g → ⊥) → o ≡ None
none_of None none = refl
none_of (Some g) none = absurd (none g refl)

-- a key that starts with the prefix is among those
among : (list : KeyList) (front more : List ℕ) (low high g : ℕ) → IsRangeOf list front low high → listed_number list.count list.bytes (front ++ more) ≡ Some g → (low ≤ g) × (g < high)
among list front more low high g range found =
    let key = front ++ more in
    let f = found_number (λ (i : ℕ). bytes_eq (listed_key list.bytes i) key) 0 list.count g found in
    range.all g (let l = f.1 in omega (arith, l)) (more, (bytes_eq-Decides (listed_key list.bytes g) key).0 f.2)

-- if there are none, no key starts with the prefix
pub no_longer_number : (list : KeyList) (front : List ℕ) (low high : ℕ) → IsRangeOf list front low high → high ≤ low → (more : List ℕ) → listed_number list.count list.bytes (front ++ more) ≡ None
no_longer_number list front low high range empty more = none_of (listed_number list.count list.bytes (front ++ more)) (λ g found. let m = among list front more low high g range found in omega (arith, m, empty))

module _ (list : KeyList) (are : (i : ℕ) → i < list.count → IsListedKey list.bytes i) (front : List ℕ) (low high : ℕ) (range : IsRangeOf list front low high) where
  code_in : (i : ℕ) (begins : StartsWith (listed_key list.bytes i) front) → code_at list (length front) i ≡ first_code begins.0
  code_in i begins = ap (λ (key : List ℕ). get_or (codes_of key) (length front) 0) begins.1 ∙ code_after front begins.0

  pub codes_rise : CodesRise list (length front) low high
  codes_rise i j up less below =
      let w = range.within in
      let a = range.inside i up (omega (arith, less, below)) in
      let b = range.inside j (omega (arith, up, less)) below in
      let keys : order (listed_key list.bytes i) (listed_key list.bytes j) ≡ Less = key_above list.count list.bytes are i j less (omega (arith, below, w)) in
      let rests : order a.0 b.0 ≡ Less =
      sym (without_prefix front a.0 b.0) ∙ ap (λ (key : List ℕ). order key (front ++ b.0)) (sym a.1) ∙ ap (order (listed_key list.bytes i)) (sym b.1) ∙ keys in
      let e = code_in i a in
      let f = code_in j b in
      let l = codes_in_order a.0 b.0 rests in
      omega (arith, e, f, l)

  -- the keys whose next byte is a given one
  pub narrowed : (byte from to : ℕ) → IsFirstFrom list (length front) (byte + 1) low high from → IsFirstFrom list (length front) (byte + 2) from high to → IsRangeOf list (front ++ byte ∷ []) from to
  narrowed byte from to first last = record {
    order = last.above;
    within = let w = range.within in let l = last.within in omega (arith, w, l);
    inside = λ i up below.
        let l = first.above in
        let h = last.within in
        let a = range.inside i (omega (arith, l, up)) (omega (arith, h, below)) in
        let least = first.others i up (omega (arith, h, below)) in
        let most = last.below i up below in
        let e = code_in i a in
        let b = first_byte a.0 byte (omega (arith, e, least, most)) in
        (b.0, a.1 ∙ ap (λ (rest : List ℕ). front ++ rest) b.1 ∙ sym (append_assoc front (byte ∷ []) b.0));
    all = λ i within begins.
        let goes : StartsWith (listed_key list.bytes i) front = (byte ∷ begins.0, begins.1 ∙ append_assoc front (byte ∷ []) begins.0) in
        let among = range.all i within goes in
        let code = code_in i goes ∙ code_of_first byte begins.0 in (
          elim (cases_lt i from) [
            | inl below ↦ absurd (let b = first.below i among.0 below in omega (arith, b, code))
            | inr above ↦ above
          ],
          elim (cases_lt i to) [
            | inl below ↦ below
            | inr above ↦ absurd (let b = last.others i above among.1 in omega (arith, b, code))
          ],
        );
  }

  -- the first of them is the prefix itself, or no key is
  pub number_of_first : low < high → length (listed_key list.bytes low) ≡ length front → listed_number list.count list.bytes front ≡ Some low
  number_of_first some long =
      let w = range.within in
      let a = range.inside low (omega arith) some in
      let e = ap (length {A = ℕ}) a.1 ∙ length-append front a.0 in
      let none = nil_from_length a.0 (omega (arith, e, long)) in
      let is : listed_key list.bytes low ≡ front = a.1 ∙ ap (λ (rest : List ℕ). front ++ rest) none ∙ append-nil front in
      subst (λ (key : List ℕ). listed_number list.count list.bytes key ≡ Some low) is ((groups_of_list list.count list.bytes are).has_key low (omega (arith, w, some)))

  among_whole : (g : ℕ) → listed_number list.count list.bytes front ≡ Some g → (low ≤ g) × (g < high)
  among_whole g found = among list front [] low high g range (ap (listed_number list.count list.bytes) (append-nil front) ∙ found)

  pub number_of_none : (low < high → length (listed_key list.bytes low) ≡ length front → ⊥) → listed_number list.count list.bytes front ≡ None
  number_of_none other = none_of (listed_number list.count list.bytes front) (λ g found.
      let w = range.within in
      let m = among_whole g found in
      let is : listed_key list.bytes g ≡ front = (groups_of_list list.count list.bytes are).key_is front g found in
      elim (cases_eq low g) [
        | inl same ↦ other (omega (arith, m)) (ap (λ (i : ℕ). length (listed_key list.bytes i)) same ∙ ap (length {A = ℕ}) is)
        | inr apart ↦
            let a = range.inside low (omega arith) (omega (arith, m)) in
            let less : order (listed_key list.bytes low) (listed_key list.bytes g) ≡ Less = key_above list.count list.bytes are low g (omega (arith, m, apart)) (omega (arith, m, w)) in
            longer_not_below front a.0 (ap (λ (key : List ℕ). order key front) (sym a.1) ∙ ap (order (listed_key list.bytes low)) (sym is) ∙ less)
      ])

-- ---- the first bytes of a text

pub prefix_long : (n : ℕ) (text : List ℕ) → n ≤ length text → length (take n text) ≡ n
prefix_long n text short = length-take-le n text short

pub prefix_more : (n : ℕ) (text : List ℕ) → n < length text → take (n + 1) text ≡ take n text ++ get_or text n 0 ∷ []
prefix_more n text less = take_more text n 0 less

-- if no key starts with a prefix of a text, none starts with the whole text
pub none_begins : (list : KeyList) (text : List ℕ) (n low high : ℕ) → high ≤ low → IsRangeOf list (take n text) low high → IsRangeOf list (take (length text) text) low high
none_begins list text n low high empty range = record {
  order = range.order;
  within = range.within;
  inside = λ i up below. absurd (omega (arith, up, below, empty));
  all = λ i within begins.
      let whole : take (length text) text ≡ take n text ++ drop n text = take_all (length text) text (omega arith) ∙ sym (take-append-drop n text) in
      range.all i within (drop n text ++ begins.0, begins.1 ∙ ap (λ (front : List ℕ). front ++ begins.0) whole ∙ append_assoc (take n text) (drop n text) begins.0);
}
