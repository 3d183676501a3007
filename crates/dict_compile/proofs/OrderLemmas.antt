-- A list of rows has exactly one lexicon.
--
-- If two lists are in order, and their entries of each surface are in the same order, their first
-- entries are equal: neither is below the other, so both have one surface, and are the first of
-- that surface. The remainders are in order as well.
use Rattle.std.proofs.Common.{◌≡◌, suc, ◌+◌, Bool, true, false, not, cond, ◌&&◌, List, [], ◌∷◌, drop, get_or, map, refl, sym, ap, ◌∙◌, subst, arith}
use Rattle.std.specs.Cmp.{IsStrictWeakOrder}
use Rattle.std.specs.Cmp.Lexicographic.{slice_cmp}
use Rattle.std.specs.List.{AllByRecursion, enumerate_from, filter}
use Rattle.std.specs.List.Sorted.{IsSortedBy, ties}
use Rattle.std.specs.Ordering.{nat_cmp, is_lt}
use Rattle.std.proofs.lemmas.Cmp.{nat_list_cmp_total}
use Rattle.std.proofs.lemmas.List.Elements.{recursion_from_All}
use Rattle.std.proofs.lemmas.List.Sorted.{ranks_by, sorted_far}
use Rattle.mj_model.specs.Dictionary.{IsInOrder, IsLexiconOf, lexeme_of, surface_of}
use Rattle.mj_model.specs.Lexicon.{Row}
use Rattle.mj_model.specs.Tables.{Lexeme}

-- ---- lists of one order

module _ {X : Type 0} where
  left_by : (P : X → Type 0) (x y : X) (left ys : List X) (b : Bool) → P x → (left ≡ y ∷ ys → P y) → cond b (x ∷ left) left ≡ y ∷ ys → P y
  left_by P x y left ys true here later is = subst P (ap (λ l. get_or l 0 y) is) here
  left_by P x y left ys false here later is = later is

  -- a fact about all elements holds for the first one that a test keeps
  first_left : (P : X → Type 0) (test : X → Bool) (xs : List X) (y : X) (ys : List X) → AllByRecursion P xs → filter test xs ≡ y ∷ ys → P y
  first_left P test [] y ys all is = absurd (cc)
  first_left P test (x ∷ xs) y ys all is = left_by P x y (filter test xs) ys (test x) all.0 (first_left P test xs y ys all.1) is

  -- the elements that a test keeps of lists with equal first elements
  without_first : (x : X) (xs ys : List X) (b : Bool) → cond b (x ∷ xs) xs ≡ cond b (x ∷ ys) ys → xs ≡ ys
  without_first x xs ys true is = ap (drop 1) is
  without_first x xs ys false is = is

  module _ (lt : X → X → Bool) (order : IsStrictWeakOrder lt) where
    not_below_itself : (x : X) (b : Bool) → lt x x ≡ b → lt x x ≡ false
    not_below_itself x true is = order.one_way x x is
    not_below_itself x false is = is

    tie : (x y : X) → lt x y ≡ false → lt y x ≡ false → ties lt x y ≡ true
    tie x y one other = λ i. not (one i) && not (other i)

    ties_itself : (x : X) → ties lt x x ≡ true
    ties_itself x = let none = not_below_itself x (lt x x) refl in tie x x none none

    kept : (x y : X) (ys : List X) → ties lt x y ≡ true → filter (ties lt x) (y ∷ ys) ≡ y ∷ filter (ties lt x) ys
    kept x y ys is = ap (λ b. cond b (y ∷ filter (ties lt x) ys) (filter (ties lt x) ys)) is

    sorted_rest : (x : X) (xs : List X) → IsSortedBy lt (x ∷ xs) → IsSortedBy lt xs
    sorted_rest x xs up = λ k d low less.
        let e : k + 1 + 1 ≡ suc (k + 1) = omega (arith) in
        let f : k + 1 ≡ suc k = omega (arith) in
        ap (λ n. lt (get_or xs (k + 1) d) (get_or (x ∷ xs) n d)) (sym f) ∙ ap (λ n. lt (get_or (x ∷ xs) n d) (get_or (x ∷ xs) (k + 1) d)) (sym e) ∙ up (k + 1) d (omega (arith)) (omega (arith, less))

    -- no element of a list in order is below the first one
    none_below : (y z : X) (zs ys : List X) → IsSortedBy lt (z ∷ zs) → filter (ties lt y) (z ∷ zs) ≡ y ∷ ys → lt y z ≡ false
    none_below y z zs ys up is =
        first_left (λ w. lt w z ≡ false) (ties lt y) (z ∷ zs) y ys
        (recursion_from_All (λ w. lt w z ≡ false) (z ∷ zs) (λ k d less. sorted_far lt order (z ∷ zs) up 0 k d (omega (arith)) less)) is

    abbrev AreInterchangeable : List X → List X → Type 0
    AreInterchangeable ys zs = (x : X) → filter (ties lt x) ys ≡ filter (ties lt x) zs

    same_first : (y z : X) (ys zs : List X) → IsSortedBy lt (y ∷ ys) → IsSortedBy lt (z ∷ zs) → AreInterchangeable (y ∷ ys) (z ∷ zs) → y ≡ z
    same_first y z ys zs up upward alike =
        let one = none_below y z zs (filter (ties lt y) ys) upward (sym (alike y) ∙ kept y y ys (ties_itself y)) in
        let other = none_below z y ys (filter (ties lt z) zs) up (alike z ∙ kept z z zs (ties_itself z)) in
        ap (λ l. get_or l 0 y) (sym (kept y y ys (ties_itself y)) ∙ alike y ∙ kept y z zs (tie y z one other))

    pub one_order : (ys zs : List X) → IsSortedBy lt ys → IsSortedBy lt zs → AreInterchangeable ys zs → ys ≡ zs
    one_order [] [] up upward alike = refl
    one_order [] (z ∷ zs) up upward alike = let none = alike z ∙ kept z z zs (ties_itself z) in absurd (cc)
    one_order (y ∷ ys) [] up upward alike = let none = sym (alike y) ∙ kept y y ys (ties_itself y) in absurd (cc)
    one_order (y ∷ ys) (z ∷ zs) up upward alike =
        let same = same_first y z ys zs up upward alike in
        let rest = one_order ys zs (sorted_rest y ys up) (sorted_rest z zs upward)
        (λ x. without_first y (filter (ties lt x) ys) (filter (ties lt x) zs) (ties lt x y)
        (alike x ∙ ap (λ w. cond (ties lt x w) (w ∷ filter (ties lt x) zs) (filter (ties lt x) zs)) (sym same))) in
        λ i. same i ∷ rest i

-- ---- rows

abbrev is_below : Row → Row → Bool
is_below row other = is_lt (slice_cmp nat_cmp (surface_of row) (surface_of other))

-- rows have one order
pub one_row_order : (rows first second : List Row) → IsInOrder rows first → IsInOrder rows second → first ≡ second
one_row_order rows first second one other =
    one_order is_below (ranks_by nat_list_cmp_total surface_of) first second one.by_surface other.by_surface
    (λ row. one.in_source_order row ∙ sym (other.in_source_order row))

-- rows have one lexicon
pub one_lexicon : (rows : List Row) (first second : List Lexeme) → IsLexiconOf rows first → IsLexiconOf rows second → first ≡ second
one_lexicon rows first second one other =
    one.2 ∙ ap (λ (ordered : List Row). map lexeme_of (enumerate_from 0 ordered)) (one_row_order rows one.0 other.0 one.1 other.1) ∙ sym other.2
