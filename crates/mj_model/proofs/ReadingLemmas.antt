-- A lexicon's bytes have exactly one reading. Each line has exactly one first field and remainder,
-- and so has each remainder, so that each line has exactly one outcome.
use Rattle.std.proofs.Common.{◌≡◌, ℕ, ◌≤◌, false, List, [], ◌∷◌, length, refl, sym, ap, ◌∙◌, subst, arith, inl, inr}
use Rattle.std.specs.Prelude.{Option, Some, None, Result, IsUtf8}
use Rattle.std.specs.Str.{is_utf8}
use Rattle.std.proofs.lemmas.Bool.{cases_Bool}
use Rattle.std.proofs.lemmas.Str.{is_utf8-from_IsUtf8, IsUtf8-from_is_utf8}
use Rattle.mj_model.specs.declared.source_fault.SourceFault.{SourceFault}
use Rattle.mj_model.specs.declared.source_fault.SourceKind.TheVariants.{NotUtf8, TooFewFields}
use Rattle.mj_model.specs.Fields.{without_leading_blanks, IsFirstField, AreFields, AreFirstFields}
use Rattle.mj_model.specs.Lexicon.{Parts, Outcome, Blank, Rejected, IsOutcome, AreOutcomes, first_rejected, Reading, reading_unless, ReadsAs}
use Rattle.mj_model.specs.Lines.{numbered_lines, is_blank_line}
use Rattle.mj_model.proofs.FieldLemmas.{a_field, one_field}

-- ---- the parts of a line

one_first : (line f g : List ℕ) (r s : Option (List ℕ)) → IsFirstField line f r → IsFirstField line g s → (f ≡ g) × (r ≡ s)
one_first line f g r s h k = one_field (without_leading_blanks line) f g r s h k

some_rest : (line f g next other : List ℕ) → IsFirstField line f (Some next) → IsFirstField line g (Some other) → (f ≡ g) × (next ≡ other)
some_rest line f g next other h k = let p = one_first line f g (Some next) (Some other) h k in (p.0, (let e = p.1 in cc))

no_rest : (line f g next : List ℕ) → IsFirstField line f None → IsFirstField line g (Some next) → ⊥
no_rest line f g next h k = let e = (one_first line f g None (Some next) h k).1 in cc

-- as many first fields are the same, and so is what follows them
one_prefix : (line : List ℕ) (fs gs : List (List ℕ)) (rest other : List ℕ) → length fs ≡ length gs → AreFirstFields line fs rest → AreFirstFields line gs other → (fs ≡ gs) × (rest ≡ other)
one_prefix line [] [] rest other e h k = (refl, h ∙ sym k)
one_prefix line [] (g ∷ gs) rest other e h k = absurd (omega (arith, e))
one_prefix line (f ∷ fs) [] rest other e h k = absurd (omega (arith, e))
one_prefix line (f ∷ fs) (g ∷ gs) rest other e h k =
    let p = some_rest line f g h.0 k.0 h.1 k.1 in
    let q = one_prefix k.0 fs gs rest other (omega (arith, e)) (subst (λ n. AreFirstFields n fs rest) p.1 h.2) k.2 in
    (ap (λ x. x ∷ fs) p.0 ∙ ap (λ xs. g ∷ xs) q.0, q.1)

-- a line with as many first fields and a remainder has more fields than that
more_fields : (line : List ℕ) (fields fs : List (List ℕ)) (rest : List ℕ) → AreFields line fields → AreFirstFields line fs rest → length fields ≤ length fs → ⊥
more_fields line [] fs rest are front few = are
more_fields line (field ∷ []) [] rest are front few = omega (arith, few)
more_fields line (field ∷ []) (f ∷ fs) rest are front few = no_rest line field f front.0 are front.1
more_fields line (field ∷ next ∷ more) [] rest are front few = omega (arith, few)
more_fields line (field ∷ next ∷ more) (f ∷ fs) rest are front few =
    let p = some_rest line field f are.0 front.0 are.1 front.1 in
    more_fields front.0 (next ∷ more) fs rest (subst (λ n. AreFields n (next ∷ more)) p.1 are.2) front.2 (omega (arith, few))

-- all fields of a line are the same
pub fields_are_one : (line : List ℕ) (fs gs : List (List ℕ)) → AreFields line fs → AreFields line gs → gs ≡ fs
fields_are_one line [] gs h k = absurd h
fields_are_one line (f ∷ fs) [] h k = absurd k
fields_are_one line (f ∷ []) (g ∷ []) h k = ap (λ (x : List ℕ). x ∷ []) (one_first line g f None None k h).0
fields_are_one line (f ∷ []) (g ∷ next ∷ more) h k = absurd (no_rest line f g k.0 h k.1)
fields_are_one line (f ∷ next ∷ more) (g ∷ []) h k = absurd (no_rest line g f h.0 k h.1)
fields_are_one line (f ∷ next ∷ more) (g ∷ other ∷ others) h k =
    let p = some_rest line f g h.0 k.0 h.1 k.1 in
    let q = fields_are_one h.0 (next ∷ more) (other ∷ others) h.2 (subst (λ n. AreFields n (other ∷ others)) (sym p.1) k.2) in
    λ i. sym p.0 i ∷ q i

-- ---- the outcome of a line

abbrev four : Parts → List (List ℕ)
four parts = parts.surface ∷ parts.left ∷ parts.right ∷ parts.cost ∷ []

abbrev head_or : List (List ℕ) → List ℕ
head_or [] = []
head_or (x ∷ xs) = x

abbrev tail_or : List (List ℕ) → List (List ℕ)
tail_or [] = []
tail_or (x ∷ xs) = xs

same_parts : (p q : Parts) → (four p ≡ four q) × (p.feature ≡ q.feature) → p ≡ q
same_parts p q h = λ i. record {
  surface = ap head_or h.0 i;
  left = ap (λ xs. head_or (tail_or xs)) h.0 i;
  right = ap (λ xs. head_or (tail_or (tail_or xs))) h.0 i;
  cost = ap (λ xs. head_or (tail_or (tail_or (tail_or xs)))) h.0 i;
  feature = h.1 i;
}

module _ (outcome_from : ℕ → Parts → Outcome) where
  one_outcome : (number : ℕ) (line : List ℕ) (o p : Outcome) → IsOutcome outcome_from number line o → IsOutcome outcome_from number line p → o ≡ p
  one_outcome number line o p (IsOutcome.is_blank b) (IsOutcome.is_blank c) = refl
  one_outcome number line o p (IsOutcome.is_blank b) (IsOutcome.not_text c n) = absurd (cc)
  one_outcome number line o p (IsOutcome.is_blank b) (IsOutcome.too_few c u fields a few) = absurd (cc)
  one_outcome number line o p (IsOutcome.is_blank b) (IsOutcome.has_parts c u parts a) = absurd (cc)
  one_outcome number line o p (IsOutcome.not_text b n) (IsOutcome.is_blank c) = absurd (cc)
  one_outcome number line o p (IsOutcome.not_text b n) (IsOutcome.not_text c m) = refl
  one_outcome number line o p (IsOutcome.not_text b n) (IsOutcome.too_few c u fields a few) = absurd (n u)
  one_outcome number line o p (IsOutcome.not_text b n) (IsOutcome.has_parts c u parts a) = absurd (n u)
  one_outcome number line o p (IsOutcome.too_few b u fields a few) (IsOutcome.is_blank c) = absurd (cc)
  one_outcome number line o p (IsOutcome.too_few b u fields a few) (IsOutcome.not_text c n) = absurd (n u)
  one_outcome number line o p (IsOutcome.too_few b u fields a few) (IsOutcome.too_few c v others k less) = refl
  one_outcome number line o p (IsOutcome.too_few b u fields a few) (IsOutcome.has_parts c v parts k) = absurd (more_fields line fields (four parts) parts.feature a k few)
  one_outcome number line o p (IsOutcome.has_parts b u parts a) (IsOutcome.is_blank c) = absurd (cc)
  one_outcome number line o p (IsOutcome.has_parts b u parts a) (IsOutcome.not_text c n) = absurd (n u)
  one_outcome number line o p (IsOutcome.has_parts b u parts a) (IsOutcome.too_few c v fields k few) = absurd (more_fields line fields (four parts) parts.feature k a few)
  one_outcome number line o p (IsOutcome.has_parts b u parts a) (IsOutcome.has_parts c v others k) =
      ap (outcome_from number) (same_parts parts others (one_prefix line (four parts) (four others) parts.feature others.feature refl a k))

  outcomes_are_one : (lines : List (ℕ × List ℕ)) (os ps : List Outcome) → AreOutcomes outcome_from lines os → AreOutcomes outcome_from lines ps → os ≡ ps
  outcomes_are_one [] [] [] h k = refl
  outcomes_are_one [] [] (p ∷ ps) h k = absurd k
  outcomes_are_one [] (o ∷ os) ps h k = absurd h
  outcomes_are_one (line ∷ lines) [] ps h k = absurd h
  outcomes_are_one (line ∷ lines) (o ∷ os) [] h k = absurd k
  outcomes_are_one (line ∷ lines) (o ∷ os) (p ∷ ps) h k =
      ap (λ x. x ∷ os) (one_outcome line.0 line.1 o p h.0 k.0) ∙ ap (λ xs. p ∷ xs) (outcomes_are_one lines os ps h.1 k.1)

  pub readings_are_one : (file held : ℕ) (bytes : List ℕ) (reading other : Result Reading SourceFault) → ReadsAs outcome_from file held bytes reading → ReadsAs outcome_from file held bytes other → other ≡ reading
  readings_are_one file held bytes reading other h k =
      let same = outcomes_are_one (numbered_lines bytes) h.0 k.0 h.1 k.1 in
      k.2 ∙ sym (ap (λ os. reading_unless (first_rejected file 1 held os) os) same) ∙ sym h.2

  -- ---- each line has an outcome

  with_four : (number : ℕ) (line a b c d : List ℕ) (next after third : List ℕ) (rest : Option (List ℕ)) → is_blank_line line ≡ false → IsUtf8 line
      → IsFirstField line a (Some next) → IsFirstField next b (Some after) → IsFirstField after c (Some third) → IsFirstField third d rest → (o : Outcome) × IsOutcome outcome_from number line o
  with_four number line a b c d next after third None some utf8 h k l m =
      (Rejected TooFewFields, IsOutcome.too_few some utf8 (a ∷ b ∷ c ∷ d ∷ []) (next, h, (after, k, (third, l, m))) (omega arith))
  with_four number line a b c d next after third (Some feature) some utf8 h k l m =
      let parts : Parts = record { surface = a; left = b; right = c; cost = d; feature = feature } in
      (outcome_from number parts, IsOutcome.has_parts some utf8 parts (next, h, (after, k, (third, l, (feature, m, refl)))))

  with_three : (number : ℕ) (line a b c : List ℕ) (next after : List ℕ) (rest : Option (List ℕ)) → is_blank_line line ≡ false → IsUtf8 line
      → IsFirstField line a (Some next) → IsFirstField next b (Some after) → IsFirstField after c rest → (o : Outcome) × IsOutcome outcome_from number line o
  with_three number line a b c next after None some utf8 h k l = (Rejected TooFewFields, IsOutcome.too_few some utf8 (a ∷ b ∷ c ∷ []) (next, h, (after, k, l)) (omega arith))
  with_three number line a b c next after (Some third) some utf8 h k l =
      let d = a_field (without_leading_blanks third) in with_four number line a b c d.0 next after third d.1 some utf8 h k l d.2

  with_two : (number : ℕ) (line a b : List ℕ) (next : List ℕ) (rest : Option (List ℕ)) → is_blank_line line ≡ false → IsUtf8 line
      → IsFirstField line a (Some next) → IsFirstField next b rest → (o : Outcome) × IsOutcome outcome_from number line o
  with_two number line a b next None some utf8 h k = (Rejected TooFewFields, IsOutcome.too_few some utf8 (a ∷ b ∷ []) (next, h, k) (omega arith))
  with_two number line a b next (Some after) some utf8 h k =
      let c = a_field (without_leading_blanks after) in with_three number line a b c.0 next after c.1 some utf8 h k c.2

  with_one : (number : ℕ) (line a : List ℕ) (rest : Option (List ℕ)) → is_blank_line line ≡ false → IsUtf8 line → IsFirstField line a rest → (o : Outcome) × IsOutcome outcome_from number line o
  with_one number line a None some utf8 h = (Rejected TooFewFields, IsOutcome.too_few some utf8 (a ∷ []) h (omega arith))
  with_one number line a (Some next) some utf8 h = let b = a_field (without_leading_blanks next) in with_two number line a b.0 next b.1 some utf8 h b.2

  an_outcome : (number : ℕ) (line : List ℕ) → (o : Outcome) × IsOutcome outcome_from number line o
  an_outcome number line = elim (cases_Bool (is_blank_line line)) [
    | inl blank ↦ (Blank, IsOutcome.is_blank blank)
    | inr some ↦ elim (cases_Bool (is_utf8 line)) [
      | inl text ↦ let a = a_field (without_leading_blanks line) in with_one number line a.0 a.1 some (IsUtf8-from_is_utf8 line text) a.2
      | inr no_text ↦ (Rejected NotUtf8, IsOutcome.not_text some (λ utf8. let e = is_utf8-from_IsUtf8 line utf8 in cc))
    ]
  ]

  some_outcomes : (lines : List (ℕ × List ℕ)) → (os : List Outcome) × AreOutcomes outcome_from lines os
  some_outcomes [] = ([], tt)
  some_outcomes (line ∷ lines) = let o = an_outcome line.0 line.1 in let more = some_outcomes lines in (o.0 ∷ more.0, (o.1, more.1))

  pub a_reading : (file held : ℕ) (bytes : List ℕ) → (reading : Result Reading SourceFault) × ReadsAs outcome_from file held bytes reading
  a_reading file held bytes = let os = some_outcomes (numbered_lines bytes) in (reading_unless (first_rejected file 1 held os.0) os.0, (os.0, os.1, refl))
