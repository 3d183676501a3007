-- A text is a quoted field and its end in exactly one way, since no doubled text starts as an end
-- does. So a line has exactly one first field.
use Rattle.std.proofs.Common.{◌≡◌, ℕ, Bool, cond, List, [], ◌∷◌, ◌++◌, Option, None, ◌⊎◌, inl, inr, refl, sym, ap, ◌∙◌, subst}
use Rattle.std.specs.List.{before_first}
use Rattle.std.proofs.lemmas.Bool.{eq-eqb, ne_eqb, cases_eq}
use Rattle.std.proofs.lemmas.List.{append-nil}
use Rattle.mj_model.specs.Bytes.{is_comma, quote}
use Rattle.mj_model.specs.Fields.{rest_of, with_doubled_quotes, StartsWithQuote, IsFieldOf}
use Rattle.mj_model.proofs.Basics.{same_head, same_tail}

-- the end of a quoted field: nothing, or a quote that no quote follows
Tail : List ℕ → Type 0
Tail t = (t ≡ []) ⊎ ((v : List ℕ) × (t ≡ quote ∷ v) × (StartsWithQuote v → ⊥))

pub doubled_quote : (c : ℕ) (cs : List ℕ) → c ≡ quote → with_doubled_quotes (c ∷ cs) ≡ quote ∷ quote ∷ with_doubled_quotes cs
doubled_quote c cs e = ap (λ (b : Bool). cond b (quote ∷ quote ∷ []) (c ∷ []) ++ with_doubled_quotes cs) (eq-eqb c quote e)

pub doubled_other : (c : ℕ) (cs : List ℕ) → (c ≡ quote → ⊥) → with_doubled_quotes (c ∷ cs) ≡ c ∷ with_doubled_quotes cs
doubled_other c cs e = ap (λ (b : Bool). cond b (quote ∷ quote ∷ []) (c ∷ []) ++ with_doubled_quotes cs) (ne_eqb c quote e)

begins : (d : ℕ) (ds v : List ℕ) → v ≡ d ∷ ds → d ≡ quote → StartsWithQuote v
begins d ds v e is = subst StartsWithQuote (sym e) is

-- a tail starts with neither a pair of quotes nor another character
tail_first : (t : List ℕ) (c : ℕ) (cs rest : List ℕ) → Tail t → t ≡ with_doubled_quotes (c ∷ cs) ++ rest → ⊥
unfolding Tail
tail_first t c cs rest (inl empty) h = elim (cases_eq c quote) [
  | inl q ↦ let e = ap (λ (xs : List ℕ). xs ++ rest) (doubled_quote c cs q) in cc
  | inr o ↦ let e = ap (λ (xs : List ℕ). xs ++ rest) (doubled_other c cs o) in cc
]
tail_first t c cs rest (inr (v, is, out)) h = elim (cases_eq c quote) [
  | inl q ↦
      let e : quote ∷ v ≡ quote ∷ quote ∷ (with_doubled_quotes cs ++ rest) = sym is ∙ h ∙ ap (λ (xs : List ℕ). xs ++ rest) (doubled_quote c cs q) in
      out (begins quote (with_doubled_quotes cs ++ rest) v (same_tail quote quote v (quote ∷ (with_doubled_quotes cs ++ rest)) e) refl)
  | inr o ↦
      let e : quote ∷ v ≡ c ∷ (with_doubled_quotes cs ++ rest) = sym is ∙ h ∙ ap (λ (xs : List ℕ). xs ++ rest) (doubled_other c cs o) in
      o (sym (same_head quote c v (with_doubled_quotes cs ++ rest) e))
]

-- a text is a doubled one and a tail in one way
one_way : (fs gs s t : List ℕ) → Tail s → Tail t → with_doubled_quotes fs ++ s ≡ with_doubled_quotes gs ++ t → (fs ≡ gs) × (s ≡ t)
one_way [] [] s t a b h = (refl, h)
one_way [] (g ∷ gs) s t a b h = absurd (tail_first s g gs t a h)
one_way (f ∷ fs) [] s t a b h = absurd (tail_first t f fs s b (sym h))
one_way (f ∷ fs) (g ∷ gs) s t a b h =
    let on = λ (r : List ℕ) (xs : List ℕ). xs ++ r in
    elim (cases_eq f quote) [
      | inl p ↦ elim (cases_eq g quote) [
        | inl q ↦
            let e : quote ∷ quote ∷ (with_doubled_quotes fs ++ s) ≡ quote ∷ quote ∷ (with_doubled_quotes gs ++ t) = sym (ap (on s) (doubled_quote f fs p)) ∙ h ∙ ap (on t) (doubled_quote g gs q) in
            let r = one_way fs gs s t a b (cc) in
            let same = p ∙ sym q in
            let more = r.0 in
            (cc, r.1)
        | inr o ↦
            let e : quote ∷ quote ∷ (with_doubled_quotes fs ++ s) ≡ g ∷ (with_doubled_quotes gs ++ t) = sym (ap (on s) (doubled_quote f fs p)) ∙ h ∙ ap (on t) (doubled_other g gs o) in
            absurd (o (sym (same_head quote g (quote ∷ (with_doubled_quotes fs ++ s)) (with_doubled_quotes gs ++ t) e)))
      ]
      | inr n ↦ elim (cases_eq g quote) [
        | inl q ↦
            let e : f ∷ (with_doubled_quotes fs ++ s) ≡ quote ∷ quote ∷ (with_doubled_quotes gs ++ t) = sym (ap (on s) (doubled_other f fs n)) ∙ h ∙ ap (on t) (doubled_quote g gs q) in
            absurd (n (same_head f quote (with_doubled_quotes fs ++ s) (quote ∷ (with_doubled_quotes gs ++ t)) e))
        | inr o ↦
            let e : f ∷ (with_doubled_quotes fs ++ s) ≡ g ∷ (with_doubled_quotes gs ++ t) = sym (ap (on s) (doubled_other f fs n)) ∙ h ∙ ap (on t) (doubled_other g gs o) in
            let r = one_way fs gs s t a b (cc) in
            let more = r.0 in
            (cc, r.1)
      ]
    ]

-- and each text is so
parted : (cs : List ℕ) → (fs : List ℕ) × (s : List ℕ) × Tail s × (cs ≡ with_doubled_quotes fs ++ s)
unfolding Tail
parted [] = ([], [], inl refl, refl)
parted (c ∷ []) = elim (cases_eq c quote) [
  | inl q ↦ ([], c ∷ [], inr ([], ap (λ (d : ℕ). d ∷ []) q, λ h. h), refl)
  | inr o ↦ (c ∷ [], [], inl refl, sym (ap (λ (xs : List ℕ). xs ++ []) (doubled_other c [] o)))
]
parted (c ∷ d ∷ cs) = elim (cases_eq c quote) [
  | inl q ↦ elim (cases_eq d quote) [
    | inl p ↦
        let r = parted cs in
        let e = ap (λ (xs : List ℕ). xs ++ r.1) (doubled_quote quote r.0 refl) in
        let f = r.3 in
        (quote ∷ r.0, r.1, r.2, cc)
    | inr o ↦ ([], c ∷ d ∷ cs, inr (d ∷ cs, ap (λ (x : ℕ). x ∷ d ∷ cs) q, o), refl)
  ]
  | inr n ↦
      let r = parted (d ∷ cs) in
      let e = ap (λ (xs : List ℕ). xs ++ r.1) (doubled_other c r.0 n) in
      let f = r.3 in
      (c ∷ r.0, r.1, r.2, cc)
]

-- ---- a line has one first field

-- the remainder after the end of a quoted field
remainder_after_quote : List ℕ → Option (List ℕ)
remainder_after_quote [] = None
remainder_after_quote (c ∷ v) = rest_of v

-- both forms of the first field of a text that starts with a quote: the doubled field and its end
-- follow the quote
record IsQuoted (u field : List ℕ) (rest : Option (List ℕ)) : Type 0 where
  tail : List ℕ
  is_tail : Tail tail
  spelled : u ≡ quote ∷ (with_doubled_quotes field ++ tail)
  rest_is : rest ≡ remainder_after_quote tail

quoted : (u field : List ℕ) (rest : Option (List ℕ)) → IsFieldOf u field rest → ((StartsWithQuote u → ⊥) × (field ≡ before_first is_comma u) × (rest ≡ rest_of u)) ⊎ IsQuoted u field rest
unfolding Tail remainder_after_quote
quoted u field rest (inl plain) = inl plain
quoted u field rest (inr (inl (v, is, out, r))) = inr (record { tail = quote ∷ v; is_tail = inr (v, refl, out); spelled = is; rest_is = r })
quoted u field rest (inr (inr (is, r))) = inr (record { tail = []; is_tail = inl refl; spelled = is ∙ ap (λ (xs : List ℕ). quote ∷ xs) (sym (append-nil (with_doubled_quotes field))); rest_is = r })

begins_quoted : (u field : List ℕ) (rest : Option (List ℕ)) → IsQuoted u field rest → StartsWithQuote u
begins_quoted u field rest q = subst StartsWithQuote (sym q.spelled) refl

pub one_field : (u f g : List ℕ) (r s : Option (List ℕ)) → IsFieldOf u f r → IsFieldOf u g s → (f ≡ g) × (r ≡ s)
one_field u f g r s a b = elim (quoted u f r a) [
  | inl p ↦ elim (quoted u g s b) [
    | inl q ↦ (p.1 ∙ sym q.1, p.2 ∙ sym q.2)
    | inr q ↦ absurd (p.0 (begins_quoted u g s q))
  ]
  | inr p ↦ elim (quoted u g s b) [
    | inl q ↦ absurd (q.0 (begins_quoted u f r p))
    | inr q ↦
        let e : with_doubled_quotes f ++ p.tail ≡ with_doubled_quotes g ++ q.tail = same_tail quote quote (with_doubled_quotes f ++ p.tail) (with_doubled_quotes g ++ q.tail) (sym p.spelled ∙ q.spelled) in
        let w = one_way f g p.tail q.tail p.is_tail q.is_tail e in
        (w.0, p.rest_is ∙ ap remainder_after_quote w.1 ∙ sym q.rest_is)
  ]
]

with_tail : (cs fs s : List ℕ) → Tail s → cs ≡ with_doubled_quotes fs ++ s → (field : List ℕ) × (rest : Option (List ℕ)) × IsFieldOf (quote ∷ cs) field rest
unfolding Tail
with_tail cs fs s (inl empty) is = (fs, None, inr (inr (ap (λ (xs : List ℕ). quote ∷ xs) (is ∙ ap (λ (xs : List ℕ). with_doubled_quotes fs ++ xs) empty ∙ append-nil (with_doubled_quotes fs)), refl)))
with_tail cs fs s (inr (v, e, out)) is = (fs, rest_of v, inr (inl (v, ap (λ (xs : List ℕ). quote ∷ xs) (is ∙ ap (λ (xs : List ℕ). with_doubled_quotes fs ++ xs) e), out, refl)))

pub a_field : (u : List ℕ) → (field : List ℕ) × (rest : Option (List ℕ)) × IsFieldOf u field rest
a_field [] = (before_first is_comma [], rest_of [], inl (λ h. h, refl, refl))
a_field (c ∷ cs) = elim (cases_eq c quote) [
  | inl q ↦
      let p = parted cs in
      subst (λ (d : ℕ). (field : List ℕ) × (rest : Option (List ℕ)) × IsFieldOf (d ∷ cs) field rest) (sym q) (with_tail cs p.0 p.1 p.2 p.3)
  | inr o ↦ (before_first is_comma (c ∷ cs), rest_of (c ∷ cs), inl (o, refl, refl))
]
