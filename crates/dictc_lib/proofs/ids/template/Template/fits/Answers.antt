use Rattle.std.proofs.Common.{◌≡◌, ℕ, ◌<◌, List, length, map, Some, refl, sym, ap, ◌∙◌, subst, arith, inl, inr, string_bytes}
use Rattle.std.proofs.lemmas.Bool.{cases_lt, false≢true, iff_false}
use Rattle.std.proofs.lemmas.List.{length-map}
use Rattle.std.proofs.lemmas.Option.{slice_get_within}
use Rattle.std.specs.Prelude.{slice_get}
use Rattle.dictc_lib.specs.Templates.{FitsField, fields_of}
use Rattle.dictc_lib.proofs.TemplateLemmas.{template_at}
use Rattle.dictc_lib.proofs.ids.template.Template.fits.Goals as goal

pub returns-then-not-branch : goal.returns-then-not-branch
returns-then-not-branch c =
    let n : ℕ = c.loop-n.n in
    let here : slice_get (fields_of c.args.self.now) n ≡ Some (string_bytes c.wanted-item.result) =
    ap (λ xs. slice_get (map string_bytes xs) n) (sym c.deref-wanted-items.ensures.value)
    ∙ template_at c.deref-wanted-items.result.now n c.wanted-item.result c.loop-n-test.true c.wanted-item.is in (
      λ no. absurd (false≢true no),
      λ fits. absurd (iff_false c.in_ok-fits_field.ensures c.if-not-branch.true
          (subst (λ (w : List ℕ). FitsField n w c.args.feature.now) (sym c.as_str.ensures.value) (fits n (string_bytes c.wanted-item.result) here))),
    )

pub loop-n-preserved : goal.loop-n-preserved
loop-n-preserved c = λ k wanted low is.
    let n : ℕ = c.loop-n.n in
    let here : slice_get (fields_of c.args.self.now) n ≡ Some (string_bytes c.wanted-item.result) =
    ap (λ xs. slice_get (map string_bytes xs) n) (sym c.deref-wanted-items.ensures.value)
    ∙ template_at c.deref-wanted-items.result.now n c.wanted-item.result c.loop-n-test.true c.wanted-item.is in
    elim (cases_lt k n) [
      | inl less ↦ c.loop-n.invariant k wanted less is
      | inr past ↦
          let e : n ≡ k = omega (arith, low, past) in
          let both : Some (string_bytes c.wanted-item.result) ≡ Some wanted = sym here ∙ ap (slice_get (fields_of c.args.self.now)) e ∙ is in
          let same : string_bytes c.wanted-item.result ≡ wanted = cc in
          subst (λ (m : ℕ). FitsField m wanted c.args.feature.now) e
          (subst (λ (w : List ℕ). FitsField n w c.args.feature.now) (c.as_str.ensures.value ∙ same) (c.in_ok-fits_field.ensures.0 c.if-not-branch.false))
    ]

pub returns : goal.returns
returns c = (
  λ yes n wanted is.
      let within : n < length (fields_of c.args.self.now) = slice_get_within (fields_of c.args.self.now) n wanted is in
      let many : length (fields_of c.args.self.now) ≡ length c.args.self.now.fields.items = length-map c.args.self.now.fields.items string_bytes in
      let same : length c.deref-wanted-items.result.now ≡ length c.args.self.now.fields.items = ap length c.deref-wanted-items.ensures.value in
      let less : n < c.loop-n.n = omega (arith, within, many, same, c.loop-n-test.false) in
      c.loop-n.invariant n wanted less is,
  λ fits. refl,
)
