use Rattle.std.proofs.Common.{List, [], ℕ, subst, sym, ◌∙◌}
use Rattle.std.proofs.lemmas.Bool.{both_ways, iff_false}
use Rattle.std.proofs.lemmas.Slice.Eq.{bytes_eq-Decides}
use Rattle.lex_source.specs.Results.{GrowsByField}
use Rattle.dictc_lib.specs.Templates.{IsAny}
use Rattle.dictc_lib.proofs.TemplateLemmas.{fits_if, same_if, there_if}
use Rattle.dictc_lib.proofs.ids.template.fits_field.Goals as goal

pub returns-then-is_there : goal.returns-then-is_there
returns-then-is_there c =
    let out : List ℕ = c.append_field.new.out.items in
    let wanted : List ℕ = c.args.wanted.now in
    let grows : GrowsByField c.args.feature.now c.args.n c.in_ok-is_there.is_there [] out =
    subst (λ (xs : List ℕ). GrowsByField c.args.feature.now c.args.n c.in_ok-is_there.is_there xs out) c.clear.ensures.items c.in_ok-is_there.ensures.appended in
    let no_any : IsAny wanted → ⊥ = iff_false c.is_any.ensures c.if-is_any.false in
    let decides = bytes_eq-Decides c.as_slice.result.now c.as_bytes.result.now in (
      λ eq. fits_if c.args.n wanted c.args.feature.now out c.in_ok-is_there.is_there no_any grows c.if-is_there.true
          (sym c.as_slice.ensures.value ∙ decides.0 (sym c.eq.ensures ∙ eq) ∙ c.as_bytes.ensures.value),
      λ fits. c.eq.ensures ∙ decides.1
          (c.as_slice.ensures.value ∙ same_if c.args.n wanted c.args.feature.now out c.in_ok-is_there.is_there no_any grows c.if-is_there.true fits ∙ sym c.as_bytes.ensures.value),
    )

pub returns-else-is_there : goal.returns-else-is_there
returns-else-is_there c =
    let out : List ℕ = c.append_field.new.out.items in
    let wanted : List ℕ = c.args.wanted.now in
    let grows : GrowsByField c.args.feature.now c.args.n c.in_ok-is_there.is_there [] out =
    subst (λ (xs : List ℕ). GrowsByField c.args.feature.now c.args.n c.in_ok-is_there.is_there xs out) c.clear.ensures.items c.in_ok-is_there.ensures.appended in
    let no_any : IsAny wanted → ⊥ = iff_false c.is_any.ensures c.if-is_any.false in (
      λ yes. absurd (both_ways c.in_ok-is_there.is_there c.if-is_there.false yes),
      λ fits. there_if c.args.n wanted c.args.feature.now out c.in_ok-is_there.is_there no_any grows fits,
    )
