use Rattle.std.proofs.Common.{ℕ, ◌++◌, ap, refl, sym, inl, inr, ◌∙◌, subst, arith}
use Rattle.std.proofs.lemmas.List.{length-append}
use Rattle.mj_model.specs.declared.image_fault.ImageFault.TheVariants.{BadLayout}
use Rattle.image_format.specs.declared.header.Header.{Header}
use Rattle.image_format.specs.ImageBytes.{total_length}
use Rattle.image_format.specs.Layouts.{IsReadLayout}
use Rattle.programs.specs.ImageHeads.{IsFaultOf, IsHead}
use Rattle.programs.proofs.ImageHeadLemmas.{has_length, head_kept, no_layout, no_magic, not_both, too_few, too_many}
use Rattle.programs.proofs.image_head.check_head.Goals as goal

pub returns-then-not-has_magic-clause-rejected : goal.returns-then-not-has_magic-clause-rejected
returns-then-not-has_magic-clause-rejected c =
    λ rest fits. no_magic c.args.first.now rest c.requires (λ magic. not_both c.has_magic.result (c.has_magic.ensures.1 magic) c.if-not-has_magic.true)

pub returns-then-not-is_read-clause-rejected : goal.returns-then-not-is_read-clause-rejected
returns-then-not-is_read-clause-rejected c =
    let first = c.args.first.now in
    let magic = c.has_magic.ensures.0 c.if-not-has_magic.false in
    let layout = ap (λ (h : Header). h.layout) c.read_header-header.ensures in
    λ rest fits. subst (λ (n : ℕ). IsFaultOf (first ++ rest) (BadLayout n)) (sym layout)
    (no_layout first rest c.requires magic (λ read. not_both c.is_read.result (c.is_read.ensures.1 (subst IsReadLayout (sym layout) read)) c.if-not-is_read.true))

pub returns-in_default-clause-rejected : goal.returns-in_default-clause-rejected
returns-in_default-clause-rejected c =
    let first = c.args.first.now in
    let magic = c.has_magic.ensures.0 c.if-not-has_magic.false in
    let layout = subst IsReadLayout (ap (λ (h : Header). h.layout) c.read_header-header.ensures) (c.is_read.ensures.0 c.if-not-is_read.false) in
    let total = ap total_length c.read_header-header.ensures in
    let far = c.in_default.ensures in
    λ rest fits. let few = fits.few in too_few first rest c.requires magic layout (omega (arith, few, far, total))

pub returns-then-reported-first-clause-rejected : goal.returns-then-reported-first-clause-rejected
returns-then-reported-first-clause-rejected c =
    let first = c.args.first.now in
    let magic = c.has_magic.ensures.0 c.if-not-has_magic.false in
    let layout = subst IsReadLayout (ap (λ (h : Header). h.layout) c.read_header-header.ensures) (c.is_read.ensures.0 c.if-not-is_read.false) in
    let total = c.in-Some.ensures ∙ ap total_length c.read_header-header.ensures in
    let less = c.if-reported-first.true in
    λ rest fits. let n = length-append first rest in too_many first rest c.requires magic layout (omega (arith, n, total, less))

pub returns-in-Some-known-clause-rejected : goal.returns-in-Some-known-clause-rejected
returns-in-Some-known-clause-rejected c =
    let first = c.args.first.now in
    let magic = c.has_magic.ensures.0 c.if-not-has_magic.false in
    let layout = subst IsReadLayout (ap (λ (h : Header). h.layout) c.read_header-header.ensures) (c.is_read.ensures.0 c.if-not-is_read.false) in
    let total = c.in-Some.ensures ∙ ap total_length c.read_header-header.ensures in
    let less = c.if-length-reported.true in
    λ rest fits. let n = has_length (first ++ rest) c.args.known _ c.in-Some-known.is fits in too_few first rest c.requires magic layout (omega (arith, n, total, less))

pub returns-in-Some-2-clause-rejected : goal.returns-in-Some-2-clause-rejected
returns-in-Some-2-clause-rejected c =
    let first = c.args.first.now in
    let magic = c.has_magic.ensures.0 c.if-not-has_magic.false in
    let layout = subst IsReadLayout (ap (λ (h : Header). h.layout) c.read_header-header.ensures) (c.is_read.ensures.0 c.if-not-is_read.false) in
    let total = c.in-Some.ensures ∙ ap total_length c.read_header-header.ensures in
    let less = c.if-reported-length.true in
    λ rest fits. let n = has_length (first ++ rest) c.args.known _ c.in-Some-2.is fits in too_many first rest c.requires magic layout (omega (arith, n, total, less))

pub returns-in_default-known-clause-header : goal.returns-in_default-known-clause-header
returns-in_default-known-clause-header c = record {
  long = c.requires;
  magic = c.has_magic.ensures.0 c.if-not-has_magic.false;
  layout = subst IsReadLayout (ap (λ (h : Header). h.layout) c.read_header-header.ensures) (c.is_read.ensures.0 c.if-not-is_read.false);
  reported_is = c.in-Some.ensures ∙ ap total_length c.read_header-header.ensures;
}

pub returns-in_default-known-2-clause-header : goal.returns-in_default-known-2-clause-header
returns-in_default-known-2-clause-header c = record {
  long = c.requires;
  magic = c.has_magic.ensures.0 c.if-not-has_magic.false;
  layout = subst IsReadLayout (ap (λ (h : Header). h.layout) c.read_header-header.ensures) (c.is_read.ensures.0 c.if-not-is_read.false);
  reported_is = c.in-Some.ensures ∙ ap total_length c.read_header-header.ensures;
}

pub returns-then-not-has_magic-clause-checked : goal.returns-then-not-has_magic-clause-checked
returns-then-not-has_magic-clause-checked c =
    λ rest few. inl (no_magic c.args.first.now rest c.requires (λ magic. not_both c.has_magic.result (c.has_magic.ensures.1 magic) c.if-not-has_magic.true))

pub returns-then-not-is_read-clause-checked : goal.returns-then-not-is_read-clause-checked
returns-then-not-is_read-clause-checked c =
    let first = c.args.first.now in
    let magic = c.has_magic.ensures.0 c.if-not-has_magic.false in
    let layout = ap (λ (h : Header). h.layout) c.read_header-header.ensures in
    λ rest few. inl (subst (λ (n : ℕ). IsFaultOf (first ++ rest) (BadLayout n)) (sym layout)
    (no_layout first rest c.requires magic (λ read. not_both c.is_read.result (c.is_read.ensures.1 (subst IsReadLayout (sym layout) read)) c.if-not-is_read.true)))

pub returns-in_default-clause-checked : goal.returns-in_default-clause-checked
returns-in_default-clause-checked c =
    let first = c.args.first.now in
    let magic = c.has_magic.ensures.0 c.if-not-has_magic.false in
    let layout = subst IsReadLayout (ap (λ (h : Header). h.layout) c.read_header-header.ensures) (c.is_read.ensures.0 c.if-not-is_read.false) in
    let total = ap total_length c.read_header-header.ensures in
    let far = c.in_default.ensures in
    λ rest few. inl (too_few first rest c.requires magic layout (omega (arith, few, far, total)))

pub returns-then-reported-first-clause-checked : goal.returns-then-reported-first-clause-checked
returns-then-reported-first-clause-checked c =
    let first = c.args.first.now in
    let magic = c.has_magic.ensures.0 c.if-not-has_magic.false in
    let layout = subst IsReadLayout (ap (λ (h : Header). h.layout) c.read_header-header.ensures) (c.is_read.ensures.0 c.if-not-is_read.false) in
    let total = c.in-Some.ensures ∙ ap total_length c.read_header-header.ensures in
    let less = c.if-reported-first.true in
    λ rest few. let n = length-append first rest in inl (too_many first rest c.requires magic layout (omega (arith, n, total, less)))

pub returns-in-Some-known-clause-checked : goal.returns-in-Some-known-clause-checked
returns-in-Some-known-clause-checked c =
    let first = c.args.first.now in
    let reported = c.in-Some.reported in
    let head : IsHead first reported = record {
      long = c.requires;
      magic = c.has_magic.ensures.0 c.if-not-has_magic.false;
      layout = subst IsReadLayout (ap (λ (h : Header). h.layout) c.read_header-header.ensures) (c.is_read.ensures.0 c.if-not-is_read.false);
      reported_is = c.in-Some.ensures ∙ ap total_length c.read_header-header.ensures;
    } in
    λ rest few. inr (c.in-Some-known.length, c.in-Some-known.is, (reported, head_kept first rest c.requires reported head, inl (refl, c.if-length-reported.true)))

pub returns-in-Some-2-clause-checked : goal.returns-in-Some-2-clause-checked
returns-in-Some-2-clause-checked c =
    let first = c.args.first.now in
    let reported = c.in-Some.reported in
    let head : IsHead first reported = record {
      long = c.requires;
      magic = c.has_magic.ensures.0 c.if-not-has_magic.false;
      layout = subst IsReadLayout (ap (λ (h : Header). h.layout) c.read_header-header.ensures) (c.is_read.ensures.0 c.if-not-is_read.false);
      reported_is = c.in-Some.ensures ∙ ap total_length c.read_header-header.ensures;
    } in
    λ rest few. inr (c.in-Some-2.length, c.in-Some-2.is, (reported, head_kept first rest c.requires reported head, inr (refl, c.if-reported-length.true)))
