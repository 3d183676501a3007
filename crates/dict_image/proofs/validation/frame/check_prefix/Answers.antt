use Rattle.std.proofs.Common.{inl, inr, ap, subst, sym}
use Rattle.mj_model.specs.declared.image_fault.ImageFault.TheVariants.{BadLayout}
use Rattle.image_format.specs.declared.header.Header.{Header}
use Rattle.image_format.specs.Layouts.{IsReadLayout}
use Rattle.dict_image.proofs.ValueLemmas.{not_both}
use Rattle.dict_image.proofs.validation.frame.check_prefix.Goals as goal

pub returns-then-not-is_read : goal.returns-then-not-is_read
returns-then-not-is_read c =
    let layout = ap (λ (h : Header). h.layout) c.read_header-header.ensures in
    inr (c.if-bytes-lt-HEADER_LENGTH.false, inr (c.has_magic.ensures.0 c.if-not-has_magic.false, inl ((λ read. not_both c.is_read.result (c.is_read.ensures.1 (subst IsReadLayout (sym layout) read)) c.if-not-is_read.true), ap BadLayout layout)))

pub returns : goal.returns
returns c =
    let layout = ap (λ (h : Header). h.layout) c.read_header-header.ensures in
    ((c.if-bytes-lt-HEADER_LENGTH.false, (c.has_magic.ensures.0 c.if-not-has_magic.false, (subst IsReadLayout layout (c.is_read.ensures.0 c.if-not-is_read.false), tt))), c.read_header-header.ensures)
