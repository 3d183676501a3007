use Rattle.std.proofs.Common.{inl, inr, subst}
use Rattle.std.proofs.lemmas.Result.{err_from_is_err_and}
use Rattle.image_format.specs.declared.header.Header.{Header}
use Rattle.image_format.specs.ImageBytes.{section}
use Rattle.image_format.specs.Layouts.{key_form}
use Rattle.dict_image.specs.Validation.KeyPlaces.{AreKeysOf}
use Rattle.dict_image.proofs.OutlineLemmas.{from_accepted}
use Rattle.dict_image.proofs.NoMemoryLemmas.{prefix_takes_none, ends_take_none}
use Rattle.dict_image.proofs.StageLemmas.{end_reported, section_reported, all_pass}
use Rattle.dict_image.specs.Validation.BeforeMemory.{PassToSystem}
use Rattle.dict_image.proofs.validation.check.check_image.Goals as goal

pub returns-in_err-ends-clause-rejected : goal.returns-in_err-ends-clause-rejected
returns-in_err-ends-clause-rejected c =
    let p = err_from_is_err_and c.from_residual-in_err-ends.result c.from_residual-in_err-ends.ensures.1 in
    rw (p.1, p.2) (inr (end_reported c.args.digest c.args.bytes.now c.in_err-ends.field-0.0 c.in_ok-header.ensures.0 c.in_err-ends.ensures))

pub returns-in_err-keys-clause-rejected : goal.returns-in_err-keys-clause-rejected
returns-in_err-keys-clause-rejected c =
    let p = err_from_is_err_and c.from_residual-in_err-keys.result c.from_residual-in_err-keys.ensures.1 in
    let front = c.in_ok-header.ensures in
    let fault = c.in_err-keys.field-0.0 in
    rw (p.1, p.2) (elim c.in_err-keys.ensures.outcome [
      | inl memory ↦ inl memory
      | inr first ↦ inr (section_reported c.args.digest c.args.bytes.now c.in_ok-header.header fault front.1 front.0 c.in_ok-ends.ensures.0 first)
    ])

pub returns-clause-accepted : goal.returns-clause-accepted
returns-clause-accepted c =
    let front = c.in_ok-header.ensures in
    all_pass c.args.digest c.args.bytes.now c.in_ok-header.header front.1 front.0 c.in_ok-ends.ensures.0 c.in_ok-keys.ensures.outcome.0

pub returns-clause-outline : goal.returns-clause-outline
returns-clause-outline c =
    let bytes = c.args.bytes.now in
    let h = c.in_ok-header.header in
    let front = c.in_ok-header.ensures in
    let ends = c.in_ok-ends.ensures in
    record {
      formed = from_accepted c.args.digest bytes (all_pass c.args.digest bytes h front.1 front.0 ends.0 c.in_ok-keys.ensures.outcome.0);
      header_is = front.1;
      ends_are = ends.1;
      keys_are = subst (λ (g : Header). AreKeysOf (key_form g.layout) g.groups (section bytes 5) c.in_ok-keys.keys) front.1 c.in_ok-keys.ensures.outcome.1;
    }

pub returns-in_err-header-clause-out_of_memory : goal.returns-in_err-header-clause-out_of_memory
returns-in_err-header-clause-out_of_memory c =
    let p = err_from_is_err_and c.from_residual.result c.from_residual.ensures.1 in
    rw (p.1, p.2) (λ memory. absurd (prefix_takes_none c.args.bytes.now c.in_err-header.field-0.0 memory c.in_err-header.ensures))

pub returns-in_err-ends-clause-out_of_memory : goal.returns-in_err-ends-clause-out_of_memory
returns-in_err-ends-clause-out_of_memory c =
    let p = err_from_is_err_and c.from_residual-in_err-ends.result c.from_residual-in_err-ends.ensures.1 in
    rw (p.1, p.2) (λ memory. absurd (ends_take_none c.args.digest c.args.bytes.now c.in_err-ends.field-0.0 memory c.in_err-ends.ensures))

pub returns-in_err-keys-clause-out_of_memory : goal.returns-in_err-keys-clause-out_of_memory
returns-in_err-keys-clause-out_of_memory c =
    let p = err_from_is_err_and c.from_residual-in_err-keys.result c.from_residual-in_err-keys.ensures.1 in
    let front = c.in_ok-header.ensures in
    rw (p.1, p.2)
    (λ memory.
    (front.0, c.in_ok-ends.ensures.0, subst (λ (h : Header). PassToSystem h c.args.bytes.now) front.1 (c.in_err-keys.ensures.out_of_memory memory)))
