use Rattle.std.proofs.Common.{inl, inr, ap, subst, ◌≡◌, ◌⊎◌, ℕ, List, ◌++◌}
use Rattle.std.proofs.lemmas.Result.{err_from_is_err_and}
use Rattle.mj_model.specs.declared.image_fault.ImageFault.TheVariants.{Memory}
use Rattle.image_format.specs.ImageBytes.{section}
use Rattle.image_format.specs.ImageFaults.{Test, PassAll, IsFirstFault}
use Rattle.image_format.specs.ImageFaults.{header_tests, system_tests, key_tests, token_tests}
use Rattle.image_format.specs.Layouts.{key_form}
use Rattle.dict_image.specs.Validation.KeyPlaces.{AreKeysOf}
use Rattle.dict_image.proofs.StageLemmas.{pass_both, reported_first, reported_later, same_system, same_tokens}
use Rattle.dict_image.proofs.NoMemoryLemmas.{header_takes_none, system_takes_none}
use Rattle.dict_image.proofs.validation.check.check_sections.Goals as goal

pub returns-in_err-check_header-clause-outcome : goal.returns-in_err-check_header-clause-outcome
returns-in_err-check_header-clause-outcome c =
    let h = c.args.header.now in
    let bytes = c.args.bytes.now in
    let p = err_from_is_err_and c.from_residual.result c.from_residual.ensures.1 in
    rw (p.1, p.2) (inr (reported_first (header_tests h) (system_tests h (section bytes 1) (section bytes 2) (section bytes 3) (section bytes 4) ++ (key_tests (key_form h.layout) h.groups (section bytes 5) ++ token_tests h (section bytes 6) (section bytes 7) (section bytes 8))) c.in_err-check_header.field-0.0 c.in_err-check_header.ensures))

pub returns-in_err-check_system-clause-outcome : goal.returns-in_err-check_system-clause-outcome
returns-in_err-check_system-clause-outcome c =
    let h = c.args.header.now in
    let bytes = c.args.bytes.now in
    let p = err_from_is_err_and c.from_residual-in_err-check_system.result c.from_residual-in_err-check_system.ensures.1 in
    let fault = c.in_err-check_system.field-0.0 in
    let reported = subst (λ (tests : List Test). IsFirstFault tests fault) (same_system h c.section_bytes.result.now c.section_bytes-2.result.now c.section_bytes-3.result.now c.section_bytes-4.result.now (section bytes 1) (section bytes 2) (section bytes 3) (section bytes 4) c.section_bytes.ensures c.section_bytes-2.ensures c.section_bytes-3.ensures c.section_bytes-4.ensures) c.in_err-check_system.ensures in
    rw (p.1, p.2) (inr (reported_later (header_tests h) (system_tests h (section bytes 1) (section bytes 2) (section bytes 3) (section bytes 4) ++ (key_tests (key_form h.layout) h.groups (section bytes 5) ++ token_tests h (section bytes 6) (section bytes 7) (section bytes 8))) fault c.in_ok-check_header.ensures (reported_first (system_tests h (section bytes 1) (section bytes 2) (section bytes 3) (section bytes 4)) (key_tests (key_form h.layout) h.groups (section bytes 5) ++ token_tests h (section bytes 6) (section bytes 7) (section bytes 8)) fault reported)))

pub returns-in_err-keys-clause-outcome : goal.returns-in_err-keys-clause-outcome
returns-in_err-keys-clause-outcome c =
    let h = c.args.header.now in
    let bytes = c.args.bytes.now in
    let p = err_from_is_err_and c.from_residual-in_err-keys.result c.from_residual-in_err-keys.ensures.1 in
    let fault = c.in_err-keys.field-0.0 in
    let system = subst PassAll (same_system h c.section_bytes.result.now c.section_bytes-2.result.now c.section_bytes-3.result.now c.section_bytes-4.result.now (section bytes 1) (section bytes 2) (section bytes 3) (section bytes 4) c.section_bytes.ensures c.section_bytes-2.ensures c.section_bytes-3.ensures c.section_bytes-4.ensures) c.in_ok-check_system.ensures in
    let reported = subst (λ (tests : List Test). (fault ≡ Memory) ⊎ IsFirstFault tests fault) (ap (key_tests (key_form h.layout) h.groups) c.section_bytes-5.ensures) c.in_err-keys.ensures in
    rw (p.1, p.2) (elim reported [
      | inl memory ↦ inl memory
      | inr first ↦ inr (reported_later (header_tests h) (system_tests h (section bytes 1) (section bytes 2) (section bytes 3) (section bytes 4) ++ (key_tests (key_form h.layout) h.groups (section bytes 5) ++ token_tests h (section bytes 6) (section bytes 7) (section bytes 8))) fault c.in_ok-check_header.ensures (reported_later (system_tests h (section bytes 1) (section bytes 2) (section bytes 3) (section bytes 4)) (key_tests (key_form h.layout) h.groups (section bytes 5) ++ token_tests h (section bytes 6) (section bytes 7) (section bytes 8)) fault system (reported_first (key_tests (key_form h.layout) h.groups (section bytes 5)) (token_tests h (section bytes 6) (section bytes 7) (section bytes 8)) fault first)))
    ])

pub returns-in_err-check_tokens-clause-outcome : goal.returns-in_err-check_tokens-clause-outcome
returns-in_err-check_tokens-clause-outcome c =
    let h = c.args.header.now in
    let bytes = c.args.bytes.now in
    let p = err_from_is_err_and c.from_residual-in_err-check_tokens.result c.from_residual-in_err-check_tokens.ensures.1 in
    let fault = c.in_err-check_tokens.field-0.0 in
    let system = subst PassAll (same_system h c.section_bytes.result.now c.section_bytes-2.result.now c.section_bytes-3.result.now c.section_bytes-4.result.now (section bytes 1) (section bytes 2) (section bytes 3) (section bytes 4) c.section_bytes.ensures c.section_bytes-2.ensures c.section_bytes-3.ensures c.section_bytes-4.ensures) c.in_ok-check_system.ensures in
    let keys = subst PassAll (ap (key_tests (key_form h.layout) h.groups) c.section_bytes-5.ensures) c.in_ok-keys.ensures.0 in
    let reported = subst (λ (tests : List Test). (fault ≡ Memory) ⊎ IsFirstFault tests fault) (same_tokens h c.section_bytes-6.result.now c.section_bytes-7.result.now c.section_bytes-8.result.now (section bytes 6) (section bytes 7) (section bytes 8) c.section_bytes-6.ensures c.section_bytes-7.ensures c.section_bytes-8.ensures) c.in_err-check_tokens.ensures in
    rw (p.1, p.2) (elim reported [
      | inl memory ↦ inl memory
      | inr first ↦ inr (reported_later (header_tests h) (system_tests h (section bytes 1) (section bytes 2) (section bytes 3) (section bytes 4) ++ (key_tests (key_form h.layout) h.groups (section bytes 5) ++ token_tests h (section bytes 6) (section bytes 7) (section bytes 8))) fault c.in_ok-check_header.ensures (reported_later (system_tests h (section bytes 1) (section bytes 2) (section bytes 3) (section bytes 4)) (key_tests (key_form h.layout) h.groups (section bytes 5) ++ token_tests h (section bytes 6) (section bytes 7) (section bytes 8)) fault system (reported_later (key_tests (key_form h.layout) h.groups (section bytes 5)) (token_tests h (section bytes 6) (section bytes 7) (section bytes 8)) fault keys first)))
    ])

pub returns-clause-outcome : goal.returns-clause-outcome
returns-clause-outcome c =
    let h = c.args.header.now in
    let bytes = c.args.bytes.now in
    let system = subst PassAll (same_system h c.section_bytes.result.now c.section_bytes-2.result.now c.section_bytes-3.result.now c.section_bytes-4.result.now (section bytes 1) (section bytes 2) (section bytes 3) (section bytes 4) c.section_bytes.ensures c.section_bytes-2.ensures c.section_bytes-3.ensures c.section_bytes-4.ensures) c.in_ok-check_system.ensures in
    let keys = subst PassAll (ap (key_tests (key_form h.layout) h.groups) c.section_bytes-5.ensures) c.in_ok-keys.ensures.0 in
    let tokens = subst PassAll (same_tokens h c.section_bytes-6.result.now c.section_bytes-7.result.now c.section_bytes-8.result.now (section bytes 6) (section bytes 7) (section bytes 8) c.section_bytes-6.ensures c.section_bytes-7.ensures c.section_bytes-8.ensures) c.in_ok-check_tokens.ensures in
    let places = subst (λ (keys : List ℕ). AreKeysOf (key_form h.layout) h.groups keys c.in_ok-keys.keys) c.section_bytes-5.ensures c.in_ok-keys.ensures.1 in (
      pass_both (header_tests h) (system_tests h (section bytes 1) (section bytes 2) (section bytes 3) (section bytes 4) ++ (key_tests (key_form h.layout) h.groups (section bytes 5) ++ token_tests h (section bytes 6) (section bytes 7) (section bytes 8))) c.in_ok-check_header.ensures
          (pass_both (system_tests h (section bytes 1) (section bytes 2) (section bytes 3) (section bytes 4)) (key_tests (key_form h.layout) h.groups (section bytes 5) ++ token_tests h (section bytes 6) (section bytes 7) (section bytes 8)) system
          (pass_both (key_tests (key_form h.layout) h.groups (section bytes 5)) (token_tests h (section bytes 6) (section bytes 7) (section bytes 8)) keys tokens)),
      places,
    )

pub returns-in_err-check_header-clause-out_of_memory : goal.returns-in_err-check_header-clause-out_of_memory
returns-in_err-check_header-clause-out_of_memory c =
    let p = err_from_is_err_and c.from_residual.result c.from_residual.ensures.1 in
    rw (p.1, p.2) (λ memory. absurd (header_takes_none c.args.header.now c.in_err-check_header.field-0.0 memory c.in_err-check_header.ensures))

pub returns-in_err-check_system-clause-out_of_memory : goal.returns-in_err-check_system-clause-out_of_memory
returns-in_err-check_system-clause-out_of_memory c =
    let p = err_from_is_err_and c.from_residual-in_err-check_system.result c.from_residual-in_err-check_system.ensures.1 in
    rw (p.1, p.2) (λ memory. absurd (system_takes_none c.args.header.now c.section_bytes.result.now c.section_bytes-2.result.now c.section_bytes-3.result.now c.section_bytes-4.result.now c.in_err-check_system.field-0.0 memory c.in_err-check_system.ensures))

pub returns-in_err-keys-clause-out_of_memory : goal.returns-in_err-keys-clause-out_of_memory
returns-in_err-keys-clause-out_of_memory c =
    let h = c.args.header.now in
    let bytes = c.args.bytes.now in
    let p = err_from_is_err_and c.from_residual-in_err-keys.result c.from_residual-in_err-keys.ensures.1 in
    let system = subst PassAll (same_system h c.section_bytes.result.now c.section_bytes-2.result.now c.section_bytes-3.result.now c.section_bytes-4.result.now (section bytes 1) (section bytes 2) (section bytes 3) (section bytes 4) c.section_bytes.ensures c.section_bytes-2.ensures c.section_bytes-3.ensures c.section_bytes-4.ensures) c.in_ok-check_system.ensures in
    rw (p.1, p.2) (λ memory. (c.in_ok-check_header.ensures, system))

pub returns-in_err-check_tokens-clause-out_of_memory : goal.returns-in_err-check_tokens-clause-out_of_memory
returns-in_err-check_tokens-clause-out_of_memory c =
    let h = c.args.header.now in
    let bytes = c.args.bytes.now in
    let p = err_from_is_err_and c.from_residual-in_err-check_tokens.result c.from_residual-in_err-check_tokens.ensures.1 in
    let system = subst PassAll (same_system h c.section_bytes.result.now c.section_bytes-2.result.now c.section_bytes-3.result.now c.section_bytes-4.result.now (section bytes 1) (section bytes 2) (section bytes 3) (section bytes 4) c.section_bytes.ensures c.section_bytes-2.ensures c.section_bytes-3.ensures c.section_bytes-4.ensures) c.in_ok-check_system.ensures in
    rw (p.1, p.2) (λ memory. (c.in_ok-check_header.ensures, system))
