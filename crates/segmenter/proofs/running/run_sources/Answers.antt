use Rattle.std.proofs.Common.{◌∙◌, subst, sym, refl, inl, inr, map, ◌≡◌}
use Rattle.std.specs.Prelude.{Some}
use Rattle.std.proofs.lemmas.Result.{err_from_is_err_and}
use Rattle.image_format.specs.ImageMeaning.{image_tables}
use Rattle.mj_model.specs.Overlays.{overlay_fault}
use Rattle.dict_compile.proofs.FirstFaults.{not_compiled}
use Rattle.word_lookup.specs.Overlays.{overlay_of}
use Rattle.mj_model.specs.declared.run_fault.RunFault.TheVariants.{Source}
use Rattle.segmenter.specs.SourceDicts.{users_of}
use Rattle.segmenter.specs.SourceRuns.{EndedBeforeReading}
use Rattle.segmenter.proofs.RunFaults.{not_early, source_first, source_before_users, source_is_early, source_of_no_user, source_reported, users_are_early, users_over, users_report_no_source, users_reported}
use Rattle.segmenter.proofs.OverlayLemmas.{have_overlay, no_overlay_fault, none_and_some, with_grouping}
use Rattle.segmenter.proofs.UserDicts.{none_at_fault}
use Rattle.segmenter.proofs.SegmentedTexts.{segmented_by}
use Rattle.segmenter.proofs.running.run_sources.Goals as goal

pub returns-in-Err-clause-source : goal.returns-in-Err-clause-source
returns-in-Err-clause-source g c = λ reported e. source_reported c.args.sources.now c.in-Err.fault reported c.run_fault_of.result (c.run_fault_of.ensures Source refl) c.in-Err.ensures.rejected e

pub returns-in-Err-clause-user_source : goal.returns-in-Err-clause-user_source
returns-in-Err-clause-user_source g c = λ i reported e. absurd (source_of_no_user c.in-Err.fault reported i c.run_fault_of.result (c.run_fault_of.ensures Source refl) e)

pub returns-in-Err-clause-rejected : goal.returns-in-Err-clause-rejected
returns-in-Err-clause-rejected g c = λ fault h. source_first c.in-Err.fault fault c.run_fault_of.result (c.run_fault_of.ensures Source refl) (c.in-Err.ensures.first fault h)

pub returns-in-Err-clause-user_rejected : goal.returns-in-Err-clause-user_rejected
returns-in-Err-clause-user_rejected g c = λ i fault h.
    source_before_users c.args.sources.now h.0 c.in-Err.fault _ c.run_fault_of.result h.1 (c.run_fault_of.ensures Source refl) c.in-Err.ensures.rejected

pub returns-in-Err-clause-run : goal.returns-in-Err-clause-run
returns-in-Err-clause-run g c = inl (source_is_early c.in-Err.fault c.run_fault_of.result (c.run_fault_of.ensures Source refl))

pub returns-in-Err-clause-before_reading : goal.returns-in-Err-clause-before_reading
returns-in-Err-clause-before_reading g c = λ early. (refl, refl)

pub returns-in-Err-clause-succeeds : goal.returns-in-Err-clause-succeeds
returns-in-Err-clause-succeeds g c = λ good. inr (source_is_early c.in-Err.fault c.run_fault_of.result (c.run_fault_of.ensures Source refl))

pub user_dicts-requires : goal.user_dicts-requires
user_dicts-requires g c = c.in-Ok.ensures.dict.2.have.tables.kind

pub returns-in_err-users-clause-source : goal.returns-in_err-users-clause-source
returns-in_err-users-clause-source g c = λ reported.
    let p = err_from_is_err_and c.from_residual.result c.from_residual.ensures.1 in
    rw (p.1, p.2) (λ e. absurd (users_report_no_source (image_tables c.in-Ok.system) (users_of c.args.users.now) c.in_err-users.field-0.0 reported c.in_err-users.ensures.rejected e))

pub returns-in_err-users-clause-user_source : goal.returns-in_err-users-clause-user_source
returns-in_err-users-clause-user_source g c = λ i reported.
    let p = err_from_is_err_and c.from_residual.result c.from_residual.ensures.1 in
    rw (p.1, p.2) (users_reported c.args.sources.now c.in-Ok.system (users_of c.args.users.now) c.in_err-users.field-0.0 i reported c.in-Ok.ensures.dict c.in_err-users.ensures.rejected)

pub returns-in_err-users-clause-rejected : goal.returns-in_err-users-clause-rejected
returns-in_err-users-clause-rejected g c = λ fault h.
    absurd (not_compiled c.args.sources.now c.in-Ok.system c.in-Ok.ensures.dict.0 c.in-Ok.ensures.dict.1 fault c.in-Ok.ensures.dict.2 h)

pub returns-in_err-users-clause-user_rejected : goal.returns-in_err-users-clause-user_rejected
returns-in_err-users-clause-user_rejected g c = λ i fault h.
    let p = err_from_is_err_and c.from_residual.result c.from_residual.ensures.1 in
    rw (p.1, p.2) (c.in_err-users.ensures.first i fault (users_over c.args.sources.now c.in-Ok.system (users_of c.args.users.now) i fault c.in-Ok.ensures.dict h))

pub returns-in_err-users-clause-run : goal.returns-in_err-users-clause-run
returns-in_err-users-clause-run g c =
    let p = err_from_is_err_and c.from_residual.result c.from_residual.ensures.1 in
    rw (p.1, p.2) (inl (users_are_early (image_tables c.in-Ok.system) (users_of c.args.users.now) c.in_err-users.field-0.0 c.in_err-users.ensures.rejected))

pub returns-in_err-users-clause-before_reading : goal.returns-in_err-users-clause-before_reading
returns-in_err-users-clause-before_reading g c = λ early. (refl, refl)

pub returns-in_err-users-clause-succeeds : goal.returns-in_err-users-clause-succeeds
returns-in_err-users-clause-succeeds g c = λ good.
    let p = err_from_is_err_and c.from_residual.result c.from_residual.ensures.1 in
    rw (p.1, p.2) (inr (users_are_early (image_tables c.in-Ok.system) (users_of c.args.users.now) c.in_err-users.field-0.0 c.in_err-users.ensures.rejected))

pub unreachable-requires : goal.unreachable-requires
unreachable-requires g c =
    let system = image_tables c.in-Ok.system in
    none_and_some (overlay_fault system (map image_tables c.in_ok-users.users.items)) c.in_default.field-0
    (no_overlay_fault system (users_of c.args.users.now) c.in_ok-users.users.items c.in-Ok.ensures.dict.2.have.tables.kind c.in_ok-users.ensures.dicts)
    (subst (λ dicts. overlay_fault system (map image_tables dicts) ≡ Some c.in_default.field-0) c.deref.ensures.value c.in_default.ensures.rejected)

pub returns-clause-source : goal.returns-clause-source
returns-clause-source g c = λ reported e. absurd (not_early _ _ _ _ _ _ c.segment.result c.segment.ensures.run (subst EndedBeforeReading (sym e) tt))

pub returns-clause-user_source : goal.returns-clause-user_source
returns-clause-user_source g c = λ i reported e. absurd (not_early _ _ _ _ _ _ c.segment.result c.segment.ensures.run (subst EndedBeforeReading (sym e) tt))

pub returns-clause-rejected : goal.returns-clause-rejected
returns-clause-rejected g c = λ fault h.
    absurd (not_compiled c.args.sources.now c.in-Ok.system c.in-Ok.ensures.dict.0 c.in-Ok.ensures.dict.1 fault c.in-Ok.ensures.dict.2 h)

pub returns-clause-user_rejected : goal.returns-clause-user_rejected
returns-clause-user_rejected g c = λ i fault h.
    absurd (none_at_fault (image_tables c.in-Ok.system) (users_of c.args.users.now) c.in_ok-users.users.items c.in_ok-users.ensures.dicts i fault
    (users_over c.args.sources.now c.in-Ok.system (users_of c.args.users.now) i fault c.in-Ok.ensures.dict h))

pub returns-clause-run : goal.returns-clause-run
returns-clause-run g c =
    let o = overlay_of c.with_grouping-dictionaries.result in
    inr (record {
      overlay = o;
      have = have_overlay c.args.sources.now (users_of c.args.users.now) c.args.grouping c.in-Ok.system c.in_ok-users.users.items o c.in-Ok.ensures.dict c.in_ok-users.ensures.dicts
          (c.with_grouping-dictionaries.ensures
          ∙ with_grouping c.args.grouping (overlay_of c.in-Ok-new.dictionaries) (image_tables c.in-Ok.system) c.deref.result.now c.in_ok-users.users.items c.in-Ok-new.ensures.overlay c.deref.ensures.value);
      covered = c.segment.ensures.covered;
      ran = c.segment.ensures.run;
    })

pub returns-clause-before_reading : goal.returns-clause-before_reading
returns-clause-before_reading g c = λ early. absurd (not_early _ _ _ _ _ _ c.segment.result c.segment.ensures.run early)

pub returns-clause-succeeds : goal.returns-clause-succeeds
returns-clause-succeeds g c = λ good. inl (c.segment.ensures.succeeds good)

pub returns-in-Err-clause-ok : goal.returns-in-Err-clause-ok
returns-in-Err-clause-ok g c = segmented_by c.args.sources.now (users_of c.args.users.now) c.args.grouping c.args.format.now _ _ _ _ _ (returns-in-Err-clause-run g c)

pub returns-in_err-users-clause-ok : goal.returns-in_err-users-clause-ok
returns-in_err-users-clause-ok g c = segmented_by c.args.sources.now (users_of c.args.users.now) c.args.grouping c.args.format.now _ _ _ _ _ (returns-in_err-users-clause-run g c)

pub returns-clause-ok : goal.returns-clause-ok
returns-clause-ok g c = segmented_by c.args.sources.now (users_of c.args.users.now) c.args.grouping c.args.format.now _ _ _ _ c.segment.result (returns-clause-run g c)
