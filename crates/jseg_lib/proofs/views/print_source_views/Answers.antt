use Rattle.std.proofs.Common.{[], ◌∙◌, refl, sym, subst, inl, inr}
use Rattle.dict_compile.proofs.FirstFaults.{not_compiled}
use Rattle.image_format.specs.ImageMeaning.{image_tables}
use Rattle.mj_model.specs.Overlays.{overlay_fault}
use Rattle.mj_model.specs.declared.run_fault.RunFault.TheVariants.{Source}
use Rattle.segmenter.specs.SourceRuns.{EndedBeforeReading}
use Rattle.segmenter.proofs.RunFaults.{not_early, source_first, source_is_early, source_of_no_user, source_reported}
use Rattle.segmenter.proofs.OverlayLemmas.{have_overlay, no_overlay_fault, none_and_some, with_grouping}
use Rattle.word_lookup.specs.Overlays.{overlay_of}
use Rattle.jseg_lib.proofs.views.print_source_views.Goals as goal

pub returns-in-Err-clause-source : goal.returns-in-Err-clause-source
returns-in-Err-clause-source g c = λ reported e. source_reported c.args.sources.now c.in-Err.fault reported c.run_fault_of.result (c.run_fault_of.ensures Source refl) c.in-Err.ensures.rejected e

pub returns-in-Err-clause-rejected : goal.returns-in-Err-clause-rejected
returns-in-Err-clause-rejected g c = λ fault h. source_first c.in-Err.fault fault c.run_fault_of.result (c.run_fault_of.ensures Source refl) (c.in-Err.ensures.first fault h)

pub returns-in-Err-clause-succeeds : goal.returns-in-Err-clause-succeeds
returns-in-Err-clause-succeeds g c = λ good. inr (source_is_early c.in-Err.fault c.run_fault_of.result (c.run_fault_of.ensures Source refl))

pub returns-in-Err-clause-no_user : goal.returns-in-Err-clause-no_user
returns-in-Err-clause-no_user g c = λ i reported e. source_of_no_user c.in-Err.fault reported i c.run_fault_of.result (c.run_fault_of.ensures Source refl) e

pub returns-in-Err-clause-before_reading : goal.returns-in-Err-clause-before_reading
returns-in-Err-clause-before_reading g c = λ early. (refl, refl)

pub returns-in-Err-clause-run : goal.returns-in-Err-clause-run
returns-in-Err-clause-run g c = inl (source_is_early c.in-Err.fault c.run_fault_of.result (c.run_fault_of.ensures Source refl))

pub unreachable-requires : goal.unreachable-requires
unreachable-requires g c =
    let system = image_tables c.in-Ok.system in
    none_and_some (overlay_fault system []) c.in_default.field-0 (no_overlay_fault system [] [] c.in-Ok.ensures.dict.2.have.tables.kind tt) c.in_default.ensures.rejected

pub returns-clause-source : goal.returns-clause-source
returns-clause-source g c = λ reported e. absurd (not_early _ _ _ _ _ _ c.print_views.result c.print_views.ensures.run (subst EndedBeforeReading (sym e) tt))

pub returns-clause-no_user : goal.returns-clause-no_user
returns-clause-no_user g c = λ i reported e. not_early _ _ _ _ _ _ c.print_views.result c.print_views.ensures.run (subst EndedBeforeReading (sym e) tt)

pub returns-clause-before_reading : goal.returns-clause-before_reading
returns-clause-before_reading g c = λ early. absurd (not_early _ _ _ _ _ _ c.print_views.result c.print_views.ensures.run early)

pub returns-clause-run : goal.returns-clause-run
returns-clause-run g c =
    let o = overlay_of c.with_grouping-dictionaries.result in
    inr (record {
      overlay = o;
      have = have_overlay c.args.sources.now [] c.args.grouping c.in-Ok.system [] o c.in-Ok.ensures.dict tt
          (c.with_grouping-dictionaries.ensures
          ∙ with_grouping c.args.grouping (overlay_of c.in-Ok-new.dictionaries) (image_tables c.in-Ok.system) [] [] c.in-Ok-new.ensures.overlay refl);
      covered = c.print_views.ensures.covered;
      ran = c.print_views.ensures.run;
    })

pub returns-clause-rejected : goal.returns-clause-rejected
returns-clause-rejected g c = λ fault h.
    absurd (not_compiled c.args.sources.now c.in-Ok.system c.in-Ok.ensures.dict.0 c.in-Ok.ensures.dict.1 fault c.in-Ok.ensures.dict.2 h)

pub returns-clause-succeeds : goal.returns-clause-succeeds
returns-clause-succeeds g c = λ good. inl (c.print_views.ensures.succeeds good)
