use Rattle.std.proofs.Common.{ℕ, List, refl, sym, subst}
use Rattle.std.specs.Prelude.{◌≡◌, Err, IfErr, Option, Result}
use Rattle.std.specs.Io.KnownBytes.{Keeps}
use Rattle.mj_model.specs.declared.limits.TheConstants.{READS_MAX}
use Rattle.mj_model.specs.declared.run_fault.RunFault.{RunFault}
use Rattle.mj_model.specs.declared.run_fault.RunFault.TheVariants.{Memory}
use Rattle.programs.specs.declared.fault.Fault.{Fault}
use Rattle.programs.specs.declared.fault.Fault.TheVariants.{Run}
use Rattle.segmenter.specs.SourceRuns.{EndedBeforeReading}
use Rattle.segmenter.proofs.RunFaults.{not_early}
use Rattle.jseg_lib.specs.PeekedReader.{remaining_with}
use Rattle.jseg_lib.proofs.PeekedCounts.{low_counts}
use Rattle.jseg_lib.proofs.PrintedTexts.{printed_if_ok}
use Rattle.jseg_lib.proofs.images.segment_with_buffer.Goals as goal

pub segment_over-requires : goal.segment_over-requires
segment_over-requires g c =
    let p = c.peek_and_cache_costs-reader.result in
    let e = c.peek_and_cache_costs-reader.ensures in
    let before = g.R.TextIn.state c.args.text in
    let after = g.R.TextIn.state p.reader in
    let none = c.requires.reads in
    record {
      counts = (
        low_counts p after.reads after.ends after.failures before.reads before.ends before.failures none.reads none.ends none.failures
            e.reads e.unchanged.0 e.unchanged.1 e.replays,
        c.requires.writes,
      );
    }

pub returns-in-Ok-clause-ok : goal.returns-in-Ok-clause-ok
returns-in-Ok-clause-ok g c =
    let e = c.peek_and_cache_costs-reader.ensures in
    let p = c.peek_and_cache_costs-reader.result in
    let rest : Option (List ℕ) → Type 0 = λ rest. Keeps (g.R.Read.remaining c.args.text) (remaining_with p.kept rest) in
    let kept = subst rest (sym (g.met.R.TextIn.left_is_remaining p.reader)) e.text in
    let form = c.args.settings.now.printed in
    let outcome = rw c.in-Ok.ensures.overlay at c.segment_over.ensures.run in
    printed_if_ok form c.args.system.now _ c.args.overlays.now c.args.settings.now.grouping READS_MAX (g.R.Read.remaining c.args.text) _ _ _ _ c.segment_over.result c.run_result.result
    e.same kept outcome c.run_result.ensures.ok

pub returns-in-Ok-clause-after_reading : goal.returns-in-Ok-clause-after_reading
returns-in-Ok-clause-after_reading g c = λ out_of_memory.
    let IsOfRun : Result ℕ Fault → Type 0 = λ result. IfErr result (λ reported. (fault : RunFault) × (c.segment_over.result ≡ Err fault) × (reported ≡ Run fault)) in
    let error = subst IsOfRun out_of_memory c.run_result.ensures.error in
    let is : c.segment_over.result ≡ Err error.0 = error.1 in
    let same : Run (Memory 0) ≡ Run error.0 = error.2 in
    let ended : c.segment_over.result ≡ Err (Memory 0) = cc in
    not_early _ _ _ _ _ _ c.segment_over.result c.segment_over.ensures.run (subst EndedBeforeReading (sym ended) refl)
