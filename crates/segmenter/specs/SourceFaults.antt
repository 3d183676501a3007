-- Errors of sources as errors of a run.
use Rattle.std.specs.Prelude.{◌≡◌, ◌⊎◌}
use Rattle.mj_model.specs.declared.run_fault.RunFault.{RunFault}
use Rattle.mj_model.specs.declared.run_fault.RunFault.TheVariants as run
use Rattle.mj_model.specs.declared.source_fault.SourceFault.{SourceFault}
use Rattle.mj_model.specs.declared.source_fault.SourceKind.TheVariants.{Memory}

-- the error of a run whose sources have the error `fault`: `Memory 0` if memory ran out, otherwise
-- `end fault`
pub record IsRunFaultFor (end : SourceFault → RunFault) (fault : SourceFault) (reported : RunFault) : Type 0 where
  pub either : ((reported ≡ run.Memory 0) × (fault.kind ≡ Memory)) ⊎ ((reported ≡ end fault) × (fault.kind ≡ Memory → ⊥))
