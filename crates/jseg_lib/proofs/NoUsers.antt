-- Without user lexicons, no error belongs to one.
use Rattle.std.proofs.Common.{◌≡◌, ℕ, [], None, Some}
use Rattle.dict_compile.specs.SourceOverlays.{IsUsersCause}
use Rattle.mj_model.specs.declared.source_fault.SourceFault.{SourceFault}
use Rattle.mj_model.specs.declared.sources.Sources.{Sources}

pub of_nobody : (s : Sources) (i : ℕ) (fault : SourceFault) → IsUsersCause s [] i fault → ⊥
of_nobody s i fault cause = let clash : None ≡ Some cause.2.lexicons = cause.2.there in cc
