-- A call of a handle's session.
use Rattle.std.proofs.Common.{◌≡◌, subst, sym}
use Rattle.std.specs.Prelude.{Option, Some, Result}
use Rattle.line_segmenter.specs.declared.fault.SegmentFault.{SegmentFault}
use Rattle.capi.specs.Handles.{IsCalled, handle_result}
use Rattle.capi.specs.declared.fault.CallFault.{CallFault}
use Rattle.capi.specs.declared.session.Session.{Session}

module _ {T : Type 0} (Calls : Session → Result T SegmentFault → Session → Type 0) where
  -- a session that was taken out and put back
  pub called : (kept left : Option Session) (old new : Session) (outcome : Result T SegmentFault) (reported : Result T CallFault)
      → kept ≡ Some old → left ≡ Some new → Calls old outcome new → reported ≡ handle_result outcome → IsCalled Calls kept left reported
  called kept left old new outcome reported was is made gives =
      subst (λ (k : Option Session). IsCalled Calls k left reported) (sym was) (record { outcome = outcome; new = new; called = made; left_is = is; reported_is = gives })
