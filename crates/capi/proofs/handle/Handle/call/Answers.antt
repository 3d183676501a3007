use Rattle.std.proofs.Common.{rules, refl}
use Rattle.std.specs.Fn.{FnOnceReturnsAtMut}
use Rattle.capi.proofs.CallLemmas.{called}
use Rattle.capi.proofs.handle.Handle.call.Goals as goal

pub returns : goal.returns
returns g c = called (FnOnceReturnsAtMut g.F.FnOnce c.args.call) _ _ c.in_ok-session.session.value _ c.call-outcome.result _ (search rules) (search rules)
    (record { shown = _; shows = search rules; left = _; met = c.call-outcome.ensures; leaves = refl }) (search rules)
