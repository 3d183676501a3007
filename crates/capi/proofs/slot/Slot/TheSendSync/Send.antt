-- A slot may go to another thread, since a boxed session may: beside its pointer it owns no more than the box does.
use Rattle.std.proofs.Crossing.{frees}
use Rattle.std.proofs.alloc.Global.TheSendSync.{the_send as heap_sends}
use Rattle.std.specs.contracts.impls.GlobalAllocator.TheImpl.{ghosts}
use Rattle.std_alloc.proofs.SendSync.{Box-send}
use denote.Param.Send.{IsSend}
use Rattle.capi.specs.contracts.slot.Slot.{the_row}
use Rattle.capi.proofs.OwnedLemmas.{owned_sends}
use Rattle.capi.proofs.PassedTypes.{Heap, Session}
use Rattle.capi.proofs.session.Session.TheSendSync.{the_send as session_sends}

-- the pointer is the same for every thread, and nothing remains of a slot that was passed on
pub send : IsSend the_row
send =
    let boxed = Box-send Session Heap ghosts session_sends heap_sends frees in
    record { owned = λ slot vs. ((λ _. (tt, (tt, tt))), owned_sends Session boxed slot.at slot.value); leaving = λ k slot w. tt }
