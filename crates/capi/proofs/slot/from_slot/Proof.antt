-- `from_slot`: a full slot owns the block that the call asks for, and the call gives the box.
use Rattle.std.proofs.Common.{◌≡◌, [], ◌∷◌, refl, sym, ap, ◌∙◌}
use Rattle.std.specs.Box.Ownership.{box_owns}
use Rattle.std.specs.Prelude.{Some, IsSome}
use Rattle.std.specs.contracts.impls.GlobalAllocator.TheImpl.{dict, ghosts}
use Rattle.std.proofs.alloc.Global.TheLaws as heap_laws
use Rattle.std.proofs.impls.GlobalAllocator.TheImpl.Met as heap_met
use Rattle.std.proofs.raw_atomic.Walks.{proved}
use Rattle.std_alloc.proofs.boxed.Box.from_raw.Met as from_raw
use base.Fml.{fsep, ftrue}
use contract.Monad.{fact}
use contract.Running.{tables}
use types.Kit.{raw, ‵, ◌⊛◌, some, given, later, at_ret, ◌$◌, ◌∵◌, !, qed, await, done, drop, fsplit, join, learn, move, pick, split, suffices, use1}
use types.Run.{and_then, blocks, enter, exec, first, fld, no_more, of_opd, returns, stop}
use types.ByLocal.{alloc_all, env, free_all, get, get_in, lands_last, look_at, pass_all, sets}
use types.Part.{sub, whole}
use denote.Exit.{yes}
use denote.Laws.{shows}
use denote.Signature.{plain}
use denote.Steps.{heard, nothing, peeks}
use denote.Triple.Call.{calls_at_last}
use denote.Triple.Table.{framed}
use denote.Triple.Walked.{Goes-dropped, Stays, ends_at, says, stay_dropped, walk_of}
use Rattle.capi.specs.Owned.{token}
use Rattle.capi.specs.contracts.slot.Slot as slot
use Rattle.capi.specs.contracts.slot.from_slot as this
use Rattle.capi.proofs.BoxCalls.{FromRaw, from_raw_asks, from_raw_at, from_raw_gives}
use Rattle.capi.proofs.PassedTypes.{Boxed, Heap, HeapPassed, Session, SessionPassed, boxed_lawful, heap_drop, heap_drops, heap_passed, session_passed}
use Rattle.capi.proofs.OwnedLemmas.{pointer_typed}
use Rattle.capi.proofs.SlotValues.{full_slot, slot_typed, word}
use Rattle.capi.proofs.slot.Slot.TheLaws as slot_laws
use Rattle.capi.proofs.slot.from_slot.Statement.{statement}
use Rattle.capi.proofs.slot.from_slot.Code as code

-- the slot and the handle are spent
abbrev spent : Stays this.ended.signature.params this.ended.kept
spent = (stay_dropped _ yes, (stay_dropped _ yes, tt))

pub from_slot_spec : {M : Type 1} → statement M
from_slot_spec {M} 𝓤 𝓛 𝓜 𝓡 wired =
    let c = this.clauses 𝓛 𝓜.mem 𝓡.returns in let W = walk_of 𝓛 this.ended spent c in let 𝓣 = tables 𝓤 𝓛.H 𝓜 𝓡 𝓡.env in
    let From = FromRaw 𝓛 𝓜.mem 𝓡.returns in
    let met = from_raw.met 𝓤 𝓛 𝓜 𝓡 (code.calls-std_alloc::boxed::Box::from_raw 𝓡.env wired) SessionPassed HeapPassed session_passed heap_passed ghosts dict heap_drop
    (heap_met.passed 𝓡.env (code.calls-std_heap::GlobalAllocator::allocate 𝓡.env wired) (code.calls-std_heap::GlobalAllocator::deallocate 𝓡.env wired)
    (code.calls-std_heap::GlobalAllocator::grow 𝓡.env wired) (code.calls-std_heap::GlobalAllocator::shrink 𝓡.env wired) M 𝓤 𝓛 𝓜 𝓡)
    (heap_drops 𝓡.env (code.calls-capi::Destruct++none::drop 𝓡.env wired) M 𝓤 𝓛 𝓜 𝓡) in
    proved 𝓛 this.ended spent c 𝓜 𝓡 (Goes-dropped 𝓛 0 (plain (λ _. slot.the_row)) yes (λ κs x w. refl), (Goes-dropped 𝓛 0 (plain (λ _. Heap)) yes (λ κs x w. refl), tt))
    this.Key.name code.function (code.unfolded 𝓤 𝓛.H 𝓜 𝓡 wired)
    (λ κs. ((λ s. word s.at ∷ []), ((λ h. heap_laws.lowers.lowered h ∷ []), tt))) (λ κs. (slot_laws.lowers.val_is, (heap_laws.lowers.val_is, tt))) (λ κs qs bounds args g are.
    let from = args.0 in let handle = args.1.0 in let h = heap_laws.lowers.lowered handle in
    let y : W.Ghost = ((κs, qs, bounds, args, (word from.at ∷ [], (h ∷ [], tt))), g) in
    qed 𝓛 ((‵ ftrue ⊛ ‵ (fsep (slot.the_row.own_val from (word from.at ∷ [])) (fsep (Heap.own_val handle (h ∷ [])) ftrue))) ∷ raw (fact 𝓤 (IsSome from.value)) ∷ []) ∵
    split ! $ drop ! $ fsplit ! $ move ! (2 ∷ []) $ heard ! (IsSome from.value) (λ full.
    use1 𝓛 (some (λ (s : Session.Denot). given (from.value ≡ Some s) (‵ (box_owns token Session from.at s)))) (full_slot 𝓛 from full) $ pick ! (λ s. learn ! (λ kept.
    -- the handle and the block go to the call
    move ! (1 ∷ []) $ fsplit ! $ move ! (1 ∷ []) $ drop ! $ join ! $ use1 𝓛 (raw (From.pre (from_raw_at 𝓛 𝓜.mem 𝓡.returns handle h from.at s))) (from_raw_asks 𝓛 𝓜.mem 𝓡.returns handle h from.at s) $
    enter ! _ _ _ _ _ $ alloc_all ! (λ l. pass_all ! refl (slot_typed 𝓛 from.at, ((tt, ((tt, tt), tt)), tt)) $
    sets ! (of_opd ! (get_in ! (fld ! refl (stop !)) (sub ! 0 refl (whole !)))) refl (pointer_typed 𝓛 from.at) $
    first ! $ blocks ! $ sets ! (of_opd ! (get ! refl)) refl (pointer_typed 𝓛 from.at) $
    calls_at_last ! (framed 𝓤 𝓛.H 𝓜 𝓣) From met (from_raw_at 𝓛 𝓜.mem 𝓡.returns handle h from.at s) (and_then ! (get ! refl) (and_then ! (get ! refl) (no_more !))) (λ v.
    use1 𝓛 (later (some (λ (boxed : Boxed.Denot). given (boxed.value ≡ s) (‵ (Boxed.own_val boxed (v ∷ [])))))) (from_raw_gives 𝓛 𝓜.mem 𝓡.returns handle h from.at s v) $ await ! tt $
    -- the result of the call is this function's result
    pick ! (λ boxed. learn ! (λ same. peeks ! Boxed _ (shows 𝓛 Boxed) boxed (v ∷ []) (λ is. let typed = ((boxed_lawful 𝓛).typed boxed (v ∷ []) is).0 in
    lands_last ! refl typed $ exec ! 𝓣.C 𝓣.Λ (env code.Mir.locals l) code.Mir.t-3 (at_ret _ (W.post y)) $
    sets ! (of_opd ! (get ! refl)) refl typed $ returns ! (look_at ! 0 refl) $ free_all ! refl $
    suffices ! _ (ends_at 𝓛 this.ended spent c y v boxed (tt, (tt, tt)) (tt, (tt, tt))) $ says ! (ap Some same ∙ sym kept) $
    nothing ! $ nothing ! $ join ! $ nothing ! $ join ! $ nothing ! $ done !)))))))))
