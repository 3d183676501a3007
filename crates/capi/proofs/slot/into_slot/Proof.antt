-- `into_slot`: the call gives the box's pointer with the block there, and both make a full slot.
use Rattle.std.proofs.Common.{◌≡◌, List, [], ◌∷◌, ◌++◌, refl}
use Rattle.std.specs.Box.Ownership.{box_owns}
use Rattle.std.specs.Prelude.{Some}
use Rattle.std.specs.contracts.impls.GlobalAllocator.TheImpl.{dict, ghosts}
use Rattle.std.proofs.impls.GlobalAllocator.TheImpl.Met as heap_met
use Rattle.std.proofs.raw_atomic.Walks.{proved_at}
use Rattle.std_alloc.proofs.boxed.Box.into_raw.Met as into_raw
use mir.Val.{Val}
use base.Fml.{fsep, ftrue}
use base.Logic.{emp, ent}
use contract.Running.{tables}
use prog.Wp.{WpFn}
use types.Kit.{Item, mean, raw, ‵, ◌⊛◌, some, given, later, ◌$◌, ◌∵◌, !, qed, await, done, drop, fsplit, join, keep, learn, pick, split, suffices, use1}
use types.Run.{and_then, enter, no_more, of_opd, returns}
use types.ByLocal.{alloc_all, free_all, get, lands_as, look_at, pass_all, sets}
use types.Part.{agg}
use denote.Exit.{yes}
use denote.Param.{layout}
use denote.Param.Steps.{one_value}
use denote.RawPtr.{Ptr, ptr_val}
use denote.Signature.{plain}
use denote.Steps.{nothing}
use denote.Triple.Call.{calls_at}
use denote.Triple.Table.{framed}
use denote.Triple.Walked.{Goes-dropped, Stays, ends_at, says, stay_dropped, walk_of}
use Rattle.capi.specs.Owned.{token}
use Rattle.capi.specs.contracts.slot.Slot as slot
use Rattle.capi.specs.contracts.slot.into_slot as this
use Rattle.capi.proofs.BoxCalls.{IntoRaw, into_raw_asks, into_raw_at, into_raw_gives}
use Rattle.capi.proofs.PassedTypes.{Boxed, HeapPassed, Session, SessionPassed, boxed_lawful, heap_drop, heap_drops, heap_passed, session_drop_passed, session_drops, session_passed}
use Rattle.capi.proofs.OwnedLemmas.{pointer_typed}
use Rattle.capi.proofs.SlotValues.{slot_made, slot_typed, word}
use Rattle.capi.proofs.slot.into_slot.Statement.{statement}
use Rattle.capi.proofs.slot.into_slot.Code as code

-- the box is spent
abbrev spent : Stays this.ended.signature.params this.ended.kept
spent = (stay_dropped _ yes, tt)

pub into_slot_spec : {M : Type 1} → statement M
into_slot_spec {M} 𝓤 𝓛 𝓜 𝓡 wired =
    let c = this.clauses 𝓛 𝓜.mem 𝓡.returns in let W = walk_of 𝓛 this.ended spent c in let 𝓣 = tables 𝓤 𝓛.H 𝓜 𝓡 𝓡.env in
    let Into = IntoRaw 𝓛 𝓜.mem 𝓡.returns in
    let met = into_raw.met 𝓤 𝓛 𝓜 𝓡 (code.calls-std_alloc::boxed::Box::into_raw 𝓡.env wired) SessionPassed HeapPassed session_passed heap_passed ghosts dict heap_drop session_drop_passed
    (heap_met.passed 𝓡.env (code.calls-std_heap::GlobalAllocator::allocate 𝓡.env wired) (code.calls-std_heap::GlobalAllocator::deallocate 𝓡.env wired)
    (code.calls-std_heap::GlobalAllocator::grow 𝓡.env wired) (code.calls-std_heap::GlobalAllocator::shrink 𝓡.env wired) M 𝓤 𝓛 𝓜 𝓡)
    (heap_drops 𝓡.env (code.calls-capi::Destruct++none::drop 𝓡.env wired) M 𝓤 𝓛 𝓜 𝓡) (session_drops 𝓤 𝓛 𝓜 𝓡 (code.calls-capi::capi++session++Session+Destruct::drop 𝓡.env wired)) in
    proved_at 𝓛 this.ended spent c 𝓜 𝓡 (Goes-dropped 𝓛 0 (plain (λ _. Boxed)) yes (λ κs x w. refl), tt) this.Key.name code.function (code.unfolded 𝓤 𝓛.H 𝓜 𝓡 wired) (λ y are.
    let boxed = y.0.3.0 in
    let had : List Val → Item 𝓤 = λ vs. ‵ ftrue ⊛ ‵ (fsep (Boxed.own_val boxed vs) ftrue) in
    -- a box is one machine value
    one_value (layout Boxed) (λ vs. ent 𝓤 (mean 𝓛 (had vs ⊛ raw (emp 𝓤))) (WpFn 𝓤 𝓛.H 𝓣.C 𝓣.Λ code.function (vs ++ []) (W.post y))) y.0.4.0 ((boxed_lawful 𝓛).typed boxed y.0.4.0 are.0) (λ w typed.
    qed 𝓛 (had (w ∷ []) ∷ raw (emp 𝓤) ∷ []) ∵ split ! $ drop ! $ fsplit ! $ keep ! (0 ∷ []) $
    use1 𝓛 (raw (Into.pre (into_raw_at 𝓛 𝓜.mem 𝓡.returns boxed w))) (into_raw_asks 𝓛 𝓜.mem 𝓡.returns boxed w) $
    enter ! _ _ _ _ _ $ alloc_all ! (λ l. pass_all ! refl (typed, tt) $ sets ! (of_opd ! (get ! refl)) refl typed $
    calls_at ! (framed 𝓤 𝓛.H 𝓜 𝓣) Into met (into_raw_at 𝓛 𝓜.mem 𝓡.returns boxed w) (and_then ! (get ! refl) (no_more !)) (λ v.
    use1 𝓛 (later (some (λ (at : Ptr). given (v ≡ ptr_val at) (‵ (box_owns token Session at boxed.value))))) (into_raw_gives 𝓛 𝓜.mem 𝓡.returns boxed w v) $ await ! tt $
    -- the pointer goes into the slot, and so does the block
    pick ! (λ at. learn ! (λ is. lands_as ! is refl (pointer_typed 𝓛 at) $ sets ! (of_opd ! (get ! refl)) refl (pointer_typed 𝓛 at) $
    sets ! (agg ! (and_then ! (get ! refl) (no_more !))) refl (slot_typed 𝓛 at) $ returns ! (look_at ! 0 refl) $ free_all ! refl $
    use1 𝓛 (‵ (slot.the_row.own_val (record { at = at; value = Some boxed.value }) (word at ∷ []))) (slot_made 𝓛 at (Some boxed.value)) $
    suffices ! _ (ends_at 𝓛 this.ended spent c y (word at) (record { at = at; value = Some boxed.value }) (tt, tt) (tt, tt)) $ says ! refl $
    nothing ! $ nothing ! $ join ! $ nothing ! $ done !))))))
