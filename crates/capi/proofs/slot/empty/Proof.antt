-- `empty`: null is a pointer, and at it nothing is owned.
use Rattle.std.proofs.Common.{[], ◌∷◌, refl}
use Rattle.std.specs.Prelude.{None}
use Rattle.std.proofs.raw_atomic.Walks.{proved}
use types.Kit.{raw, ‵, ◌$◌, ◌∵◌, !, qed, done, drop, suffices, use1}
use types.Run.{and_then, enter, lit, no_more, returns}
use types.ByLocal.{alloc_all, free_all, look_at, pass_all, sets}
use types.Part.{agg}
use denote.RawPtr.{null_ptr}
use denote.Steps.{nothing}
use denote.Triple.Entry.{on_entry}
use denote.Triple.Walked.{ends_at, says}
use Rattle.capi.specs.contracts.slot.Slot as slot
use Rattle.capi.specs.contracts.slot.empty as this
use Rattle.capi.proofs.SlotValues.{word, slot_made, slot_typed}
use Rattle.capi.proofs.slot.empty.Statement.{statement}
use Rattle.capi.proofs.slot.empty.Code as code

pub empty_spec : {M : Type 1} → statement M
empty_spec 𝓤 𝓛 𝓜 𝓡 wired =
    let c = this.clauses 𝓛 𝓜.mem 𝓡.returns in
    proved 𝓛 this.ended tt c 𝓜 𝓡 tt this.Key.name code.function (code.unfolded 𝓤 𝓛.H 𝓜 𝓡 wired) (λ κs. tt) (λ κs. tt) (λ κs qs bounds args g are.
    qed 𝓛 (raw (on_entry 𝓛 this.signature κs qs args tt) ∷ raw ((c κs args).requires g) ∷ []) ∵ drop ! $ drop ! $
    enter ! _ _ _ _ _ $ alloc_all ! (λ l. pass_all ! refl tt $
    sets ! (agg ! (and_then ! (lit ! tt) (no_more !))) refl (slot_typed 𝓛 null_ptr) $ returns ! (look_at ! 0 refl) $ free_all ! refl $
    -- nothing, which an empty slot owns, makes one of null
    nothing ! $ use1 𝓛 (‵ (slot.the_row.own_val (record { at = null_ptr; value = None }) (word null_ptr ∷ []))) (slot_made 𝓛 null_ptr None) $
    suffices ! _ (ends_at 𝓛 this.ended tt c ((κs, qs, bounds, args, tt), g) (word null_ptr) (record { at = null_ptr; value = None }) tt tt) $ says ! refl $
    nothing ! $ nothing ! $ done !))
