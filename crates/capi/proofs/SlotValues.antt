-- A slot is stored as its pointer, and owns beside it what it holds there. Assumes `Logic`.
use Rattle.std.proofs.Common.{◌≡◌, [], ◌∷◌, refl}
use Rattle.std.specs.Box.Ownership.{box_owns}
use Rattle.std.specs.Prelude.{None, Some, IsSome}
use lib.Dec.{T}
use seplogic.Ra.Ura.{Ura}
use mir.Val.{Val, has_ty, WT}
use base.Logic.{ent}
use types.Logic.{Logic, sem}
use types.Kit.{mean, ‵, some, given, ◌$◌, ◌∵◌, !, qed, by, done, drop, fjoin, fsplit}
use denote.Laws.{Is}
use denote.Param.{layout}
use denote.RawPtr.{Ptr, ptr_val, rawptr_pure}
use denote.Steps.{owned}
use denote.Struct.Owning.{shape}
use denote.Struct.Struct.{Struct, Struct-Makes}
use Rattle.capi.specs.Owned.{SessionValue, slot_owns, token}
use Rattle.capi.specs.contracts.session.Session as session
use Rattle.capi.specs.contracts.slot.Slot as slot
use Rattle.capi.proofs.OwnedLemmas.{block_of}
use Rattle.capi.proofs.slot.Slot.TheLaws.{lowers, the_field_loose}

-- the machine value of a slot with this pointer, whatever it holds
abbrev pub word : Ptr → Val
word at = lowers.lowered (record { at = at; value = None })

-- it is a struct of the pointer alone
word_is : (at : Ptr) → Is (Struct (shape slot.the_type)) (at, tt) (word at ∷ [])
word_is at = ((ptr_val at ∷ [], tt), (refl, (refl, tt)))

module _ {M : Type 1} {𝓤 : Ura M} (𝓛 : Logic 𝓤) where
  -- a slot's value has a slot's type
  pub slot_typed : (at : Ptr) → T (has_ty (layout slot.the_row) (word at)) × WT (word at)
  slot_typed at = ((the_field_loose.lawful 𝓛).typed (record { at = at; value = None }) (word at ∷ []) (word_is at, tt)).0

  -- with what a slot may hold at a pointer the pointer makes a slot
  pub slot_made : (at : Ptr) (kept : SessionValue) → ent 𝓤 (sem 𝓛 (slot_owns at kept)) (sem 𝓛 (slot.the_row.own_val (record { at = at; value = kept }) (word at ∷ [])))
  slot_made at kept = qed 𝓛 (‵ (slot_owns at kept) ∷ []) ∵
      owned ! (Struct (shape slot.the_type)) _ (Struct-Makes 𝓛 (shape slot.the_type) (rawptr_pure, tt)) (at, tt) (word at ∷ []) (word_is at) $ fjoin ! $ done !

  -- so a full slot owns the block of its session
  pub full_slot : (slot' : slot.the_row.Denot) → IsSome slot'.value
      → ent 𝓤 (sem 𝓛 (slot.the_row.own_val slot' (word slot'.at ∷ []))) (mean 𝓛 (some (λ (s : session.the_row.Denot). given (slot'.value ≡ Some s) (‵ (box_owns token session.the_row slot'.at s)))))
  full_slot slot' full = qed 𝓛 (‵ (slot.the_row.own_val slot' (word slot'.at ∷ [])) ∷ []) ∵ fsplit ! $ drop ! $ by ! (block_of 𝓛 session.the_row slot'.at slot'.value full)
