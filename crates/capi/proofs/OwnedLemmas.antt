-- What is owned at a slot's pointer, whatever type it has. Assumes `Logic`.
use Rattle.std.proofs.Common.{◌≡◌, [], ◌∷◌, refl}
use Rattle.std.specs.Box.Ownership.{box_owns}
use Rattle.std.specs.Prelude.{Option, None, Some, IsSome}
use Rattle.std.specs.contracts.alloc.Global as heap
use Rattle.std.specs.contracts.impls.GlobalAllocator.TheImpl.{ghosts}
use Rattle.std_alloc.specs.contracts.boxed.Box as box
use lib.Dec.{T}
use seplogic.Ra.Ura.{Ura}
use mir.Syntax.{ty_ptr}
use mir.Val.{has_ty, WT}
use base.Logic.{ent, guard}
use base.Shift.{Keyless}
use types.Logic.{Logic, sem}
use types.Kit.{mean, ‵, some, given, ◌$◌, ◌∵◌, !, qed, check, done, show}
use denote.Param.Send.{IsSend}
use denote.RattleType.{RattleType}
use denote.RawPtr.{Ptr, ptr_val, rawptr_Lawful}
use Rattle.capi.specs.Owned.{owned_at, token}

module _ {M : Type 1} {𝓤 : Ura M} (𝓛 : Logic 𝓤) where
  -- a pointer has a pointer's type
  pub pointer_typed : (at : Ptr) → T (has_ty ty_ptr (ptr_val at)) × WT (ptr_val at)
  pointer_typed at = ((rawptr_Lawful 𝓛).typed at (ptr_val at ∷ []) refl).0

  -- what is not nothing is a value in its block
  pub block_of : (R : RattleType) (at : Ptr) (kept : Option R.Denot) → IsSome kept
      → ent 𝓤 (sem 𝓛 (owned_at R at kept)) (mean 𝓛 (some (λ (s : R.Denot). given (kept ≡ Some s) (‵ (box_owns token R at s)))))
  block_of R at None full = absurd (cc)
  block_of R at (Some s) full = qed 𝓛 (‵ (box_owns token R at s) ∷ []) ∵
      show ! (λ (t : R.Denot). guard 𝓤 (Some s ≡ Some t) (sem 𝓛 (box_owns token R at t))) s $ check ! refl $ done !

-- a slot owns what a box owns besides its pointer and its handle, so it may be sent to another
-- thread if a box may
pub owned_sends : (R : RattleType) → IsSend (box.the_row R heap.the_row ghosts) → (at : Ptr) (kept : Option R.Denot) → Keyless (owned_at R at kept)
owned_sends R sends at None = tt
owned_sends R sends at (Some x) = (sends.owned (record { ptr = at; alloc = record { memory = record { seal = tt } }; value = x }) []).1
