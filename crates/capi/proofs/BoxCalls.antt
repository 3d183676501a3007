-- The calls that take a session's box apart and put it together: what each asks, and what it gives. Assumes `Logic`.
use Rattle.std.proofs.Common.{◌≡◌, List, [], ◌∷◌, refl, ap}
use Rattle.std.specs.Box.Ownership.{box_owns}
use Rattle.std.specs.contracts.impls.GlobalAllocator.TheImpl.{dict, ghosts}
use Rattle.std.proofs.alloc.Global.TheLaws as heap_laws
use Rattle.std_alloc.specs.contracts.boxed.Box.from_raw as from_raw
use Rattle.std_alloc.specs.contracts.boxed.Box.into_raw as into_raw
use seplogic.Ra.Ura.{Ura}
use mir.Val.{Val}
use base.Fml.{flft, ftrue}
use base.Fraction.{full_share}
use base.Logic.{SProp, ent, emp, guard}
use contract.BorrowLft.{◌⊑◌}
use contract.Monad.{Fun, fact, fact_i}
use prog.Memory.{Memory}
use prog.Routine.{Routine}
use types.Logic.{Logic, sem}
use types.Kit.{Item, mean, ‵, raw, ◌⊛◌, some, given, later, ◌$◌, ◌∵◌, !, qed, await, check, done, drop, feq_i, feq_l, fjoin, join, move, now as at_once, pick, show, split, split3, updating, use0}
use denote.RawPtr.{Ptr, RawPtr, ptr_val}
use denote.Steps.{heard, nothing, only}
use denote.Triple.Clauses.{Ended, Lasts, lasts}
use denote.Triple.Spec.{triple_of}
use denote.Triple.Statement.{Contract}
use Rattle.capi.specs.Owned.{token}
use Rattle.capi.proofs.PassedTypes.{Boxed, Heap, HeapPassed, Session, SessionPassed, heap_drop, session_drop_passed}
use Rattle.capi.proofs.session.Session.TheLaws as session_laws

module _ {M : Type 1} {𝓤 : Ura M} (𝓛 : Logic 𝓤) where
  -- the calls borrow `'static` as the lifetime of each type argument, and its token needs no
  -- precondition
  abbrev pub static : Item 𝓤
  static = ‵ (flft [] full_share) ⊛ ‵ (flft [] full_share) ⊛ ‵ ftrue

  pub static_had : ent 𝓤 (emp 𝓤) (mean 𝓛 static)
  static_had = qed 𝓛 [] ∵ nothing ! $ use0 𝓛 (‵ (flft [] full_share)) (𝓛.lfts.lft-nil full_share) $ join ! $ use0 𝓛 (‵ (flft [] full_share)) (𝓛.lfts.lft-nil full_share) $ join ! $ done !

  -- both types may live that long
  abbrev lasting : Item 𝓤
  lasting = raw (fact 𝓤 ([] ⊑ Session.lives)) ⊛ raw (fact 𝓤 ([] ⊑ Heap.lives))

  lasting_had : ent 𝓤 (emp 𝓤) (mean 𝓛 lasting)
  lasting_had = qed 𝓛 [] ∵ use0 𝓛 (raw (fact 𝓤 ([] ⊑ Heap.lives))) (fact_i 𝓤 _ (emp 𝓤) (heap_laws.the_within [])) $
      use0 𝓛 (raw (fact 𝓤 ([] ⊑ Session.lives))) (fact_i 𝓤 _ (emp 𝓤) (session_laws.the_within [])) $ join ! $ done !

  module _ (in_memory : Memory → SProp 𝓤) (run : Routine → Fun 𝓤) where
    -- ---- a box is taken apart
    abbrev pub IntoRaw : Contract 𝓤
    IntoRaw = triple_of 𝓛 (into_raw.signature SessionPassed HeapPassed ghosts dict heap_drop session_drop_passed) (into_raw.spec SessionPassed HeapPassed ghosts dict heap_drop session_drop_passed 𝓛 in_memory run)

    abbrev taken_apart : Ended
    taken_apart = into_raw.ended SessionPassed HeapPassed ghosts dict heap_drop session_drop_passed

    module _ (boxed : Boxed.Denot) (w : Val) where
      abbrev pub into_raw_at : IntoRaw.Ghost
      into_raw_at = ((([], ([], tt)), (full_share, (full_share, tt)), tt, (boxed, tt), (w ∷ [], tt)), tt)

      -- the call asks the box
      pub into_raw_asks : ent 𝓤 (sem 𝓛 (Boxed.own_val boxed (w ∷ []))) (IntoRaw.pre into_raw_at)
      into_raw_asks = qed 𝓛 (‵ (Boxed.own_val boxed (w ∷ [])) ∷ []) ∵ nothing ! $ move ! (1 ∷ 0 ∷ []) $ fjoin ! $
          use0 𝓛 static static_had $ join ! $ nothing ! $ use0 𝓛 lasting lasting_had $ split ! $ move ! (3 ∷ 0 ∷ 1 ∷ 2 ∷ []) $ done !

      -- it gives a pointer, and the block that lies there with the session
      pub into_raw_gives : (v : Val) → ent 𝓤 (IntoRaw.post into_raw_at v) (mean 𝓛 (later (some (λ (at : Ptr). given (v ≡ ptr_val at) (‵ (box_owns token Session at boxed.value))))))
      into_raw_gives v =
          qed 𝓛 (later (some (λ (at : Ptr). (static ⊛ ‵ (RawPtr.own_val at (v ∷ []))) ⊛
          some (λ (ws : Lasts taken_apart into_raw_at.0.0 into_raw_at.0.3). ‵ (lasts taken_apart into_raw_at.0.0 into_raw_at.0.3 ws) ⊛ ‵ (box_owns token Session at boxed.value)))) ∷ []) ∵
          updating ! $ await ! tt $ at_once ! $ pick ! (λ at. split ! $ split ! $ drop ! $ feq_l ! (λ is. pick ! (λ _. split ! $ drop ! $
          show ! (λ (p : Ptr). guard 𝓤 (v ≡ ptr_val p) (sem 𝓛 (box_owns token Session p boxed.value))) at $ check ! (ap only is) $ done !)))

    -- ---- and is put together
    abbrev pub FromRaw : Contract 𝓤
    FromRaw = triple_of 𝓛 (from_raw.signature SessionPassed HeapPassed ghosts dict heap_drop) (from_raw.spec SessionPassed HeapPassed ghosts dict heap_drop 𝓛 in_memory run)

    abbrev put_together : Ended
    put_together = from_raw.ended SessionPassed HeapPassed ghosts dict heap_drop

    module _ (handle : Heap.Denot) (w : Val) (at : Ptr) (session : Session.Denot) where
      abbrev pub from_raw_at : FromRaw.Ghost
      from_raw_at = ((([], ([], tt)), (full_share, (full_share, tt)), tt, (handle, (at, tt)), (w ∷ [], (ptr_val at ∷ [], tt))), session)

      -- the call asks a handle of the heap, and the block with the session
      pub from_raw_asks : ent 𝓤 (mean 𝓛 (‵ (Heap.own_val handle (w ∷ [])) ⊛ ‵ (box_owns token Session at session))) (FromRaw.pre from_raw_at)
      from_raw_asks = qed 𝓛 ((‵ (Heap.own_val handle (w ∷ [])) ⊛ ‵ (box_owns token Session at session)) ∷ []) ∵ split ! $
          nothing ! $ feq_i ! (List Val) (ptr_val at ∷ []) (ptr_val at ∷ []) refl $ fjoin ! $ move ! (1 ∷ 0 ∷ []) $ fjoin ! $
          use0 𝓛 static static_had $ join ! $ use0 𝓛 lasting lasting_had $ split ! $ move ! (2 ∷ 0 ∷ 1 ∷ []) $ done !

      -- it gives a box of the session
      pub from_raw_gives : (v : Val) → ent 𝓤 (FromRaw.post from_raw_at v) (mean 𝓛 (later (some (λ (boxed : Boxed.Denot). given (boxed.value ≡ session) (‵ (Boxed.own_val boxed (v ∷ [])))))))
      from_raw_gives v =
          qed 𝓛 (later (some (λ (boxed : Boxed.Denot). (static ⊛ ‵ (Boxed.own_val boxed (v ∷ []))) ⊛
          some (λ (ws : Lasts put_together from_raw_at.0.0 from_raw_at.0.3). ‵ (lasts put_together from_raw_at.0.0 from_raw_at.0.3 ws) ⊛ raw (fact 𝓤 (boxed.value ≡ session)) ⊛ raw (fact 𝓤 (boxed.alloc ≡ handle))))) ∷ []) ∵
          updating ! $ await ! tt $ at_once ! $ pick ! (λ boxed. split ! $ split ! $ drop ! $ move ! (1 ∷ []) $ pick ! (λ _. split3 ! $ drop ! $ heard ! (boxed.value ≡ session) (λ same. drop ! $
          show ! (λ (b : Boxed.Denot). guard 𝓤 (b.value ≡ session) (sem 𝓛 (Boxed.own_val b (v ∷ [])))) boxed $ check ! same $ done !)))
