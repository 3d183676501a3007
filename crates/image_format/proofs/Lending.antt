-- Borrowing a share of what is stored at a pointer: `Borrows-lies`, for any share. Assumes `Logic`.
use seplogic.Ra.Ura.{Ura}
use Rattle.std.proofs.Common.{[], ◌∷◌}
use base.Fml.{Lft, Share, fbor, ftrue}
use base.Logic.{emp, id⊢, sep}
use types.Logic.{Logic, lfts, sem}
use types.Kit.{raw, ‵, ◌⊛◌, later, ◌$◌, !, await, done, fjoin, now, qed, split, updating, use0, use2}
use denote.Memory.{part_at, shared_of}
use denote.RattleType.{RattleType}
use denote.RawPtr.{Ptr, block_ptr, lies_at, null_ptr}
use denote.Shares.{SharesFrom}
use denote.Struct.Lending.{Lends, Lends-false, lent_at}

module _ {M : Type 1} {𝓤 : Ura M} (𝓛 : Logic 𝓤) where
  open 𝓛 use {H}

  pub Lends-share : (R : RattleType) (l : Lft) (share : Share) (p : Ptr) (x : R.Denot) → SharesFrom 𝓛 share R x (shared_of R x) l → Lends 𝓛 (lies_at R share p x) (lent_at R p x) l
  Lends-share R l share (block_ptr b o) x shares κ ts inc sp = qed 𝓛 (‵ (fbor κ (part_at R share x b o)) ∷ raw (lfts 𝓛 ts) ∷ []) {P = H.⇛ (sep 𝓤 (sem 𝓛 (lent_at R (block_ptr b o) x κ)) (lfts 𝓛 ts))} (
      updating ! $ use2 𝓛 (later (‵ (shared_of R x b o κ) ⊛ raw (lfts 𝓛 ts))) (shares κ ts b o inc sp) $ await ! tt $ split ! $ use0 𝓛 (‵ ftrue) (id⊢ 𝓤 (emp 𝓤)) $ fjoin ! $ now ! $ done !)
  Lends-share R l share null_ptr x shares κ ts inc sp = Lends-false 𝓛 (lent_at R null_ptr x) l κ ts inc sp
