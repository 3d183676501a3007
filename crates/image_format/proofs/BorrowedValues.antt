-- Borrowed bytes are stored as a pointer and a length. Assumes `Logic`.
use Rattle.std.proofs.Common.{◌≡◌, ℕ, ◌^◌, ◌<◌, List, [], ◌∷◌, length, refl, sym, w64}
use Rattle.image_format.specs.BytesInMemory.{shared_bytes}
use Rattle.image_format.specs.contracts.borrowed.borrowed_bytes.BorrowedBytes as borrowed
use Rattle.image_format.specs.contracts.borrowed.loan.BorrowedParts as loan
use lib.Dec.{T}
use seplogic.Ra.Ura.{Ura}
use mir.Val.{Val, has_ty, vcons, vint, vnil, vstruct, WT}
use base.Fml.{Share, feq, fsep}
use base.Logic.{ent}
use types.Logic.{Logic, sem}
use types.Kit.{mean, ‵, given, ◌$◌, ◌∵◌, !, check, qed, done, feq_i, feq_l, fjoin, flt_i, flt_l, fsplit, rewrite, use1}
use denote.Array.{Array}
use denote.Builtin.{u8}
use denote.Laws.{Is}
use denote.Memory.{part_at}
use denote.Param.{layout}
use denote.Plain.{uint_Lawful}
use denote.RawPtr.{Ptr, in_a_block, lies_at, ptr_val, rawptr_Lawful, rawptr_pure}
use denote.RawPtr.Bytes.{bytes, bytes_apart, bytes_whole}
use denote.Steps.{owned}
use denote.Struct.Owning.{shape}
use denote.Struct.Struct.{Struct, Struct-Lawful, Struct-Makes}
use base.Logic.{id⊢}

-- the machine value
abbrev pub words : Ptr → ℕ → Val
words at count = vstruct (vcons (ptr_val at) (vcons (vint w64 count) vnil))

words_are : (at : Ptr) (count : ℕ) → count < 2 ^ 64 → Is (Struct (shape borrowed.the_type)) (at, (count, tt)) (words at count ∷ [])
words_are at count fits = ((ptr_val at ∷ [], (vint w64 count ∷ [], tt)), (refl, (refl, ((refl, fits), tt))))

module _ {M : Type 1} {𝓤 : Ura M} (𝓛 : Logic 𝓤) where
  pub pointer_typed : (at : Ptr) → T (has_ty mir.Syntax.ty_ptr (ptr_val at)) × WT (ptr_val at)
  pointer_typed at = ((rawptr_Lawful 𝓛).typed at (ptr_val at ∷ []) refl).0

  -- the machine value has the type's layout
  pub words_typed : (at : Ptr) (count : ℕ) → count < 2 ^ 64 → T (has_ty (layout borrowed.the_row) (words at count)) × WT (words at count)
  words_typed at count fits = ((Struct-Lawful 𝓛 (shape borrowed.the_type) (rawptr_Lawful 𝓛, (uint_Lawful 𝓛 w64, tt))).typed (at, (count, tt)) (words at count ∷ []) (words_are at count fits)).0

  -- and so has a loan's
  pub loan_typed : (at : Ptr) (count : ℕ) → count < 2 ^ 64 → T (has_ty (layout loan.the_row) (words at count)) × WT (words at count)
  loan_typed at count fits = ((Struct-Lawful 𝓛 (shape loan.the_type) (rawptr_Lawful 𝓛, (uint_Lawful 𝓛 w64, tt))).typed (at, (count, tt)) (words at count ∷ []) ((ptr_val at ∷ [], (vint w64 count ∷ [], tt)), (refl, (refl, ((refl, fits), tt))))).0

  -- the bytes at a pointer have the given length, and fit a slice
  pub lying : (share : Share) (at : Ptr) (count : ℕ) (xs : List ℕ) → ent 𝓤 (sem 𝓛 (shared_bytes share at count xs)) (mean 𝓛 (given ((count ≡ length xs) × (count < 2 ^ 63)) (‵ (shared_bytes share at count xs))))
  lying share at count xs = qed 𝓛 (‵ (shared_bytes share at count xs) ∷ []) ∵ fsplit ! $ flt_l ! (λ small. in_a_block ! at (λ p. lies_at (Array u8 count) share p xs) (id⊢ 𝓤 _) (λ b o is.
      use1 𝓛 (‵ (fsep (feq ℕ (length xs) count) (bytes share xs b o))) (bytes_apart 𝓛 share count xs b o) $ fsplit ! $ feq_l ! (λ counted.
      feq_i ! ℕ (length xs) count counted $ fjoin ! $ use1 𝓛 (‵ (part_at (Array u8 count) share xs b o)) (bytes_whole 𝓛 share count xs b o) $
      rewrite ! 0 (λ (p : Ptr). ‵ (lies_at (Array u8 count) share p xs)) (sym is) refl $ flt_i ! count (2 ^ 63) small $ fjoin ! $ check ! (sym counted, small) $ done !)))

  -- they make a value with their pointer and their count
  pub borrowed_made : (share : Share) (at : Ptr) (count : ℕ) (xs : List ℕ) (counted : count ≡ length xs) → count < 2 ^ 64
      → ent 𝓤 (sem 𝓛 (shared_bytes share at count xs)) (sem 𝓛 (borrowed.the_row.own_val (record { at = at; len = count; bytes = xs; share = share; counted = counted }) (words at count ∷ [])))
  borrowed_made share at count xs counted fits = qed 𝓛 (‵ (shared_bytes share at count xs) ∷ []) ∵
      owned ! (Struct (shape borrowed.the_type)) _ (Struct-Makes 𝓛 (shape borrowed.the_type) (rawptr_pure, ((λ _ _. (tt, tt)), tt))) (at, (count, tt)) (words at count ∷ []) (words_are at count fits) $ fjoin ! $ done !
