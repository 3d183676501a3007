-- The fields that a `&` to borrowed bytes shows. Assumes `Logic`.
use Rattle.std.proofs.Common.{ℕ, ◌+◌, [], ◌∷◌, w64}
use Rattle.image_format.specs.contracts.borrowed.borrowed_bytes.BorrowedBytes as borrowed
use seplogic.Ra.Ura.{Ura}
use base.Fml.{Fml, Lft}
use base.Logic.{ent, sep}
use types.Logic.{Logic, sem}
use types.Kit.{‵, ◌$◌, ◌∵◌, !, qed, done, drop, fsplit, keep}
use denote.Builtin.{usize}
use denote.Memory.{hidden_shr}
use denote.Opens.{hide, shr_dup, unhide}
use denote.Plain.{uint_row_laws}
use denote.RattleType.{RattleType, RowLaws}
use denote.RawPtr.{RawPtr, ptr_row_laws}
use denote.Struct.Owning.{shape}
use denote.Struct.Struct.{Struct, Struct-row_laws}

abbrev pub Words : RattleType
Words = Struct (shape borrowed.the_type)

abbrev pub fields_of : borrowed.the_row.Denot → Words.Denot
fields_of d = (d.at, (d.len, tt))

laws : RowLaws Words
laws = Struct-row_laws (shape borrowed.the_type) (ptr_row_laws, (uint_row_laws w64, tt))

module _ {M : Type 1} {𝓤 : Ura M} (𝓛 : Logic 𝓤) (κ : Lft) (b o : ℕ) (d : borrowed.the_row.Denot) where
  abbrev S : Fml
  S = hidden_shr Words κ (fields_of d) b o

  pub shows_at : ent 𝓤 (sem 𝓛 S) (sep 𝓤 (sem 𝓛 (hidden_shr RawPtr κ d.at b (o + 0))) (sem 𝓛 S))
  shows_at = qed 𝓛 (‵ S ∷ []) ∵ shr_dup ! Words laws (fields_of d) b o κ $ unhide ! $ fsplit ! $ fsplit ! $ hide ! $ keep ! (0 ∷ 3 ∷ []) $ done !

  pub shows_len : ent 𝓤 (sem 𝓛 S) (sep 𝓤 (sem 𝓛 (hidden_shr usize κ d.len b (o + 8))) (sem 𝓛 S))
  shows_len = qed 𝓛 (‵ S ∷ []) ∵ shr_dup ! Words laws (fields_of d) b o κ $ unhide ! $ fsplit ! $ fsplit ! $ drop ! $ fsplit ! $ hide ! $ keep ! (0 ∷ 3 ∷ []) $ done !
