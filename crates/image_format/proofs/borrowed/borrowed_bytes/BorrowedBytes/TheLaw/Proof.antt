-- A `&` to borrowed bytes is formed in place, at any share of them.
use Rattle.std.proofs.Common.{◌^◌}
use Rattle.image_format.proofs.Lending.{Lends-share}
use Rattle.image_format.specs.contracts.borrowed.borrowed_bytes.BorrowedBytes as C
use Rattle.image_format.proofs.borrowed.borrowed_bytes.BorrowedBytes.TheLaw.Statement.{statement}
use base.Fml.{flt}
use denote.Array.{Array, Array-row_laws}
use denote.Builtin.{u8}
use denote.Copied.{uint_Copied}
use denote.Param.Shared.{copy_shared}
use denote.Plain.{uint_row_laws}
use denote.RawPtr.{lies_at}
use denote.Shares.{shares_Array_from}
use denote.Sharing.{said}
use denote.SharingLaws.{beside_shr_laws, said_shr_laws}
use denote.Struct.Field.{RawPtr-field, usize-field}
use denote.Struct.Laws.{RawPtr-copy, usize-copy}
use denote.Struct.Lending.{Lends-both, Lends-said, lent_at, lent_at_shr_laws, of_Lends}
use mir.Syntax.{w8}

pub shares : statement
shares = of_Lends C.struct C.the_codes C.the_heap C.the_lent
    (λ l _. beside_shr_laws (said (flt l.len (2 ^ 63))) (lent_at (Array u8 l.len) l.at l.bytes) (said_shr_laws (flt l.len (2 ^ 63)) tt)
    (lent_at_shr_laws (Array u8 l.len) (Array-row_laws u8 (uint_row_laws w8) l.len) l.at l.bytes))
    (copy_shared RawPtr-field RawPtr-copy, (copy_shared usize-field usize-copy, tt))
    (λ M 𝓤 𝓛 l _. let lives = C.the_row.lives in let small = flt l.len (2 ^ 63) in
    Lends-both 𝓛 small (lies_at (Array u8 l.len) l.share l.at l.bytes) (said small) (lent_at (Array u8 l.len) l.at l.bytes) lives (Lends-said 𝓛 small tt lives)
    (Lends-share 𝓛 (Array u8 l.len) lives l.share l.at l.bytes (shares_Array_from 𝓛 l.share u8 tt l.len lives ((uint_Copied 𝓛 w8).shares l.share lives) l.bytes)))
