-- Several threads may read borrowed bytes.
use Rattle.std_alloc.proofs.SendSync.{seen}
use Rattle.image_format.specs.contracts.borrowed.borrowed_bytes.BorrowedBytes as C
use Rattle.image_format.proofs.Crossing.{byte_shown, pointer_shown, number_shown}
use denote.Array.{Array}
use denote.Builtin.{u8}
use denote.Param.Send.{IsSync, array_sync, struct_sync}
use denote.Struct.Owning.{shape, to}

pub sync : IsSync C.the_row
sync = record {
  shared = λ l b o κ. ((struct_sync (shape C.the_type) (pointer_shown, (number_shown, tt))).shared (to C.the_type l) b o κ, (tt, seen (Array u8 l.len) (array_sync u8 l.len byte_shown) l.at l.bytes κ));
}
