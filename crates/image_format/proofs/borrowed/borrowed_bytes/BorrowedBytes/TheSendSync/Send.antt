-- Borrowed bytes may move to another thread: a pointer, a number and bytes in memory may.
use Rattle.std_alloc.proofs.SendSync.{quiet}
use Rattle.image_format.specs.contracts.borrowed.borrowed_bytes.BorrowedBytes as C
use Rattle.image_format.proofs.Crossing.{lies_keyless, pointer_sends, number_sends}
use denote.Param.Send.{AllSend, IsSend, owning_send, struct_send}
use denote.Struct.Owning.{fields, shape, to}
use denote.Struct.Struct.{exits_of}

pub send : IsSend C.the_row
send = let all : AllSend (fields C.the_type) = (pointer_sends, (number_sends, tt)) in
    owning_send C.the_type all (λ l. (tt, lies_keyless l.share l.at l.len l.bytes)) (λ k. quiet (to C.the_type) (exits_of k (fields C.the_type)) ((struct_send (shape C.the_type) all).leaving k))
