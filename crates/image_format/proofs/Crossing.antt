-- The fields of borrowed bytes may cross threads.
use Rattle.std.proofs.Common.{ℕ, List}
use base.Fml.{Share}
use base.Shift.{Keyless}
use denote.Array.{Array}
use denote.Builtin.{RawPtr, u8, usize}
use denote.Param.Send.{IsSend, IsSync, array_send, part_keyless, sendable}
use denote.RawPtr.{Ptr, block_ptr, lies_at, null_ptr}

byte_sends : IsSend u8
byte_sends = search sendable

pub byte_shown : IsSync u8
byte_shown = search sendable

pub pointer_sends : IsSend RawPtr
pointer_sends = search sendable

pub pointer_shown : IsSync RawPtr
pointer_shown = search sendable

pub number_sends : IsSend usize
number_sends = search sendable

pub number_shown : IsSync usize
number_shown = search sendable

pub lies_keyless : (share : Share) (at : Ptr) (count : ℕ) (bytes : List ℕ) → Keyless (lies_at (Array u8 count) share at bytes)
lies_keyless share (block_ptr b o) count bytes = part_keyless (Array u8 count) (array_send u8 count byte_sends) share bytes b o
lies_keyless share null_ptr count bytes = tt
