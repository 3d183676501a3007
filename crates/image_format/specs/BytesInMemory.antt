-- Bytes in memory, read through a pointer.
use Rattle.std.specs.Prelude.{ℕ, ◌^◌, List}
use base.Fml.{Fml, Lft, Share, fsep, flt}
use denote.Array.{Array}
use denote.Builtin.{u8}
use denote.RawPtr.{Ptr, lies_at}
use denote.Sharing.{said, beside}
use denote.Struct.Lending.{lent_at}

-- ownership of a share of `count` bytes at a pointer; `count` is below 2^63, the limit of a slice
abbrev pub shared_bytes : Share → Ptr → ℕ → List ℕ → Fml
shared_bytes share at count bytes = fsep (flt count (2 ^ 63)) (lies_at (Array u8 count) share at bytes)

-- what a `&` to these bytes owns
abbrev pub borrowed_bytes : Ptr → ℕ → List ℕ → Lft → Fml
borrowed_bytes at count bytes = beside (said (flt count (2 ^ 63))) (lent_at (Array u8 count) at bytes)
