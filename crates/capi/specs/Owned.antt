-- What slots own: the value at a slot's pointer with the right to free its block, or nothing.
use mir.Syntax.{Ty}
use base.Fml.{Fml, ftrue}
use denote.RattleType.{RattleType}
use denote.RawPtr.{Ptr}
use Rattle.std.specs.Coded.{Coded, coded_option}
use Rattle.std.specs.Prelude.{◌≡◌, Option, Some, None, Bool, is_some}
use Rattle.std.specs.Box.Ownership.{box_owns}
use Rattle.std.proofs.Props.{props}
use Rattle.std.specs.contracts.impls.GlobalAllocator.TheImpl.{ghosts}
use Rattle.capi.specs.contracts.session.Session as session

-- the right to free a block of the heap; all handles of the heap are one value
abbrev pub token : Ty → Ptr → Fml
token = ghosts.dealloc_token (record { memory = record { seal = tt } })

-- the ownership of the value at a pointer, or of nothing
abbrev pub owned_at : (R : RattleType) → Ptr → Option R.Denot → Fml
owned_at R at None = ftrue
owned_at R at (Some x) = box_owns token R at x

-- a session, or nothing
abbrev pub SessionValue : Type 0
SessionValue = Option session.the_row.Denot

-- the coding of a session or nothing
abbrev pub session_coded : Coded SessionValue
session_coded = coded_option session.the_row.coded

-- what a slot for a session owns at its pointer
abbrev pub slot_owns : Ptr → SessionValue → Fml
slot_owns at kept = owned_at session.the_row at kept

-- the flag is set exactly if there is a value
abbrev pub IsFlagOf : {T : Type 0} → Bool → Option T → Type 0
IsFlagOf flag kept = flag ≡ is_some kept

pub flag-prop : {T : Type 0} (flag : Bool) (kept : Option T) → IsProp (IsFlagOf flag kept)
flag-prop flag kept = Prim.hlevel props
