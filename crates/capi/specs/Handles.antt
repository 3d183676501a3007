-- The contents of C's handles, and the results of calls.
use Rattle.std.specs.Prelude.{◌≡◌, ◌≢◌, ℕ, List, length, Option, None, Some, option_map, Result, Ok, Err}
use Rattle.std.specs.Option.{IsSomeAnd}
use Rattle.std_alloc.specs.Vec.{vec_ptr}
use denote.RawPtr.{Ptr}
use Rattle.line_segmenter.specs.Segmenters.{SegmentedLine, SegmenterState, OfLastLine}
use Rattle.line_segmenter.specs.declared.fault.SegmentFault.{SegmentFault}
use Rattle.line_segmenter.specs.declared.fault.SegmentFault.TheVariants as segment
use Rattle.capi.specs.Codes.{call_code, call_number}
use Rattle.capi.specs.Outputs.{OnlyFaultsSet, OnlyOkSets}
use Rattle.capi.specs.declared.fault.CallFault.{CallFault}
use Rattle.capi.specs.declared.fault.CallFault.TheVariants as call
use Rattle.capi.specs.declared.handle.Handle.{Handle}
use Rattle.capi.specs.declared.session.Session.{Session}
use Rattle.capi.specs.declared.queries.BytesForC.{BytesForC}

-- the segmenter of a session, if there is one
abbrev pub segmenter_of : Option Session → Option SegmenterState
segmenter_of kept = option_map (λ s. s.segmenter) kept

-- the segmenter of a handle, if it has one
abbrev pub segmenter_in : Handle → Option SegmenterState
segmenter_in handle = segmenter_of handle.slot.value

-- the result of a session as the result of its handle
abbrev pub handle_result : {T : Type 0} → Result T SegmentFault → Result T CallFault
handle_result (Ok x) = Ok x
handle_result (Err fault) = Err (call.Segment fault)

-- the session was called and is kept with its changes, and its result is the handle's result
pub record IsCallOf {T : Type 0} (Calls : Session → Result T SegmentFault → Session → Type 0) (old : Session) (left : Option Session) (reported : Result T CallFault) : Type 0 where
  pub outcome : Result T SegmentFault
  pub new : Session
  pub called : Calls old outcome new
  pub left_is : left ≡ Some new
  pub reported_is : reported ≡ handle_result outcome

-- the handle's session was called, or the handle is empty and the result is `EmptySegmenter`
abbrev pub IsCalled : {T : Type 0} → (Session → Result T SegmentFault → Session → Type 0) → Option Session → Option Session → Result T CallFault → Type 0
IsCalled Calls None left reported = (left ≡ None) × (reported ≡ Err call.EmptySegmenter)
IsCalled Calls (Some old) left reported = IsCallOf Calls old left reported

-- why a call of a handle's segmenter fails: the handle is empty, or the segmenter returns an error
abbrev pub IsCallError : Option SegmenterState → (SegmenterState → SegmentFault → Type 0) → CallFault → Type 0
IsCallError None Is fault = fault ≡ call.EmptySegmenter
IsCallError (Some h) Is (call.Segment fault) = Is h fault
IsCallError (Some h) Is fault = ⊥

-- why a handle is not filled: it is not empty, or loading fails
abbrev pub IsFillError : Option SegmenterState → (SegmentFault → Type 0) → CallFault → Type 0
IsFillError None Is (call.Segment fault) = Is fault
IsFillError None Is fault = ⊥
IsFillError (Some h) Is fault = fault ≡ call.FullSegmenter

-- why a handle is not filled with a segmenter that shares another handle's dictionaries
abbrev pub IsShareError : Option SegmenterState → Option SegmenterState → CallFault → Type 0
IsShareError (Some h) other fault = fault ≡ call.FullSegmenter
IsShareError None None fault = fault ≡ call.EmptySegmenter
IsShareError None (Some h) fault = fault ≡ call.Segment segment.Memory

-- an empty handle was filled with a segmenter
abbrev pub Fills : Option SegmenterState → Option SegmenterState → (SegmenterState → Type 0) → Type 0
Fills None (Some new) Is = Is new
Fills old new Is = ⊥

-- an empty handle was filled from another handle's segmenter
abbrev pub FillsFrom : Option SegmenterState → Option SegmenterState → Option SegmenterState → (SegmenterState → SegmenterState → Type 0) → Type 0
FillsFrom None (Some other) (Some new) Is = Is other new
FillsFrom old other new Is = ⊥

-- a handle's segmenter went from the old state to the new one
abbrev pub Moves : Option SegmenterState → Option SegmenterState → (SegmenterState → SegmenterState → Type 0) → Type 0
Moves (Some old) (Some new) Is = Is old new
Moves old new Is = ⊥

-- `count` bytes at an address
abbrev pub borrowed_at : Ptr → ℕ → BytesForC
borrowed_at at count = record { at = at; count = count }

-- C borrows all bytes of the session's buffer, and `Is` holds for them
pub record IsBorrowed (Is : SegmenterState → List ℕ → Type 0) (borrowed : BytesForC) (session : Session) : Type 0 where
  pub is : Is session.segmenter session.output.items
  pub place : borrowed.at ≡ vec_ptr session.output
  pub all : borrowed.count ≡ length session.output.items

-- a session is kept whose buffer C borrows, and `Is` holds for its bytes
abbrev pub Borrows : (SegmenterState → List ℕ → Type 0) → BytesForC → Option Session → Type 0
Borrows Is borrowed kept = IsSomeAnd kept (IsBorrowed Is borrowed)

-- the code is that of an error for which `Is` holds
pub record CallResult (Is : CallFault → Type 0) (code : ℕ) : Type 0 where
  pub fault : CallFault
  pub is : Is fault
  pub reported : code ≡ call_code fault

-- code and number are those of an error for which `Is` holds; an error without a number leaves it
-- unchanged
pub record NumberedResult (Is : CallFault → Type 0) (before number code : ℕ) : Type 0 where
  pub fault : CallFault
  pub is : Is fault
  pub reported : code ≡ call_code fault
  pub number_is : number ≡ call_number fault before

-- the result of a query whose bytes C borrows: on 0 they are set, otherwise an error and no output;
-- the segmenter is unchanged
pub record BorrowResult (old new : Option Session) (Is : SegmenterState → List ℕ → Type 0) (Rejected : SegmenterState → SegmentFault → Type 0) (before borrowed : BytesForC) (code : ℕ) : Type 0 where
  pub reported : code ≡ 0 → Borrows Is borrowed new
  pub unset : OnlyOkSets code before borrowed
  pub rejected : code ≢ 0 → CallResult (IsCallError (segmenter_of old) Rejected) code
  pub segmenter : segmenter_of new ≡ segmenter_of old

-- the result of a setting: on 0 the handle's segmenter changed by `Is`, otherwise an error and no
-- change
pub record ChangeResult (old new : Option SegmenterState) (Is : SegmenterState → SegmenterState → Type 0) (Rejected : SegmenterState → SegmentFault → Type 0) (code : ℕ) : Type 0 where
  pub done : code ≡ 0 → Moves old new Is
  pub rejected : code ≢ 0 → CallResult (IsCallError old Rejected) code
  pub kept : code ≢ 0 → new ≡ old

-- the result of a call that loads: on 0 it did its work, otherwise an error with its number, and no
-- change
pub record LoadingResult (Done : Type 0) (Rejected : CallFault → Type 0) (old new : Option SegmenterState) (before number code : ℕ) : Type 0 where
  pub done : code ≡ 0 → Done
  pub rejected : code ≢ 0 → NumberedResult Rejected before number code
  pub kept : code ≢ 0 → new ≡ old
  pub unset : OnlyFaultsSet code before number

-- the result of a call that writes items: on 0 they were written from index `first` and `count` is
-- their number, otherwise an error and no output; the segmenter is unchanged
pub record ItemsResult {Item : Type 0} (Reported : SegmenterState → ℕ → ℕ → List Item → List Item → SegmentedLine → Type 0) (Rejected : SegmenterState → SegmentFault → Type 0) (first : ℕ) (old new : Option SegmenterState) (out_before out : List Item) (before count code : ℕ) : Type 0 where
  pub reported : code ≡ 0 → IsSomeAnd old (λ h. OfLastLine h (Reported h first count out_before out))
  pub segmenter : new ≡ old
  pub rejected : code ≢ 0 → CallResult (IsCallError old Rejected) code
  pub kept : code ≢ 0 → out ≡ out_before
  pub unset : OnlyOkSets code before count
