-- The outputs of a call. One rule holds for all: an output that the result does not set is
-- unchanged.
use Rattle.std.specs.Prelude.{◌≡◌, ◌≢◌, ℕ, List, ◌++◌, length, take, drop, min, IsUtf8}
use Rattle.std.specs.Str.{IsValidUpTo}
use Rattle.line_segmenter.specs.declared.fault.SegmentFault.{SegmentFault}
use Rattle.line_segmenter.specs.declared.fault.SegmentFault.TheVariants as segment
use Rattle.capi.specs.Codes.{call_code}
use Rattle.capi.specs.declared.fault.CallFault.{CallFault}
use Rattle.capi.specs.declared.fault.CallFault.TheVariants as call

-- the buffer with elements written to its start, as many as fit
abbrev pub with_front : {T : Type 0} → List T → List T → List T
with_front all out = let n = min (length all) (length out) in take n all ++ drop n out

-- only success sets the output
abbrev pub OnlyOkSets : {T : Type 0} → ℕ → T → T → Type 0
OnlyOkSets code before now = code ≢ 0 → now ≡ before

-- only an error sets the output
abbrev pub OnlyFaultsSet : {T : Type 0} → ℕ → T → T → Type 0
OnlyFaultsSet code before now = code ≡ 0 → now ≡ before

-- the position of an error in a text: its first LF, the end of its valid UTF-8 prefix, or its
-- length if it is too long; unchanged if the error has no position
abbrev pub IsErrorPosition : List ℕ → ℕ → ℕ → SegmentFault → Type 0
IsErrorPosition text before at (segment.LineFeed place) = at ≡ place
IsErrorPosition text before at segment.NotUtf8 = IsValidUpTo text at
IsErrorPosition text before at segment.TooLong = at ≡ length text
IsErrorPosition text before at fault = at ≡ before

-- the position of an error in a text that may be valid UTF-8, whatever the error
abbrev pub IsPlaceIfBad : List ℕ → ℕ → ℕ → SegmentFault → Type 0
IsPlaceIfBad text before at segment.NotUtf8 = (IsUtf8 text → ⊥) → IsValidUpTo text at
IsPlaceIfBad text before at fault = IsErrorPosition text before at fault

-- the position of a call's error is that of the segmenter's error; an error of a handle or a buffer
-- has none and leaves it unchanged
abbrev pub IsCallErrorPosition : {P : Type 0} → (P → P → SegmentFault → Type 0) → P → P → CallFault → Type 0
IsCallErrorPosition IsPlace before now (call.Segment fault) = IsPlace before now fault
IsCallErrorPosition IsPlace before now fault = now ≡ before

-- code and position are those of an error for which `Is` holds
pub record PositionResult {P : Type 0} (Is : CallFault → Type 0) (IsPlace : P → P → SegmentFault → Type 0) (before now : P) (code : ℕ) : Type 0 where
  pub fault : CallFault
  pub is : Is fault
  pub reported : code ≡ call_code fault
  pub place : IsCallErrorPosition IsPlace before now fault
