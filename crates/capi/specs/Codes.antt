-- The error codes for C, made of the letter and the digit of an error's code, and the numbers of
-- errors.
use Rattle.std.specs.Prelude.{ℕ, ◌+◌, ◌-◌, ◌*◌, List, [], ◌∷◌, Result, Ok, Err}
use Rattle.mj_model.specs.declared.image_fault.ImageFault.{ImageFault}
use Rattle.mj_model.specs.declared.image_fault.ImageFault.TheVariants as image
use Rattle.mj_model.specs.declared.overlay_fault.OverlayFault.{OverlayFault}
use Rattle.mj_model.specs.declared.overlay_fault.OverlayFault.TheVariants.{NotSystem, NotUser, OtherSizes}
use Rattle.line_segmenter.specs.declared.fault.SegmentFault.{SegmentFault}
use Rattle.line_segmenter.specs.declared.fault.SegmentFault.TheVariants as segment
use Rattle.capi.specs.declared.fault.CallFault.{CallFault}
use Rattle.capi.specs.declared.fault.CallFault.TheVariants as call
use Rattle.capi.specs.CallWords.{call_words}

-- the code of success
abbrev pub ok : ℕ
ok = 0

-- the code of out of memory
abbrev pub memory : ℕ
memory = 1

-- 256 times the letter plus the digit's value; any other word is out of memory
abbrev pub code_in : List ℕ → ℕ
code_in (letter ∷ digit ∷ []) = 256 * letter + (digit - 48)
code_in word = memory

-- the code of an error
abbrev pub call_code : CallFault → ℕ
call_code fault = code_in (call_words fault).code

-- the code of a result
abbrev pub result_code : {T : Type 0} → Result T CallFault → ℕ
result_code (Ok x) = ok
result_code (Err fault) = call_code fault

-- the number of an image's error, or the previous number if it has none
abbrev pub image_number : ImageFault → ℕ → ℕ
image_number (image.BadLayout layout) number = layout
image_number (image.BadSection section) number = section
image_number (image.BadKey group) number = group
image_number (image.BadToken token) number = token
image_number (image.BadText token) number = token
image_number fault number = number

-- the number of an overlay's error, or the previous number if it has none
abbrev pub overlay_number : OverlayFault → ℕ → ℕ
overlay_number NotSystem number = number
overlay_number (NotUser user) number = user
overlay_number (OtherSizes user) number = user

-- the number of a segmenter's error, or the previous number if it has none
abbrev pub segment_fault_number : SegmentFault → ℕ → ℕ
segment_fault_number (segment.Image fault) number = image_number fault number
segment_fault_number (segment.Overlay fault) number = overlay_number fault number
segment_fault_number fault number = number

-- the number of a call's error, or the previous number if it has none
abbrev pub call_number : CallFault → ℕ → ℕ
call_number (call.Segment fault) number = segment_fault_number fault number
call_number fault number = number

-- the number of a result's error, or the previous number if it has none
abbrev pub result_number : {T : Type 0} → Result T CallFault → ℕ → ℕ
result_number (Ok x) number = number
result_number (Err fault) number = call_number fault number
