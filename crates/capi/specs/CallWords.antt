-- The code and the name of each error of a call.
use Rattle.std.specs.Prelude.{codes}
use Rattle.mj_model.specs.FaultWords.{Words}
use Rattle.line_segmenter.specs.FaultWords.{segment_fault_words}
use Rattle.capi.specs.declared.fault.CallFault.{CallFault}
use Rattle.capi.specs.declared.fault.CallFault.TheVariants as call

-- the code and the name of an error
abbrev pub call_words : CallFault → Words
call_words (call.Segment fault) = segment_fault_words fault
call_words call.EmptySegmenter = record { code = codes "K5"; name = codes "EmptySegmenter" }
call_words call.FullSegmenter = record { code = codes "K6"; name = codes "FullSegmenter" }
call_words call.ShortBuffer = record { code = codes "K7"; name = codes "ShortBuffer" }
