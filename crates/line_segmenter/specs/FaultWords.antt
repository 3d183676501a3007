-- The code and name of each error of a segmenter, as they are printed, and how the errors of its
-- parts map to its own.
use Rattle.std.specs.Prelude.{codes}
use Rattle.mj_model.specs.declared.format_fault.FormatFault.{FormatFault}
use Rattle.mj_model.specs.declared.format_fault.FormatFault.TheVariants as format
use Rattle.mj_model.specs.declared.image_fault.ImageFault.{ImageFault}
use Rattle.mj_model.specs.declared.image_fault.ImageFault.TheVariants as image
use Rattle.mj_model.specs.FaultWords.{Words, format_words}
use Rattle.mj_model.specs.ImageFaultWords.{image_words, overlay_words}
use Rattle.line_stream.specs.declared.line_fault.LineFault.{LineFault}
use Rattle.line_stream.specs.declared.line_fault.LineFault.TheVariants.{TooLong, NotUtf8}
use Rattle.line_stream.specs.declared.line_fault.LineError.{LineError}
use Rattle.line_stream.specs.declared.line_fault.LineError.TheVariants as line
use Rattle.line_segmenter.specs.declared.fault.SegmentFault.{SegmentFault}
use Rattle.line_segmenter.specs.declared.fault.SegmentFault.TheVariants as segment

-- the code and name of an error
abbrev pub segment_fault_words : SegmentFault → Words
segment_fault_words (segment.Image fault) = image_words fault
segment_fault_words (segment.Overlay fault) = overlay_words fault
segment_fault_words (segment.Format fault) = format_words fault
segment_fault_words segment.NotUtf8 = record { code = codes "G3"; name = codes "NotUtf8" }
segment_fault_words segment.TooLong = record { code = codes "G4"; name = codes "TooLong" }
segment_fault_words (segment.LineFeed place) = record { code = codes "K1"; name = codes "LineFeed" }
segment_fault_words segment.NothingSegmented = record { code = codes "K2"; name = codes "NothingSegmented" }
segment_fault_words segment.Shared = record { code = codes "K3"; name = codes "Shared" }
segment_fault_words segment.BadGrouping = record { code = codes "K4"; name = codes "BadGrouping" }
segment_fault_words (segment.NoWord i) = record { code = codes "K8"; name = codes "NoWord" }
segment_fault_words segment.Memory = record { code = codes "Memory"; name = codes "Memory" }

-- the error for an error of an image; there is one error for out of memory
abbrev pub of_image_fault : ImageFault → SegmentFault
of_image_fault image.Memory = segment.Memory
of_image_fault fault = segment.Image fault

-- the error for an error of a line
abbrev pub of_line_fault : LineFault → SegmentFault
of_line_fault TooLong = segment.TooLong
of_line_fault NotUtf8 = segment.NotUtf8

-- the error for a line that was not printed
abbrev pub of_line_error : LineError → SegmentFault
of_line_error (line.Bad fault) = of_line_fault fault
of_line_error line.Memory = segment.Memory

-- the error for an error of a format
abbrev pub of_format_fault : FormatFault → SegmentFault
of_format_fault format.Memory = segment.Memory
of_format_fault fault = segment.Format fault
