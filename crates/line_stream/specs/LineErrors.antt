-- What the error of a line reports, and how the error of a stream becomes the error of a run.
use Rattle.mj_model.specs.declared.run_fault.RunFault.{RunFault}
use Rattle.mj_model.specs.declared.run_fault.RunFault.TheVariants as run
use Rattle.line_stream.specs.declared.line_fault.LineFault.{LineFault}
use Rattle.line_stream.specs.declared.line_fault.LineFault.TheVariants.{TooLong, NotUtf8}
use Rattle.line_stream.specs.declared.line_fault.LineError.{LineError}
use Rattle.line_stream.specs.declared.line_fault.LineError.TheVariants.{Bad, Memory}
use Rattle.line_stream.specs.declared.line_fault.StreamFault.{StreamFault}
use Rattle.line_stream.specs.declared.line_fault.StreamFault.TheVariants as stream

-- the error of a run whose stream failed with this error
abbrev pub run_fault : StreamFault → RunFault
run_fault (stream.Read line) = run.Read line
run_fault (stream.Write sent) = run.Write sent
run_fault (stream.Line line (Bad TooLong)) = run.TooLong line
run_fault (stream.Line line (Bad NotUtf8)) = run.NotUtf8 line
run_fault (stream.Line line Memory) = run.Memory line
run_fault (stream.InputTooLong line) = run.InputTooLong line

-- an error of the line fulfils `IsFault`; out of memory is always possible
abbrev pub ReportsFault : (LineFault → Type 0) → LineError → Type 0
ReportsFault IsFault (Bad fault) = IsFault fault
ReportsFault IsFault Memory = Unit {0}

-- an error of the line fulfils `IsFault`; if memory ran out, `IfMemory` holds
abbrev pub ReportsOr : Type 0 → (LineFault → Type 0) → LineError → Type 0
ReportsOr IfMemory IsFault (Bad fault) = IsFault fault
ReportsOr IfMemory IsFault Memory = IfMemory
