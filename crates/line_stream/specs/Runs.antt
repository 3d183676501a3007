-- How a run over a stream ends: what it read, what it wrote, and why it stopped.
use Rattle.std.specs.Prelude.{◌≡◌, ℕ, ◌+◌, ◌-◌, ◌≤◌, Bool, true, false, nat_lt, if◌then◌else◌, List, [], ◌++◌, length, Some, Result, Ok, Err, ◌⊎◌}
use Rattle.std.specs.Io.KnownBytes.{Consumes, Appends, IsAtEnd}
use Rattle.mj_model.specs.Counts.{MayBeRead, MayBeWritten, ReaderState, WriterState}
use Rattle.mj_model.specs.declared.limits.TheConstants.{SENTENCE_MAX}
use Rattle.mj_model.specs.declared.run_fault.RunFault.{RunFault}
use Rattle.line_stream.specs.declared.line_fault.StreamFault.{StreamFault}
use Rattle.line_stream.specs.declared.line_fault.StreamFault.TheVariants as stream
use Rattle.mj_model.specs.Output.{Output, text_lines}
use Rattle.mj_model.specs.TextLines.{complete_lines, unfinished_line}
use Rattle.line_stream.specs.declared.reading.TheConstants.{BUFFER_SIZE}
use Rattle.line_stream.specs.declared.line_fault.LineFault.{LineFault}
use Rattle.line_stream.specs.declared.line_fault.LineFault.TheVariants.{TooLong, NotUtf8}
use Rattle.line_stream.specs.declared.line_fault.LineError.TheVariants.{Bad, Memory}
use Rattle.line_stream.specs.LineErrors.{run_fault}
use Rattle.line_stream.specs.StreamState.{AllPrint, HasNext}

-- a run may start: no counter of the reader or the writer is close to overflow
abbrev pub MayRun : ReaderState → WriterState → Type 0
MayRun reader writer = MayBeRead reader × MayBeWritten writer

-- the counters of a reader and a writer before or after a run
pub record RunState : Type 0 where
  pub reads : ℕ
  pub ends : ℕ
  pub read_failures : ℕ
  pub write_failures : ℕ
  pub flushes : ℕ
  pub unflushed : Bool

-- the counters in the state of a reader and the state of a writer
abbrev pub run_state : ReaderState → WriterState → RunState
run_state reader writer = record {
  reads = reader.reads;
  ends = reader.ends;
  read_failures = reader.failures;
  write_failures = writer.failures;
  flushes = writer.flushes;
  unflushed = writer.unflushed;
}

-- no call failed
pub record NoFailure (before after : RunState) : Type 0 where
  pub no_read : after.read_failures ≡ before.read_failures
  pub no_write : after.write_failures ≡ before.write_failures

-- one read failed, and no other call
pub record OneReadFailed (before after : RunState) : Type 0 where
  pub one_read : after.read_failures ≡ before.read_failures + 1
  pub no_write : after.write_failures ≡ before.write_failures

-- one write or flush failed, and no other call
pub record OneWriteFailed (before after : RunState) : Type 0 where
  pub no_read : after.read_failures ≡ before.read_failures
  pub one_write : after.write_failures ≡ before.write_failures + 1

-- nothing was flushed
abbrev pub NoFlush : RunState → RunState → Type 0
NoFlush before after = after.flushes ≡ before.flushes

-- no read had an empty buffer: each returned a byte at least, met the end of the input, or failed
abbrev pub NoEmptyRead : List ℕ → RunState → RunState → Type 0
NoEmptyRead bytes before after =
    after.reads ≤ before.reads + length bytes + (after.ends - before.ends) + (after.read_failures - before.read_failures)

-- as many reads were made as the bound allows, and each returned a byte at least
pub record BoundPassed (bound : ℕ) (bytes : List ℕ) (before after : RunState) : Type 0 where
  pub reads : after.reads ≡ before.reads + bound
  pub gave : bound ≤ length bytes

-- a read met the end of the input
abbrev pub has_ended : RunState → RunState → Bool
has_ended before after = nat_lt before.ends after.ends

-- the complete lines of what was read: those that end with an LF, and after the end of the input
-- also the last one without
abbrev pub lines_read : Bool → List ℕ → List (List ℕ)
lines_read ended bytes = if ended then text_lines bytes else complete_lines bytes

-- all that was read is processed, except for the bytes `last`, which are at most one read: the
-- lines that end before them printed, their output is written, and the unfinished line there is not
-- too long
pub record ProcessedAll (Reports : List ℕ → Result (List ℕ) LineFault → Type 0) (bytes written : List ℕ) : Type 0 where
  pub front : List ℕ
  pub last : List ℕ
  pub text : List ℕ
  pub more : List ℕ
  pub parts : bytes ≡ front ++ last
  pub one_read : length last ≤ BUFFER_SIZE
  pub printed : AllPrint Reports 1 (complete_lines front) text
  pub wrote : written ≡ text ++ more
  pub short : length (unfinished_line front) ≤ SENTENCE_MAX

-- all lines printed, and their output is written and then flushed once
pub record Completed (Reports : List ℕ → Result (List ℕ) LineFault → Type 0)
    (bytes written : List ℕ) (before after : RunState) (lines : ℕ) : Type 0 where
  pub printed : AllPrint Reports 1 (text_lines bytes) written
  pub counted : lines ≡ length (text_lines bytes)
  pub ended : after.ends ≡ before.ends + 1
  pub one_flush : after.flushes ≡ before.flushes + 1
  pub flushed : after.unflushed ≡ false

-- no read met the end; all complete lines printed; `line` is the number of the next one, which is
-- not too long yet
pub record StoppedAfter (Reports : List ℕ → Result (List ℕ) LineFault → Type 0)
    (bytes written : List ℕ) (before after : RunState) (line : ℕ) : Type 0 where
  pub no_end : after.ends ≡ before.ends
  pub printed : AllPrint Reports 1 (complete_lines bytes) written
  pub number : line ≡ length (complete_lines bytes) + 1
  pub short : length (unfinished_line bytes) ≤ SENTENCE_MAX

-- what was written is a prefix of the output of some first lines of `all`
pub record IsPrefixWritten (Reports : List ℕ → Result (List ℕ) LineFault → Type 0)
    (all : List (List ℕ)) (written : List ℕ) (sent : ℕ) : Type 0 where
  pub lines : List (List ℕ)
  pub more : List (List ℕ)
  pub text : List ℕ
  pub left : List ℕ
  pub first : all ≡ lines ++ more
  pub printed : AllPrint Reports 1 lines text
  pub front : text ≡ written ++ left
  pub count : sent ≡ length written

-- the run did not flush, or flushed once, at the end of the input after all output
abbrev pub FlushesLast : (List ℕ → Result (List ℕ) LineFault → Type 0) → List ℕ → List ℕ → RunState → RunState → Type 0
FlushesLast Reports bytes written before after =
    NoFlush before after
    ⊎ ((after.flushes ≡ before.flushes + 1) × (after.ends ≡ before.ends + 1) × AllPrint Reports 1 (text_lines bytes) written)

-- some first lines of `all` printed and their output is written; `line` is the number of the next
-- one. That line exists and is not too long, unless nothing was read
pub record OutOfMemory (Reports : List ℕ → Result (List ℕ) LineFault → Type 0)
    (bytes : List ℕ) (all : List (List ℕ)) (written : List ℕ) (line : ℕ) : Type 0 where
  pub lines : List (List ℕ)
  pub more : List (List ℕ)
  pub first : all ≡ lines ++ more
  pub printed : AllPrint Reports 1 lines written
  pub number : line ≡ length lines + 1
  pub next : (bytes ≡ []) ⊎ HasNext bytes lines

-- the lines before the first invalid one printed, and their output is written
abbrev pub IsBad : (List ℕ → Result (List ℕ) LineFault → Type 0) → List (List ℕ) → List ℕ → ℕ → LineFault → Type 0
IsBad Reports lines written number fault = Output Reports 1 lines written (Some (record { number = number; fault = fault }))

-- how a run that read `bytes` and wrote `written` ends, for each result
abbrev pub RunEnding : (List ℕ → Result (List ℕ) LineFault → Type 0) → ℕ → List ℕ → List ℕ → RunState → RunState → Result ℕ StreamFault → Type 0
RunEnding Reports bound bytes written before after (Ok lines) =
    Completed Reports bytes written before after lines × NoFailure before after
RunEnding Reports bound bytes written before after (Err (stream.Read line)) =
    StoppedAfter Reports bytes written before after line × OneReadFailed before after × NoFlush before after
RunEnding Reports bound bytes written before after (Err (stream.Write sent)) =
    IsPrefixWritten Reports (lines_read (has_ended before after) bytes) written sent × OneWriteFailed before after
    × FlushesLast Reports bytes written before after
RunEnding Reports bound bytes written before after (Err (stream.Line line (Bad NotUtf8))) =
    IsBad Reports (lines_read (has_ended before after) bytes) written line NotUtf8 × NoFailure before after × NoFlush before after
RunEnding Reports bound bytes written before after (Err (stream.Line line (Bad TooLong))) =
    IsBad Reports (text_lines bytes) written line TooLong × NoFailure before after × NoFlush before after
RunEnding Reports bound bytes written before after (Err (stream.InputTooLong line)) =
    StoppedAfter Reports bytes written before after line × BoundPassed bound bytes before after × NoFailure before after × NoFlush before after
RunEnding Reports bound bytes written before after (Err (stream.Line line Memory)) =
    OutOfMemory Reports bytes (lines_read (has_ended before after) bytes) written line × NoFailure before after × NoFlush before after

-- the outcome of a run over a stream: what it read, in at most `bound` reads and with no empty buffer; what it
-- wrote; that it processed what it read; how it ended; and that the reader is at its end if a read
-- met the end
pub record StreamOutcome (Reports : List ℕ → Result (List ℕ) LineFault → Type 0) (bound : ℕ) (from to : ReaderState) (before after : WriterState)
    (result : Result ℕ StreamFault) : Type 0 where
  pub bytes : List ℕ
  pub written : List ℕ
  pub read : Consumes from.left to.left bytes
  pub wrote : Appends before.held after.held written
  pub few_reads : to.reads ≤ from.reads + bound
  pub no_empty_read : NoEmptyRead bytes (run_state from before) (run_state to after)
  pub worked : ProcessedAll Reports bytes written
  pub ends : RunEnding Reports bound bytes written (run_state from before) (run_state to after) result
  pub to_the_end : has_ended (run_state from before) (run_state to after) ≡ true → IsAtEnd to.left

-- the outcome of a run: that of its stream, whose error is reported as an error of the run
abbrev pub RunOutcome : (List ℕ → Result (List ℕ) LineFault → Type 0) → ℕ → ReaderState → ReaderState → WriterState → WriterState → Result ℕ RunFault → Type 0
RunOutcome Reports bound from to before after (Ok lines) = StreamOutcome Reports bound from to before after (Ok lines)
RunOutcome Reports bound from to before after (Err reported) =
    (fault : StreamFault) × (reported ≡ run_fault fault) × StreamOutcome Reports bound from to before after (Err fault)
