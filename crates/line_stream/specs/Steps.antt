-- One step of a run: processing the bytes of one read, or the end of the input, and writing the
-- output.
use Rattle.std.specs.Prelude.{◌≡◌, ℕ, ◌+◌, ◌≤◌, List, [], ◌∷◌, ◌++◌, length, take, Option, Result, Err, ◌⊎◌}
use Rattle.std.specs.Io.KnownBytes.{Appends}
use Rattle.mj_model.specs.Counts.{WriterState}
use Rattle.mj_model.specs.declared.limits.TheConstants.{SENTENCE_MAX}
use Rattle.line_stream.specs.declared.line_fault.StreamFault.{StreamFault}
use Rattle.line_stream.specs.declared.line_fault.StreamFault.TheVariants as stream
use Rattle.line_stream.specs.declared.line_fault.LineFault.{LineFault}
use Rattle.line_stream.specs.declared.line_fault.LineError.{LineError}
use Rattle.line_stream.specs.LineErrors.{ReportsOr}
use Rattle.line_stream.specs.StreamState.{AllPrint}

-- the bytes that a writer holds and its counts of failures and flushes, before and after a step
pub record Step : Type 0 where
  pub held_before : Option (List ℕ)
  pub held_after : Option (List ℕ)
  pub failures_before : ℕ
  pub failures_after : ℕ
  pub flushes_before : ℕ
  pub flushes_after : ℕ

-- the step between two states of a writer
abbrev pub step_of : WriterState → WriterState → Step
step_of from to = record {
  held_before = from.held;
  held_after = to.held;
  failures_before = from.failures;
  failures_after = to.failures;
  flushes_before = from.flushes;
  flushes_after = to.flushes;
}

-- the lines after the first `before` ones printed, and their output is written
pub record Stepped (Reports : List ℕ → Result (List ℕ) LineFault → Type 0)
    (before : ℕ) (lines : List (List ℕ)) (after : ℕ) (step : Step) (sent_before sent_after : ℕ) : Type 0 where
  pub text : List ℕ
  pub print : AllPrint Reports (before + 1) lines text
  pub counted : after ≡ before + length lines
  pub wrote : Appends step.held_before step.held_after text
  pub sent : sent_after ≡ sent_before + length text
  pub no_failure : step.failures_after ≡ step.failures_before

-- the lines after the first `before` ones printed; a prefix of the waiting output and theirs is
-- written, and the remainder waits
pub record Advanced (Reports : List ℕ → Result (List ℕ) LineFault → Type 0) (before : ℕ) (waited : List ℕ)
    (lines : List (List ℕ)) (after : ℕ) (waits : List ℕ) (step : Step) (sent_before sent_after : ℕ) : Type 0 where
  pub text : List ℕ
  pub written : List ℕ
  pub print : AllPrint Reports (before + 1) lines text
  pub counted : after ≡ before + length lines
  pub parts : waited ++ text ≡ written ++ waits
  pub wrote : Appends step.held_before step.held_after written
  pub sent : sent_after ≡ sent_before + length written
  pub no_failure : step.failures_after ≡ step.failures_before

-- some first lines printed, and `written` is a prefix of the waiting output and theirs
pub record IsTruncatedAt (Reports : List ℕ → Result (List ℕ) LineFault → Type 0)
    (before : ℕ) (waited : List ℕ) (lines : List (List ℕ)) (written : List ℕ) : Type 0 where
  pub done : List (List ℕ)
  pub more : List (List ℕ)
  pub text : List ℕ
  pub left : List ℕ
  pub first : lines ≡ done ++ more
  pub print : AllPrint Reports (before + 1) done text
  pub front : waited ++ text ≡ written ++ left

-- a write failed
pub record WriteStopped (Reports : List ℕ → Result (List ℕ) LineFault → Type 0)
    (before : ℕ) (waited : List ℕ) (lines : List (List ℕ)) (step : Step) (sent_before : ℕ) (fault : StreamFault) : Type 0 where
  pub written : List ℕ
  pub wrote : Appends step.held_before step.held_after written
  pub truncated : IsTruncatedAt Reports before waited lines written
  pub fault_is : fault ≡ stream.Write (sent_before + length written)
  pub failure : step.failures_after ≡ step.failures_before + 1

-- an error of a line stopped the step, and the waiting output and that of the lines before it are
-- written
pub record LineStopped (Reports : List ℕ → Result (List ℕ) LineFault → Type 0)
    (Cause : List (List ℕ) → LineError → Type 0) (before : ℕ) (waited : List ℕ) (step : Step) (fault : StreamFault) : Type 0 where
  pub text : List ℕ
  pub wrote : Appends step.held_before step.held_after (waited ++ text)
  pub done : List (List ℕ)
  pub print : AllPrint Reports (before + 1) done text
  pub error : LineError
  pub fault_is : fault ≡ stream.Line (before + length done + 1) error
  pub cause : Cause done error
  pub no_failure : step.failures_after ≡ step.failures_before

-- a write failed, or a line had an error

abbrev pub StepStopped : (List ℕ → Result (List ℕ) LineFault → Type 0)
    → (List (List ℕ) → LineError → Type 0) → ℕ → List ℕ → List (List ℕ) → Step → ℕ → StreamFault → Type 0
StepStopped Reports Cause before waited lines step sent_before fault =
    WriteStopped Reports before waited lines step sent_before fault ⊎ LineStopped Reports Cause before waited step fault

-- an error stopped the step, and the waiting output is written, or a prefix of it if a write failed
abbrev pub WaitingStopped : List ℕ → LineError → ℕ → Step → ℕ → StreamFault → Type 0
WaitingStopped waited error line step sent_before fault =
    ((n : ℕ) × (n ≤ length waited) × Appends step.held_before step.held_after (take n waited)
    × (fault ≡ stream.Write (sent_before + n)) × (step.failures_after ≡ step.failures_before + 1))
    ⊎ ((fault ≡ stream.Line line error) × Appends step.held_before step.held_after waited
    × (step.failures_after ≡ step.failures_before))

-- the lines printed and their output is written, but the flush after it failed
pub record FlushStopped (Reports : List ℕ → Result (List ℕ) LineFault → Type 0)
    (before : ℕ) (lines : List (List ℕ)) (step : Step) (sent_before : ℕ) (fault : StreamFault) : Type 0 where
  pub text : List ℕ
  pub print : AllPrint Reports (before + 1) lines text
  pub wrote : Appends step.held_before step.held_after text
  pub fault_is : fault ≡ stream.Write (sent_before + length text)
  pub failure : step.failures_after ≡ step.failures_before + 1
  pub flush : step.flushes_after ≡ step.flushes_before + 1

-- the last step stopped before its flush or at it
abbrev pub EndStopped : (List ℕ → Result (List ℕ) LineFault → Type 0)
    → (List (List ℕ) → LineError → Type 0) → ℕ → List (List ℕ) → Step → ℕ → StreamFault → Type 0
EndStopped Reports Cause before lines step sent_before fault =
    (StepStopped Reports Cause before [] lines step sent_before fault × (step.flushes_after ≡ step.flushes_before))
    ⊎ FlushStopped Reports before lines step sent_before fault

-- the last line of a text if it lacks its LF, as a list
abbrev pub last_line : List ℕ → List (List ℕ)
last_line [] = []
last_line (c ∷ cs) = (c ∷ cs) ∷ []

-- `line` had an error
pub record IsLineCause (Reports : List ℕ → Result (List ℕ) LineFault → Type 0) (line : List ℕ) (done : List (List ℕ)) (error : LineError) : Type 0 where
  pub none_before : done ≡ []
  pub reports : ReportsOr (length line ≤ SENTENCE_MAX) (λ fault. Reports line (Err fault)) error

-- the last line, which lacks its LF, had an error
pub record IsLastCause (Reports : List ℕ → Result (List ℕ) LineFault → Type 0) (tail : List ℕ) (done : List (List ℕ)) (error : LineError) : Type 0 where
  pub none_before : done ≡ []
  pub there : last_line tail ≡ tail ∷ []
  pub reports : ReportsOr (length tail ≤ SENTENCE_MAX) (λ fault. Reports tail (Err fault)) error
