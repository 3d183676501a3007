-- Runs in which nothing fails: every line is valid, no call fails, and the input ends within the
-- bound on reads.
use Rattle.std.specs.Prelude.{◌≡◌, ℕ, ◌+◌, ◌<◌, ◌⊎◌, true, List, length, All, Some, Result, Ok, Err}
use Rattle.mj_model.specs.Counts.{ReaderState, WriterState}
use Rattle.mj_model.specs.declared.run_fault.RunFault.{RunFault}
use Rattle.mj_model.specs.declared.run_fault.RunFault.TheVariants as run
use Rattle.mj_model.specs.Output.{text_lines}
use Rattle.line_stream.specs.GoodLines.{IsGood}
use Rattle.line_stream.specs.Runs.{RunState, NoFailure, run_state, has_ended}

-- the input ends within the bound: the text has fewer bytes than `bound`, or the end was met if
-- `bound` reads were made
abbrev pub EndsWithin : ℕ → List ℕ → RunState → RunState → Type 0
EndsWithin bound text before after =
    (length text < bound) ⊎ (after.reads ≡ before.reads + bound → has_ended before after ≡ true)

-- the text of the reader is known and its lines are valid, no call failed, and the input ended
-- within the bound
pub record NothingFails (bound : ℕ) (from to : ReaderState) (before after : WriterState) : Type 0 where
  pub text : List ℕ
  pub reported : from.left ≡ Some text
  pub good : All IsGood (text_lines text)
  pub no_failure : NoFailure (run_state from before) (run_state to after)
  pub ends : EndsWithin bound text (run_state from before) (run_state to after)

-- the run succeeded or ran out of memory
abbrev pub IsOkOrMemory : Result ℕ RunFault → Type 0
IsOkOrMemory (Ok lines) = Unit {0}
IsOkOrMemory (Err (run.Memory line)) = Unit {0}
IsOkOrMemory (Err fault) = ⊥
