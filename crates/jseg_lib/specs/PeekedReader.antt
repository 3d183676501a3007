-- A reader whose first read was made in advance.
use Rattle.std.specs.Prelude.{ℕ, ◌≡◌, ◌+◌, ◌-◌, ◌^◌, min, false, List, [], Option, None, Some, Result, if◌then◌else◌, option_map}
use Rattle.std.specs.Fmt.{option_append}
use Rattle.std.specs.Io.Cursor.{cursor_remaining}
use Rattle.mj_model.specs.Counts.{ReaderState, end_in, failed_read}
use Rattle.jseg_lib.specs.declared.peeked_read.PeekedRead.{PeekedRead}
use Rattle.jseg_lib.specs.declared.peeked_reader.PeekedReader.{PeekedReader}

-- ---- the kept result of a read

-- the bytes of the read that are not replayed yet
abbrev pub bytes_left : PeekedRead → Option (List ℕ)
bytes_left kept = cursor_remaining (λ v. Some v.items) kept.bytes

-- the bytes that remain to be read if `rest` follows what is kept: none if the read found the end
abbrev pub remaining_with : PeekedRead → Option (List ℕ) → Option (List ℕ)
remaining_with kept rest = if kept.is_ended then option_map (λ bytes. []) rest else option_append (bytes_left kept) rest

-- nothing is kept, or all of it was replayed
pub record IsReplayed (kept : PeekedRead) : Type 0 where
  pub no_fault : kept.failed ≡ None
  pub no_end : kept.is_ended ≡ false
  pub no_bytes : bytes_left kept ≡ Some []

-- the number of errors in an option: 1 or 0
abbrev pub faults_in : {E : Type 0} → Option E → ℕ
faults_in None = 0
faults_in (Some fault) = 1

-- ---- the reader

-- the underlying reader
abbrev pub reader_of : {R : Type 0} → PeekedReader R → R
reader_of started = started.reader

-- the bytes that remain to be read, if they are known
abbrev pub remaining_of : {R : Type 0} → (R → Option (List ℕ)) → PeekedReader R → Option (List ℕ)
remaining_of rest started = remaining_with started.kept (rest started.reader)

-- 1 if the first read found the end, else 0
abbrev pub peeked_end : {R : Type 0} → PeekedReader R → ℕ
peeked_end started = if started.kept.is_ended then 1 else 0

-- 1 if an error of the first read is kept, else 0
abbrev pub peeked_fault : {R : Type 0} → PeekedReader R → ℕ
peeked_fault started = faults_in started.kept.failed

-- since `before`, the counts of the reader grew by an end if one is kept, and by a failure if one
-- is kept
abbrev pub CountsSincePeek : {R : Type 0} → (R → ReaderState) → ReaderState → PeekedReader R → Type 0
CountsSincePeek reported before started =
    ((reported (reader_of started)).ends ≡ before.ends + peeked_end started)
    × ((reported (reader_of started)).failures ≡ before.failures + peeked_fault started)

-- nothing was replayed yet
abbrev pub IsUnreplayed : {R : Type 0} → PeekedReader R → Type 0
IsUnreplayed started = started.replays ≡ record { reads = 0; ends = 0; failures = 0 }

-- the sum of two counts, at most `u64::MAX`
abbrev pub sum_of : ℕ → ℕ → ℕ
sum_of calls replays = min (calls + replays) (2 ^ 64 - 1)

-- the state of the underlying reader, and what is kept; calls that replayed the first read count
-- too
abbrev pub peeked_state : {R : Type 0} → (R → ReaderState) → PeekedReader R → ReaderState
peeked_state reported started = record {
  left = remaining_with started.kept (reported started.reader).left;
  reads = sum_of (reported started.reader).reads started.replays.reads;
  ends = sum_of (reported started.reader).ends started.replays.ends;
  failures = sum_of (reported started.reader).failures started.replays.failures;
}

-- no read was counted yet
pub record IsUncounted (reported : ReaderState) : Type 0 where
  pub reads : reported.reads ≡ 0
  pub ends : reported.ends ≡ 0
  pub failures : reported.failures ≡ 0

-- one read with this result was made
pub record IsOneRead {E : Type 0} (before after : ReaderState) (result : Result ℕ E) (room : ℕ) : Type 0 where
  pub reads : after.reads ≡ before.reads + 1
  pub ends : after.ends ≡ before.ends + end_in result room
  pub failures : after.failures ≡ before.failures + failed_read result
