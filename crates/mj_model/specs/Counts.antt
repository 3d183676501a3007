-- The states of a reader and a writer: the bytes that remain or were written, and the counts of
-- calls.
use Rattle.std.specs.Prelude.{ℕ, ◌<◌, ◌^◌, ◌-◌, List, Option, Bool, false, nat_lt, ◌==◌, ◌&&◌, ◌||◌, if◌then◌else◌, Result, Ok, Err}

-- 1 for a read at the end of the input: it returned no byte although the buffer had room
abbrev pub end_in : {E : Type 0} → Result ℕ E → ℕ → ℕ
end_in (Ok n) room = if n == 0 && nat_lt 0 room then 1 else 0
end_in (Err e) room = 0

-- 1 for a read that failed
abbrev pub failed_read : {E : Type 0} → Result ℕ E → ℕ
failed_read (Ok n) = 0
failed_read (Err e) = 1

-- 1 for a write that failed, or that accepted none of at least one byte
abbrev pub failed_write : {E : Type 0} → Result ℕ E → ℕ → ℕ
failed_write (Ok n) given = if n == 0 && nat_lt 0 given then 1 else 0
failed_write (Err e) given = 1

-- 1 for a flush that failed
abbrev pub failed_flush : {T E : Type 0} → Result T E → ℕ
failed_flush (Ok x) = 0
failed_flush (Err e) = 1

-- whether bytes were accepted since the last successful flush, after one more write
abbrev pub unflushed_after_write : {E : Type 0} → Bool → Result ℕ E → Bool
unflushed_after_write before (Ok n) = before || nat_lt 0 n
unflushed_after_write before (Err e) = before

-- whether bytes were accepted since the last successful flush, after one more flush
abbrev pub unflushed_after_flush : {T E : Type 0} → Bool → Result T E → Bool
unflushed_after_flush before (Ok x) = false
unflushed_after_flush before (Err e) = before

-- a count below `u64::MAX`
abbrev pub CanRise : ℕ → Type 0
CanRise count = count < 2 ^ 64 - 1

-- the state of a reader: the remaining bytes, if they are known, the number of reads, of reads at
-- the end of the input, and of failed reads
pub record ReaderState : Type 0 where
  pub left : Option (List ℕ)
  pub reads : ℕ
  pub ends : ℕ
  pub failures : ℕ

-- the state of a writer: the bytes written, if they are known, the number of failed writes and
-- flushes, the number of flushes, and whether a write accepted bytes after the last successful
-- flush
pub record WriterState : Type 0 where
  pub held : Option (List ℕ)
  pub failures : ℕ
  pub flushes : ℕ
  pub unflushed : Bool

-- the counts leave room for a run
abbrev pub MayBeRead : ReaderState → Type 0
MayBeRead reported = (reported.reads < 2 ^ 63) × (reported.ends < 2 ^ 63) × (reported.failures < 2 ^ 63)

abbrev pub MayBeWritten : WriterState → Type 0
MayBeWritten reported = (reported.failures < 2 ^ 63) × (reported.flushes < 2 ^ 63)
