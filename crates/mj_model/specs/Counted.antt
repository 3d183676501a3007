-- The fields of a counted reader or writer.
use Rattle.std.specs.Prelude.{ℕ, Bool}
use Rattle.mj_model.specs.declared.counted.Counted.{Counted}

abbrev pub counted_inner : {T : Type 0} → Counted T → T
counted_inner c = c.inner

abbrev pub counted_reads : {T : Type 0} → Counted T → ℕ
counted_reads c = c.reads

abbrev pub counted_ends : {T : Type 0} → Counted T → ℕ
counted_ends c = c.ends

abbrev pub counted_failures : {T : Type 0} → Counted T → ℕ
counted_failures c = c.failures

abbrev pub counted_flushes : {T : Type 0} → Counted T → ℕ
counted_flushes c = c.flushes

abbrev pub counted_unflushed : {T : Type 0} → Counted T → Bool
counted_unflushed c = c.unflushed
