-- How a run ends, given what it read and wrote before.
use Rattle.std.proofs.Common.{◌≡◌, ℕ, ◌+◌, ◌<◌, ◌≤◌, ◌^◌, true, false, List, [], ◌∷◌, ◌++◌, length, refl, sym, ap, ◌∙◌, subst, arith, append_assoc, append-nil, length-append, inl, inr}
use Rattle.std.specs.Prelude.{Option, None, Result, Ok, Err, IfOk, IfErr, OnOk, nat_lt}
use Rattle.std.proofs.lemmas.Bool.{lt-ltb, le-ltb}
use Rattle.std.specs.Io.KnownBytes.{Appends, Consumes, IsAtEnd, Keeps}
use Rattle.std.proofs.KnownBytes.{Appends-trans, Consumes-trans, Consumes-kept}
use Rattle.mj_model.specs.Counts.{ReaderState, WriterState}
use Rattle.line_stream.specs.declared.line_fault.StreamFault.{StreamFault}
use Rattle.line_stream.specs.declared.line_fault.StreamFault.TheVariants as stream
use Rattle.mj_model.specs.declared.limits.TheConstants.{SENTENCE_MAX}
use Rattle.mj_model.specs.Output.{text_lines}
use Rattle.mj_model.specs.TextLines.{complete_lines, unfinished_line}
use Rattle.line_stream.specs.declared.line_fault.LineFault.{LineFault}
use Rattle.line_stream.specs.declared.line_fault.LineFault.TheVariants.{TooLong, NotUtf8}
use Rattle.line_stream.specs.declared.line_fault.LineError.{LineError}
use Rattle.line_stream.specs.declared.line_fault.LineError.TheVariants.{Bad, Memory}
use Rattle.line_stream.specs.StreamState.{AllPrint, HasNext, IsCause}
use Rattle.line_stream.specs.Steps.{Stepped, StepStopped, EndStopped, last_line, IsLastCause}
use Rattle.line_stream.specs.Runs.{RunState, NoEmptyRead, NoFailure, NoFlush, FlushesLast, OutOfMemory, IsBad, RunEnding, StoppedAfter, ProcessedAll, StreamOutcome, run_state, has_ended, lines_read}
use Rattle.line_stream.proofs.PieceLemmas.{unfinished_line-append}
use Rattle.line_stream.proofs.RunWork.{Running, last_there, next_on, print_on, turn_step, whole_on, text_lines-parts}
use Rattle.line_stream.proofs.PrintedAfter.{bad_after}

-- (A ++ (D ++ M)) ++ T is (A ++ D) ++ (M ++ T)
regroup : {X : Type 0} (us ds ms ts : List X) → (us ++ (ds ++ ms)) ++ ts ≡ (us ++ ds) ++ (ms ++ ts)
regroup us ds ms ts = ap (λ z. z ++ ts) (sym (append_assoc us ds ms)) ∙ append_assoc (us ++ ds) ms ts

first_lines : (bytes piece pending : List ℕ) (done more : List (List ℕ)) → pending ≡ unfinished_line bytes → complete_lines (pending ++ piece) ≡ done ++ more
    → text_lines (bytes ++ piece) ≡ (complete_lines bytes ++ done) ++ (more ++ last_line (unfinished_line (bytes ++ piece)))
first_lines bytes piece pending done more e front =
    text_lines-parts (bytes ++ piece)
    ∙ ap (λ z. z ++ last_line (unfinished_line (bytes ++ piece))) (whole_on bytes piece pending e ∙ ap (λ z. complete_lines bytes ++ z) front)
    ∙ regroup (complete_lines bytes) done more (last_line (unfinished_line (bytes ++ piece)))

last_lines : (bytes pending : List ℕ) → pending ≡ unfinished_line bytes → text_lines bytes ≡ complete_lines bytes ++ last_line pending
last_lines bytes pending e = text_lines-parts bytes ∙ ap (λ o. complete_lines bytes ++ last_line o) (sym e)

ltb_same : (n : ℕ) → nat_lt n n ≡ false
ltb_same n = le-ltb n n (omega arith)

-- the reader is at its end if a read met the end
abbrev pub AtItsEnd : Option (List ℕ) → RunState → RunState → Type 0
AtItsEnd left before after = has_ended before after ≡ true → IsAtEnd left

not_at_end : (left : Option (List ℕ)) (before after : RunState) → after.ends ≡ before.ends → AtItsEnd left before after
not_at_end left before after same = λ ended.
    let clash : true ≡ false = sym ended ∙ ap (λ n. nat_lt before.ends n) same ∙ ltb_same before.ends in absurd (cc)

module _ (Reports : List ℕ → Result (List ℕ) LineFault → Type 0) (bound : ℕ) where
  -- how a run ends, with what it read and wrote
  pub record RanSo (left0 left1 held0 held1 : Option (List ℕ)) (before after : RunState) (result : Result ℕ StreamFault) : Type 0 where
    pub bytes : List ℕ
    pub written : List ℕ
    pub read : Consumes left0 left1 bytes
    pub wrote : Appends held0 held1 written
    pub few_reads : after.reads ≤ before.reads + bound
    pub no_empty_read : NoEmptyRead bytes before after
    pub worked : ProcessedAll Reports bytes written
    pub ends : RunEnding Reports bound bytes written before after result
    pub to_the_end : AtItsEnd left1 before after

  pub ran_of : (from to : ReaderState) (before after : WriterState) (result : Result ℕ StreamFault)
      → RanSo from.left to.left before.held after.held (run_state from before) (run_state to after) result → StreamOutcome Reports bound from to before after result
  ran_of from to before after result r =
      record { bytes = r.bytes; written = r.written; read = r.read; wrote = r.wrote; few_reads = r.few_reads; no_empty_read = r.no_empty_read; worked = r.worked; ends = r.ends; to_the_end = r.to_the_end }

  module _ (left0 left1 left2 held0 held1 held2 : Option (List ℕ)) (before now after : RunState) (turn : ℕ) (pending out : List ℕ) (lines sent : ℕ)
      (r : Running Reports left0 left1 held0 held1 before now turn pending out lines sent) where
    worked_through : (bytes last more : List ℕ) → bytes ≡ r.bytes ++ last → length last ≤ 2 ^ 16 → ProcessedAll Reports bytes (r.written ++ more)
    worked_through bytes last more parts small =
        record {
          front = r.bytes;
          last = last;
          text = r.written;
          more = more;
          parts = parts;
          one_read = small;
          printed = r.print;
          wrote = refl;
          short = subst (λ o. length o ≤ SENTENCE_MAX) r.open_is r.short;
        }

    -- all that was read is processed
    all_worked : ProcessedAll Reports r.bytes r.written
    all_worked =
        subst (λ w. ProcessedAll Reports r.bytes w) (append-nil r.written)
        (worked_through r.bytes [] [] (sym (append-nil r.bytes)) (omega arith))

    -- no read met the end, and the unfinished line is not too long yet
    stopped_after : (line : ℕ) → line ≡ lines + 1 → after.ends ≡ now.ends → StoppedAfter Reports r.bytes r.written before after line
    stopped_after line e ends =
        record {
          no_end = ends ∙ r.ends;
          printed = r.print;
          number = omega (arith, e, r.counted);
          short = subst (λ o. length o ≤ SENTENCE_MAX) r.open_is r.short;
        }

    pub ran_read_failed : (line : ℕ) → line ≡ lines + 1 → Keeps left1 left2 → turn < bound → after.reads ≡ now.reads + 1 → after.ends ≡ now.ends
        → after.read_failures ≡ now.read_failures + 1 → after.write_failures ≡ now.write_failures → after.flushes ≡ now.flushes
        → RanSo left0 left2 held0 held1 before after (Err (stream.Read line))
    ran_read_failed line e kept few reads ends one_read no_write no_flush = record {
      bytes = r.bytes;
      written = r.written;
      read = Consumes-kept left0 left1 left2 r.bytes r.read kept;
      wrote = r.wrote;
      few_reads = omega (arith, few, reads, r.reads);
      no_empty_read = omega (arith, reads, r.reads, r.gave, one_read, r.read_failures);
      worked = all_worked;
      ends = (
        stopped_after line e ends,
        record { one_read = omega (arith, one_read, r.read_failures); no_write = no_write ∙ r.write_failures },
        no_flush ∙ r.flushes,
      );
      to_the_end = not_at_end left2 before after (ends ∙ r.ends);
    }

    pub ran_bound : (line : ℕ) → line ≡ lines + 1 → turn ≡ bound → RanSo left0 left1 held0 held1 before now (Err (stream.InputTooLong line))
    ran_bound line e is = record {
      bytes = r.bytes;
      written = r.written;
      read = r.read;
      wrote = r.wrote;
      few_reads = omega (arith, is, r.reads);
      no_empty_read = omega (arith, r.reads, r.gave);
      worked = all_worked;
      ends = (
        record {
          no_end = r.ends;
          printed = r.print;
          number = omega (arith, e, r.counted);
          short = subst (λ o. length o ≤ SENTENCE_MAX) r.open_is r.short;
        },
        record { reads = omega (arith, is, r.reads); gave = omega (arith, is, r.gave) },
        record { no_read = r.read_failures; no_write = r.write_failures },
        r.flushes,
      );
      to_the_end = not_at_end left1 before now r.ends;
    }

    module _ (few : turn < bound) (reads : after.reads ≡ now.reads + 1) (no_read : after.read_failures ≡ now.read_failures) where
      few_reads : after.reads ≤ before.reads + bound
      few_reads = omega (arith, few, reads, r.reads)

      -- this read returned bytes
      gave_more : (piece : List ℕ) → 0 < length piece → NoEmptyRead (r.bytes ++ piece) before after
      gave_more piece some = let bl = length-append r.bytes piece in omega (arith, some, reads, bl, r.reads, r.gave)

      -- this read met the end
      gave_none : after.ends ≡ now.ends + 1 → NoEmptyRead r.bytes before after
      gave_none ends = omega (arith, ends, reads, r.ends, r.reads, r.gave)

      unflushed : after.flushes ≡ now.flushes → NoFlush before after
      unflushed same = same ∙ r.flushes

      none_failed : after.write_failures ≡ now.write_failures → NoFailure before after
      none_failed no_write = record { no_read = no_read ∙ r.read_failures; no_write = no_write ∙ r.write_failures }

      -- ---- the complete lines

      -- the input did not end in this turn
      lines_of_work : (piece : List ℕ) (done more : List (List ℕ)) → after.ends ≡ now.ends → complete_lines (pending ++ piece) ≡ done ++ more
          → lines_read (has_ended before after) (r.bytes ++ piece) ≡ (complete_lines r.bytes ++ done) ++ more
      lines_of_work piece done more ends front =
          let not_ended : has_ended before after ≡ false = ap (λ n. nat_lt before.ends n) (ends ∙ r.ends) ∙ ltb_same before.ends in
          ap (λ b. lines_read b (r.bytes ++ piece)) not_ended ∙ whole_on r.bytes piece pending r.open_is
          ∙ ap (λ z. complete_lines r.bytes ++ z) front ∙ sym (append_assoc (complete_lines r.bytes) done more)

      -- it did
      lines_of_all : after.ends ≡ now.ends + 1 → lines_read (has_ended before after) r.bytes ≡ text_lines r.bytes
      lines_of_all ends = ap (λ b. lines_read b r.bytes) {x = has_ended before after} {y = true} (lt-ltb before.ends after.ends (omega (arith, ends, r.ends)))

      lines_at_end : (done more : List (List ℕ)) → last_line pending ≡ done ++ more → text_lines r.bytes ≡ (complete_lines r.bytes ++ done) ++ more
      lines_at_end done more front =
          last_lines r.bytes pending r.open_is ∙ ap (λ z. complete_lines r.bytes ++ z) front ∙ sym (append_assoc (complete_lines r.bytes) done more)

      -- ---- a write failed

      cut_run : (bytes written : List ℕ) (done more : List (List ℕ)) (fault : StreamFault) (text left : List ℕ)
          → lines_read (has_ended before after) bytes ≡ (complete_lines r.bytes ++ done) ++ more → AllPrint Reports (lines + 1) done text → text ≡ written ++ left
          → fault ≡ stream.Write (sent + length written) → after.write_failures ≡ now.write_failures + 1
          → FlushesLast Reports bytes (r.written ++ written) before after
          → RunEnding Reports bound bytes (r.written ++ written) before after (Err fault)
      cut_run bytes written done more fault text left first print front fault_is failure last =
          let total = length-append r.written written in
          subst (λ f. RunEnding Reports bound bytes (r.written ++ written) before after (Err f)) (sym fault_is) (
            record {
              lines = complete_lines r.bytes ++ done;
              more = more;
              text = r.written ++ text;
              left = left;
              first = first;
              printed = print_on Reports r.bytes pending r.written text lines r.print r.open_is r.counted done None print;
              front = ap (λ t. r.written ++ t) front ∙ sym (append_assoc r.written written left);
              count = omega (arith, r.sent_is, total);
            },
            record { no_read = no_read ∙ r.read_failures; one_write = omega (arith, failure, r.write_failures) },
            last,
          )

      -- ---- an error of a line stopped the step

      number_is : (done : List (List ℕ)) (line : ℕ) → line ≡ lines + length done + 1 → line ≡ 1 + length (complete_lines r.bytes ++ done)
      number_is done line e = let total = length-append (complete_lines r.bytes) done in omega (arith, e, total, r.counted)

      printed_on : (done : List (List ℕ)) (text : List ℕ) → AllPrint Reports (lines + 1) done text → AllPrint Reports 1 (complete_lines r.bytes ++ done) (r.written ++ text)
      printed_on done text print = print_on Reports r.bytes pending r.written text lines r.print r.open_is r.counted done None print

      out_of_memory_run : (bytes : List ℕ) (all : List (List ℕ)) (written : List ℕ) (done more : List (List ℕ)) (line : ℕ) → all ≡ (complete_lines r.bytes ++ done) ++ more
          → AllPrint Reports (lines + 1) done written → line ≡ lines + length done + 1 → HasNext bytes (complete_lines r.bytes ++ done)
          → OutOfMemory Reports bytes all (r.written ++ written) line
      out_of_memory_run bytes all written done more line first print e next =
          let number = number_is done line e in
          record {
            lines = complete_lines r.bytes ++ done;
            more = more;
            first = first;
            printed = printed_on done written print;
            number = omega (arith, number);
            next = inr next;
          }

      bad_run : (all : List (List ℕ)) (written : List ℕ) (done more : List (List ℕ)) (bad : List ℕ) (fault : LineFault) (line : ℕ)
          → all ≡ (complete_lines r.bytes ++ done) ++ bad ∷ more → AllPrint Reports (lines + 1) done written → Reports bad (Err fault)
          → line ≡ lines + length done + 1 → IsBad Reports all (r.written ++ written) line fault
      bad_run all written done more bad fault line parts print checked e =
          subst (λ ls. IsBad Reports ls (r.written ++ written) line fault) (sym parts)
          (bad_after Reports 1 (complete_lines r.bytes ++ done) more (r.written ++ written) bad fault line (printed_on done written print) checked (number_is done line e))

      -- the line is invalid among the complete lines, and so among all
      bad_ends : (bytes written : List ℕ) (fault : LineFault) (line : ℕ) → IsBad Reports (text_lines bytes) written line fault
          → IsBad Reports (lines_read (has_ended before after) bytes) written line fault → after.write_failures ≡ now.write_failures → after.flushes ≡ now.flushes
          → RunEnding Reports bound bytes written before after (Err (stream.Line line (Bad fault)))
      bad_ends bytes written TooLong line all whole no_write no_flush = (all, none_failed no_write, unflushed no_flush)
      bad_ends bytes written NotUtf8 line all whole no_write no_flush = (whole, none_failed no_write, unflushed no_flush)

      -- ---- after the bytes of one read

      work_error : (piece written : List ℕ) (done : List (List ℕ)) (error : LineError) (line : ℕ) → after.ends ≡ now.ends → after.write_failures ≡ now.write_failures → after.flushes ≡ now.flushes
          → AllPrint Reports (lines + 1) done written → IsCause Reports (pending ++ piece) done error → line ≡ lines + length done + 1
          → RunEnding Reports bound (r.bytes ++ piece) (r.written ++ written) before after (Err (stream.Line line error))
      work_error piece written done Memory line ends no_write no_flush print cause e = (
        out_of_memory_run (r.bytes ++ piece) (lines_read (has_ended before after) (r.bytes ++ piece)) written done cause.0 line (lines_of_work piece done cause.0 ends cause.1) print e
            (next_on r.bytes piece pending done r.open_is cause.2),
        none_failed no_write,
        unflushed no_flush,
      )
      work_error piece written done (Bad fault) line ends no_write no_flush print (inl c) e =
          let tail = last_line (unfinished_line (r.bytes ++ piece)) in bad_ends (r.bytes ++ piece) (r.written ++ written) fault line
          (bad_run (text_lines (r.bytes ++ piece)) written done (c.1 ++ tail) c.0 fault line (first_lines r.bytes piece pending done (c.0 ∷ c.1) r.open_is c.2) print c.3 e)
          (bad_run (lines_read (has_ended before after) (r.bytes ++ piece)) written done c.1 c.0 fault line (lines_of_work piece done (c.0 ∷ c.1) ends c.2) print c.3 e)
          no_write no_flush
      work_error piece written done (Bad fault) line ends no_write no_flush print (inr c) e =
          let open_is = unfinished_line-append r.bytes piece ∙ ap (λ o. unfinished_line (o ++ piece)) (sym r.open_is) in
          let parts = text_lines-parts (r.bytes ++ piece)
          ∙ ap (λ z. z ++ last_line (unfinished_line (r.bytes ++ piece))) (whole_on r.bytes piece pending r.open_is ∙ ap (λ z. complete_lines r.bytes ++ z) c.0)
          ∙ ap (λ z. (complete_lines r.bytes ++ done) ++ z) (ap last_line open_is ∙ last_there (unfinished_line (pending ++ piece)) (omega (arith, c.3))) in
          subst (λ f. RunEnding Reports bound (r.bytes ++ piece) (r.written ++ written) before after (Err (stream.Line line (Bad f)))) (sym c.1)
          (bad_run (text_lines (r.bytes ++ piece)) written done [] (unfinished_line (pending ++ piece)) TooLong line parts print c.2 e, none_failed no_write, unflushed no_flush)

      pub ran_work : (piece : List ℕ) (fault : StreamFault) → Consumes left1 left2 piece → 0 < length piece → length piece ≤ 2 ^ 16 → after.ends ≡ now.ends → after.flushes ≡ now.flushes
          → StepStopped Reports (IsCause Reports (pending ++ piece)) lines [] (complete_lines (pending ++ piece))
          (turn_step held1 held2 now after) sent fault
          → RanSo left0 left2 held0 held2 before after (Err fault)
      ran_work piece fault took some small ends no_flush (inl s) = record {
        bytes = r.bytes ++ piece;
        written = r.written ++ s.written;
        read = Consumes-trans left0 left1 left2 r.bytes piece r.read took;
        wrote = Appends-trans held0 held1 held2 r.written s.written r.wrote s.wrote;
        few_reads = few_reads;
        no_empty_read = gave_more piece some;
        worked = worked_through (r.bytes ++ piece) piece s.written refl small;
        ends = cut_run (r.bytes ++ piece) s.written s.truncated.done s.truncated.more fault s.truncated.text s.truncated.left
            (lines_of_work piece s.truncated.done s.truncated.more ends s.truncated.first) s.truncated.print s.truncated.front s.fault_is s.failure
            (inl (unflushed no_flush));
        to_the_end = not_at_end left2 before after (ends ∙ r.ends);
      }
      ran_work piece fault took some small ends no_flush (inr s) = record {
        bytes = r.bytes ++ piece;
        written = r.written ++ s.text;
        read = Consumes-trans left0 left1 left2 r.bytes piece r.read took;
        wrote = Appends-trans held0 held1 held2 r.written s.text r.wrote s.wrote;
        few_reads = few_reads;
        no_empty_read = gave_more piece some;
        worked = worked_through (r.bytes ++ piece) piece s.text refl small;
        ends = subst (λ f. RunEnding Reports bound (r.bytes ++ piece) (r.written ++ s.text) before after (Err f)) (sym s.fault_is)
            (work_error piece s.text s.done s.error (lines + length s.done + 1) ends s.no_failure no_flush s.print s.cause refl);
        to_the_end = not_at_end left2 before after (ends ∙ r.ends);
      }

      -- ---- at the end of the input

      finish_error : (written : List ℕ) (done : List (List ℕ)) (error : LineError) (line : ℕ) → after.ends ≡ now.ends + 1 → after.write_failures ≡ now.write_failures → after.flushes ≡ now.flushes
          → AllPrint Reports (lines + 1) done written → IsLastCause Reports pending done error → line ≡ lines + length done + 1
          → RunEnding Reports bound r.bytes (r.written ++ written) before after (Err (stream.Line line error))
      finish_error written done Memory line ends no_write no_flush print cause e =
          let first = lines_of_all ends ∙ lines_at_end done (last_line pending) (ap (λ d. d ++ last_line pending) (sym cause.none_before)) in
          let parts = lines_at_end done (pending ∷ []) (cause.there ∙ ap (λ d. d ++ pending ∷ []) (sym cause.none_before)) in (
            out_of_memory_run r.bytes (lines_read (has_ended before after) r.bytes) written done (last_line pending) line first print e (pending, [], parts, cause.reports),
            none_failed no_write,
            unflushed no_flush,
          )
      finish_error written done (Bad fault) line ends no_write no_flush print cause e =
          let parts = lines_at_end done (pending ∷ []) (cause.there ∙ ap (λ d. d ++ pending ∷ []) (sym cause.none_before)) in
          let all = bad_run (text_lines r.bytes) written done [] pending fault line parts print cause.reports e in
          bad_ends r.bytes (r.written ++ written) fault line all
          (subst (λ ls. IsBad Reports ls (r.written ++ written) line fault) (sym (lines_of_all ends)) all) no_write no_flush

      none_more : Consumes left1 left2 [] → Consumes left0 left2 r.bytes
      none_more took = subst (λ bs. Consumes left0 left2 bs) (append-nil r.bytes) (Consumes-trans left0 left1 left2 r.bytes [] r.read took)

      worked_to_the_end : (more : List ℕ) → ProcessedAll Reports r.bytes (r.written ++ more)
      worked_to_the_end more = worked_through r.bytes [] more (sym (append-nil r.bytes)) (omega arith)

      ran_to_fault : (fault : StreamFault) → Consumes left1 left2 [] → IsAtEnd left2 → after.ends ≡ now.ends + 1
          → EndStopped Reports (IsLastCause Reports pending) lines (last_line pending) (turn_step held1 held2 now after) sent fault
          → RanSo left0 left2 held0 held2 before after (Err fault)
      ran_to_fault fault took at_end ends (inl (inl s, no_flush)) = record {
        bytes = r.bytes;
        written = r.written ++ s.written;
        read = none_more took;
        wrote = Appends-trans held0 held1 held2 r.written s.written r.wrote s.wrote;
        few_reads = few_reads;
        no_empty_read = gave_none ends;
        worked = worked_to_the_end s.written;
        ends = cut_run r.bytes s.written s.truncated.done s.truncated.more fault s.truncated.text s.truncated.left
            (lines_of_all ends ∙ lines_at_end s.truncated.done s.truncated.more s.truncated.first) s.truncated.print s.truncated.front s.fault_is s.failure
            (inl (unflushed no_flush));
        to_the_end = λ ended. at_end;
      }
      ran_to_fault fault took at_end ends (inl (inr s, no_flush)) = record {
        bytes = r.bytes;
        written = r.written ++ s.text;
        read = none_more took;
        wrote = Appends-trans held0 held1 held2 r.written s.text r.wrote s.wrote;
        few_reads = few_reads;
        no_empty_read = gave_none ends;
        worked = worked_to_the_end s.text;
        ends = subst (λ f. RunEnding Reports bound r.bytes (r.written ++ s.text) before after (Err f)) (sym s.fault_is)
            (finish_error s.text s.done s.error (lines + length s.done + 1) ends s.no_failure no_flush s.print s.cause refl);
        to_the_end = λ ended. at_end;
      }
      ran_to_fault fault took at_end ends (inr s) =
          let all = last_lines r.bytes pending r.open_is in
          let printed = subst (λ ls. AllPrint Reports 1 ls (r.written ++ s.text)) (sym all) (printed_on (last_line pending) s.text s.print) in record {
            bytes = r.bytes;
            written = r.written ++ s.text;
            read = none_more took;
            wrote = Appends-trans held0 held1 held2 r.written s.text r.wrote s.wrote;
            few_reads = few_reads;
            no_empty_read = gave_none ends;
            worked = worked_to_the_end s.text;
            ends = cut_run r.bytes s.text (last_line pending) [] fault s.text []
                (lines_of_all ends ∙ lines_at_end (last_line pending) [] (sym (append-nil (last_line pending)))) s.print (sym (append-nil s.text)) s.fault_is s.failure
                (inr (omega (arith, s.flush, r.flushes), ends ∙ ap (λ n. n + 1) r.ends, printed));
            to_the_end = λ ended. at_end;
          }

      ran_to_the_end : (count sent_after : ℕ) → Consumes left1 left2 [] → IsAtEnd left2 → after.ends ≡ now.ends + 1
          → Stepped Reports lines (last_line pending) count (turn_step held1 held2 now after) sent sent_after
          → after.flushes ≡ now.flushes + 1 → after.unflushed ≡ false
          → RanSo left0 left2 held0 held2 before after (Ok count)
      ran_to_the_end count sent_after took at_end ends s one_flush flushed =
          let all = last_lines r.bytes pending r.open_is in
          let total = ap length all ∙ length-append (complete_lines r.bytes) (last_line pending) in record {
            bytes = r.bytes;
            written = r.written ++ s.text;
            read = none_more took;
            wrote = Appends-trans held0 held1 held2 r.written s.text r.wrote s.wrote;
            few_reads = few_reads;
            no_empty_read = gave_none ends;
            worked = worked_to_the_end s.text;
            ends = (
              record {
                printed = subst (λ ls. AllPrint Reports 1 ls (r.written ++ s.text)) (sym all) (printed_on (last_line pending) s.text s.print);
                counted = omega (arith, s.counted, r.counted, total);
                ended = ends ∙ ap (λ n. n + 1) r.ends;
                one_flush = omega (arith, one_flush, r.flushes);
                flushed = flushed;
              },
              none_failed s.no_failure,
            );
            to_the_end = λ ended. at_end;
          }

      pub ran_finish : (result : Result ℕ StreamFault) (sent_after : ℕ) → Consumes left1 left2 [] → IsAtEnd left2 → after.ends ≡ now.ends + 1
          → IfOk result (λ count. Stepped Reports lines (last_line pending) count (turn_step held1 held2 now after) sent sent_after)
          → OnOk result (after.flushes ≡ now.flushes + 1) → OnOk result (after.unflushed ≡ false)
          → IfErr result (EndStopped Reports (IsLastCause Reports pending) lines (last_line pending) (turn_step held1 held2 now after) sent)
          → RanSo left0 left2 held0 held2 before after result
      ran_finish (Ok count) sent_after took at_end ends s one_flush flushed stopped = ran_to_the_end count sent_after took at_end ends s one_flush flushed
      ran_finish (Err fault) sent_after took at_end ends s one_flush flushed stopped = ran_to_fault fault took at_end ends stopped
