-- Processing the bytes of one read: each step prints the line up to the next LF.
use Rattle.std.proofs.Common.{◌≡◌, ℕ, ◌+◌, ◌*◌, ◌^◌, ◌<◌, ◌≤◌, suc, true, false, List, [], ◌∷◌, ◌++◌, length, take, drop, get_or, refl, sym, ap, ◌∙◌, subst, arith, append_assoc, append-nil, inl, inr, length-append, length-drop, length-take}
use Rattle.std.specs.Prelude.{Result, Ok, Err, OnOk, OnErr, IfErr}
use Rattle.std.specs.Io.KnownBytes.{Appends}
use Rattle.std.proofs.lemmas.List.{get_or-take, get_or_default}
use Rattle.std.proofs.lemmas.List.Elements.{All-append, All-nil}
use Rattle.std.proofs.lemmas.Bool.{false_from_ne_true}
use Rattle.std.proofs.Math.Seq.{split_at}
use Rattle.memchr.specs.Find.{Passes, is_byte, Nowhere, NoneBefore}
use Rattle.mj_model.specs.declared.limits.TheConstants.{SENTENCE_MAX}
use Rattle.mj_model.specs.Bytes.{is_line_feed}
use Rattle.mj_model.specs.TextLines.{complete_lines, unfinished_line}
use Rattle.line_stream.specs.declared.line_fault.LineFault.{LineFault}
use Rattle.line_stream.specs.declared.line_fault.LineFault.TheVariants.{TooLong}
use Rattle.line_stream.specs.declared.line_fault.LineError.{LineError}
use Rattle.line_stream.specs.declared.line_fault.LineError.TheVariants.{Bad, Memory}
use Rattle.mj_model.specs.Counts.{WriterState}
use Rattle.line_stream.specs.declared.line_fault.StreamFault.{StreamFault}
use Rattle.line_stream.specs.LineErrors.{ReportsOr}
use Rattle.line_stream.specs.StreamState.{HasNext, HasNoFeed, IsCause}
use Rattle.line_stream.specs.Steps.{Advanced, IsLineCause, last_line, Stepped, StepStopped, WaitingStopped, step_of}
use Rattle.line_stream.proofs.PieceLemmas.{complete_lines-none, unfinished_line-none, complete_lines-split_at_feed, unfinished_line-split_at_feed}
use Rattle.line_stream.proofs.RunWork.{last_there, text_lines-parts}
use Rattle.line_stream.proofs.StepLemmas.{IsCutWrite, advanced_on, all_written, cut_stopped, error_stopped, stepped_of, stopped_on, waits_on}

-- ---- the position of the next LF

pub no_feed_before : (rest : List ℕ) (at : ℕ) → at ≤ length rest → Nowhere (Passes (is_byte 10) rest) 0 at → HasNoFeed (take at rest)
no_feed_before rest at low none k d h =
    let n = length-take at rest in
    let below : k < at = omega (arith, h, n, low) in
    let same = get_or-take at rest k d below ∙ get_or_default rest k d 0 (omega (arith, below, low)) in
    false_from_ne_true (is_line_feed (get_or (take at rest) k d)) (λ e. none k (omega arith) below (subst (λ (c : ℕ). is_line_feed c ≡ true) same e))

pub no_feed_at_all : (rest : List ℕ) → Nowhere (Passes (is_byte 10) rest) 0 (length rest) → HasNoFeed rest
no_feed_at_all rest none k d h =
    false_from_ne_true (is_line_feed (get_or rest k d)) (λ e. none k (omega arith) h (subst (λ (c : ℕ). is_line_feed c ≡ true) (get_or_default rest k d 0 h) e))

-- ---- the work before the next line

-- the bytes after the last LF are too many for a line, or an allocation for them failed
abbrev pub ReportsHeld : List ℕ → List ℕ → LineError → Type 0
ReportsHeld held rest error =
    ReportsOr ((0 < length rest) × (length (held ++ rest) ≤ SENTENCE_MAX)) (λ fault. (fault ≡ TooLong) × (SENTENCE_MAX < length (held ++ rest))) error

abbrev pub IsHeldCause : List ℕ → List ℕ → List (List ℕ) → LineError → Type 0
IsHeldCause held rest done error = (done ≡ []) × ReportsHeld held rest error

module _ (Reports : List ℕ → Result (List ℕ) LineFault → Type 0) where
  -- the lines so far printed; all bytes split into lines as the pending bytes and the remainder do;
  -- the remainder holds at least as many bytes as lines can still end and writes can still come
  pub record Working (before size : ℕ) (bytes held rest : List ℕ) (lines : ℕ) (waits : List ℕ) (t0 t1 : WriterState) (sent0 sent1 : ℕ) : Type 0 where
    pub done : List (List ℕ)
    pub advanced : Advanced Reports before [] done lines waits (step_of t0 t1) sent0 sent1
    pub whole : complete_lines bytes ≡ done ++ complete_lines (held ++ rest)
    pub open_is : unfinished_line bytes ≡ unfinished_line (held ++ rest)
    pub no_feed : HasNoFeed held
    pub few_lines : lines + length rest ≤ before + size
    pub few_bytes : sent1 + 2 ^ 64 * length rest ≤ sent0 + 2 ^ 64 * size
    pub no_flush : t1.flushes ≡ t0.flushes

  pub working_start : (lines : ℕ) (piece held waits : List ℕ) (t : WriterState) (sent : ℕ) → HasNoFeed held → waits ≡ []
      → Working lines (length piece) (held ++ piece) held piece lines waits t t sent sent
  working_start lines piece held waits t sent none empty =
      record {
        done = [];
        advanced = waits_on Reports lines [] [] lines waits [] t sent (refl, refl) (omega arith) empty;
        whole = refl;
        open_is = refl;
        no_feed = none;
        few_lines = omega arith;
        few_bytes = omega arith;
        no_flush = refl;
      }

  module _ (before size : ℕ) (bytes held rest : List ℕ) (lines : ℕ) (waits : List ℕ) (t0 t1 t2 : WriterState) (sent0 sent1 : ℕ)
      (w : Working before size bytes held rest lines waits t0 t1 sent0 sent1) where
    -- ---- up to the next LF

    module _ (at : ℕ) (first : NoneBefore (Passes (is_byte 10) rest) 0 (length rest) at) (passes : Passes (is_byte 10) rest at) where
      none : HasNoFeed (held ++ take at rest)
      none = All-append (λ c. is_line_feed c ≡ false) held (take at rest) w.no_feed (no_feed_before rest at (omega (arith, first.high)) first.before)

      joined : held ++ rest ≡ (held ++ take at rest) ++ get_or rest at 0 ∷ drop (at + 1) rest
      joined =
          let parted : rest ≡ take at rest ++ get_or rest at 0 ∷ drop (at + 1) rest =
          split_at rest at 0 first.high ∙ ap (λ n. take at rest ++ get_or rest at 0 ∷ drop n rest) {x = suc at} {y = at + 1} (omega arith) in
          ap (λ r. held ++ r) parted ∙ sym (append_assoc held (take at rest) (get_or rest at 0 ∷ drop (at + 1) rest))

      whole_is : complete_lines bytes ≡ w.done ++ (held ++ take at rest) ∷ complete_lines (drop (at + 1) rest)
      whole_is =
          w.whole ∙ ap (λ z. w.done ++ z)
          (ap complete_lines joined ∙ complete_lines-split_at_feed (held ++ take at rest) (get_or rest at 0) (drop (at + 1) rest) none passes)

      pub working_line : (lines_after : ℕ) (waits_after : List ℕ) (sent2 : ℕ)
          → Advanced Reports lines waits ((held ++ take at rest) ∷ []) lines_after waits_after (step_of t1 t2) sent1 sent2
          → sent2 ≤ sent1 + 2 ^ 64 → lines_after ≤ lines + 1 → t2.flushes ≡ t1.flushes
          → Working before size bytes [] (drop (at + 1) rest) lines_after waits_after t0 t2 sent0 sent2
      working_line lines_after waits_after sent2 a few few_lines no_flush =
          let lengths = length-drop (at + 1) rest in
          record {
            done = w.done ++ (held ++ take at rest) ∷ [];
            advanced = advanced_on Reports before [] w.done lines waits ((held ++ take at rest) ∷ []) lines_after waits_after t0 t1 t2 sent0 sent1 sent2 w.advanced a;
            whole = whole_is ∙ sym (append_assoc w.done ((held ++ take at rest) ∷ []) (complete_lines (drop (at + 1) rest)));
            open_is = w.open_is ∙ ap unfinished_line joined ∙ unfinished_line-split_at_feed (held ++ take at rest) (get_or rest at 0) (drop (at + 1) rest) none passes;
            no_feed = All-nil (λ c. is_line_feed c ≡ false);
            few_lines = omega (arith, w.few_lines, few_lines, lengths, first.high);
            few_bytes = omega (arith, w.few_bytes, few, lengths, first.high);
            no_flush = no_flush ∙ w.no_flush;
          }

      next_line : length (held ++ take at rest) ≤ SENTENCE_MAX → HasNext bytes w.done
      next_line short =
          let tail = last_line (unfinished_line bytes) in (
            held ++ take at rest,
            complete_lines (drop (at + 1) rest) ++ tail,
            text_lines-parts bytes ∙ ap (λ z. z ++ tail) whole_is ∙ append_assoc w.done ((held ++ take at rest) ∷ complete_lines (drop (at + 1) rest)) tail,
            short,
          )

      cause_by : (error : LineError) → ReportsOr (length (held ++ take at rest) ≤ SENTENCE_MAX) (λ fault. Reports (held ++ take at rest) (Err fault)) error → IsCause Reports bytes w.done error
      cause_by Memory reports = (complete_lines (held ++ rest), w.whole, next_line reports)
      cause_by (Bad fault) reports = inl (held ++ take at rest, complete_lines (drop (at + 1) rest), whole_is, reports)

      cause_of : (done : List (List ℕ)) (error : LineError) → IsLineCause Reports (held ++ take at rest) done error → IsCause Reports bytes (w.done ++ done) error
      cause_of done error c =
          subst (λ d. IsCause Reports bytes d error) (sym (append-nil w.done) ∙ ap (λ d. w.done ++ d) (sym c.none_before)) (cause_by error c.reports)

      pub working_stopped : (fault : StreamFault)
          → StepStopped Reports (IsLineCause Reports (held ++ take at rest)) lines waits ((held ++ take at rest) ∷ []) (step_of t1 t2) sent1 fault
          → StepStopped Reports (IsCause Reports bytes) before [] (complete_lines bytes) (step_of t0 t2) sent0 fault
      working_stopped fault s =
          stopped_on Reports (IsCause Reports bytes) (IsLineCause Reports (held ++ take at rest)) before [] (complete_lines bytes) w.done lines waits
          ((held ++ take at rest) ∷ []) (complete_lines (drop (at + 1) rest)) t0 t1 t2 sent0 sent1 fault whole_is cause_of w.advanced s

    -- ---- after the last LF

    module _ (nowhere : Nowhere (Passes (is_byte 10) rest) 0 (length rest)) where
      all_held : HasNoFeed (held ++ rest)
      all_held = All-append (λ c. is_line_feed c ≡ false) held rest w.no_feed (no_feed_at_all rest nowhere)

      whole_done : complete_lines bytes ≡ w.done ++ []
      whole_done = w.whole ∙ ap (λ z. w.done ++ z) (complete_lines-none (held ++ rest) all_held)

      pub working_open : held ++ rest ≡ unfinished_line bytes
      working_open = sym (w.open_is ∙ unfinished_line-none (held ++ rest) all_held)

      stepped_by : (waits_after : List ℕ) (sent2 : ℕ) → waits_after ≡ []
          → Advanced Reports lines waits [] lines waits_after (step_of t1 t2) sent1 sent2
          → Stepped Reports before (complete_lines bytes) lines (step_of t0 t2) sent0 sent2
      stepped_by waits_after sent2 empty a =
          subst (λ ls. Stepped Reports before ls lines (step_of t0 t2) sent0 sent2) (sym whole_done)
          (stepped_of Reports before (w.done ++ []) lines waits_after t0 t2 sent0 sent2 empty
          (advanced_on Reports before [] w.done lines waits [] lines waits_after t0 t1 t2 sent0 sent1 sent2 w.advanced a))

      -- what waits is written
      pub working_done : (result : Result (Unit {0}) StreamFault) (waits_after : List ℕ) (sent2 : ℕ)
          → OnOk result (Appends t1.held t2.held waits) → OnOk result (sent2 ≡ sent1 + length waits) → OnOk result (waits_after ≡ [])
          → OnOk result (t2.failures ≡ t1.failures)
          → OnOk result (Stepped Reports before (complete_lines bytes) lines (step_of t0 t2) sent0 sent2)
      working_done (Ok x) waits_after sent2 wrote sent empty no_failure =
          stepped_by waits_after sent2 empty
          (all_written Reports lines waits [] lines waits waits_after [] t1 t2 sent1 sent2 (refl, refl) (omega arith) (sym (append-nil waits)) wrote sent empty no_failure)
      working_done (Err x) waits_after sent2 wrote sent empty no_failure = tt

      -- or the write failed
      pub working_cut : (result : Result (Unit {0}) StreamFault) → IfErr result (IsCutWrite t1 t2 waits sent1) → OnErr result (t2.failures ≡ t1.failures + 1)
          → IfErr result (StepStopped Reports (IsCause Reports bytes) before [] (complete_lines bytes) (step_of t0 t2) sent0)
      working_cut (Ok x) split_at_feed failure = tt
      working_cut (Err fault) split_at_feed failure =
          stopped_on Reports (IsCause Reports bytes) (λ done error. ⊥) before [] (complete_lines bytes) w.done lines waits [] [] t0 t1 t2 sent0 sent1 fault whole_done
          (λ done error none. absurd none) w.advanced
          (cut_stopped Reports (λ done error. ⊥) lines waits [] [] [] waits [] t1 t2 sent1 fault refl (refl, refl) (sym (append-nil waits)) split_at_feed failure)

      next_open : 0 < length rest → length (held ++ rest) ≤ SENTENCE_MAX → HasNext bytes w.done
      next_open some short =
          let total = length-append held rest in
          let open_some = subst (λ z. 0 < length z) working_open (omega (arith, some, total)) in (
            unfinished_line bytes,
            [],
            text_lines-parts bytes ∙ ap (λ z. z ++ last_line (unfinished_line bytes)) (whole_done ∙ append-nil w.done)
                ∙ ap (λ z. w.done ++ z) (last_there (unfinished_line bytes) open_some),
            subst (λ z. length z ≤ SENTENCE_MAX) working_open short,
          )

      held_by : (error : LineError) → ((line : List ℕ) → SENTENCE_MAX < length line → Reports line (Err TooLong))
          → ReportsHeld held rest error → IsCause Reports bytes w.done error
      held_by Memory long reports = (complete_lines (held ++ rest), w.whole, next_open reports.0 reports.1)
      held_by (Bad fault) long reports =
          let open_long = subst (λ z. SENTENCE_MAX < length z) working_open reports.1 in
          inr (whole_done ∙ append-nil w.done, reports.0, long (unfinished_line bytes) open_long, open_long)

      held_of : ((line : List ℕ) → SENTENCE_MAX < length line → Reports line (Err TooLong))
          → (done : List (List ℕ)) (error : LineError) → IsHeldCause held rest done error → IsCause Reports bytes (w.done ++ done) error
      held_of long done error c =
          subst (λ d. IsCause Reports bytes d error) (sym (append-nil w.done) ∙ ap (λ d. w.done ++ d) (sym c.0)) (held_by error long c.1)

      -- or the bytes after the last LF stopped the step
      pub working_held : ((line : List ℕ) → SENTENCE_MAX < length line → Reports line (Err TooLong)) → (error : LineError) (fault : StreamFault)
          → ReportsHeld held rest error
          → WaitingStopped waits error (lines + 1) (step_of t1 t2) sent1 fault
          → StepStopped Reports (IsCause Reports bytes) before [] (complete_lines bytes) (step_of t0 t2) sent0 fault
      working_held long error fault reports s =
          stopped_on Reports (IsCause Reports bytes) (IsHeldCause held rest) before [] (complete_lines bytes) w.done lines waits
          [] [] t0 t1 t2 sent0 sent1 fault whole_done (held_of long) w.advanced
          (error_stopped Reports (IsHeldCause held rest) lines waits [] error t1 t2 sent1 fault s (refl, reports))
