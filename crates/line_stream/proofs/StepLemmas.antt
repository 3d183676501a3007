-- Consecutive steps: their lines, output and writes concatenate, and if the later step stops, the
-- whole stops.
use Rattle.std.proofs.Common.{◌≡◌, ℕ, ◌+◌, ◌≤◌, List, [], ◌++◌, length, take, drop, refl, sym, ap, ◌∙◌, subst, arith, append_assoc, append-nil, take-append-drop, length-append, length-take, inl, inr}
use Rattle.std.specs.Prelude.{None, Result, Ok, Err, OnErr, IfErr}
use Rattle.std.specs.Io.KnownBytes.{Appends}
use Rattle.std.proofs.KnownBytes.{Appends-nil, Appends-trans}
use Rattle.mj_model.specs.Counts.{WriterState}
use Rattle.line_stream.specs.declared.line_fault.StreamFault.{StreamFault}
use Rattle.line_stream.specs.declared.line_fault.StreamFault.TheVariants as stream
use Rattle.line_stream.specs.declared.line_fault.LineFault.{LineFault}
use Rattle.line_stream.specs.declared.line_fault.LineError.{LineError}
use Rattle.line_stream.specs.StreamState.{AllPrint, Processed}
use Rattle.line_stream.specs.Steps.{Advanced, StepStopped, EndStopped, Stepped, WaitingStopped, step_of}
use Rattle.line_stream.proofs.PrintedAfter.{print_append}

-- the state after a write of `out` that fails after some bytes
abbrev pub IsCutWrite : WriterState → WriterState → List ℕ → ℕ → StreamFault → Type 0
IsCutWrite t0 t1 out sent fault =
    (n : ℕ) × (n ≤ length out) × Appends t0.held t1.held (take n out) × (fault ≡ stream.Write (sent + n))

module _ (Reports : List ℕ → Result (List ℕ) LineFault → Type 0) where
  -- ---- one step

  -- nothing was written
  pub waits_on : (before : ℕ) (waited : List ℕ) (lines : List (List ℕ)) (after : ℕ) (waits text : List ℕ) (t : WriterState) (sent : ℕ)
      → AllPrint Reports (before + 1) lines text → after ≡ before + length lines → waits ≡ waited ++ text
      → Advanced Reports before waited lines after waits (step_of t t) sent sent
  waits_on before waited lines after waits text t sent print counted e =
      record {
        text = text;
        written = [];
        print = print;
        counted = counted;
        parts = sym e;
        wrote = Appends-nil t.held;
        sent = omega arith;
        no_failure = refl;
      }

  -- all was written
  pub all_written : (before : ℕ) (waited : List ℕ) (lines : List (List ℕ)) (after : ℕ) (out waits text : List ℕ) (t0 t1 : WriterState) (sent0 sent1 : ℕ)
      → AllPrint Reports (before + 1) lines text → after ≡ before + length lines → out ≡ waited ++ text
      → Appends t0.held t1.held out → sent1 ≡ sent0 + length out → waits ≡ [] → t1.failures ≡ t0.failures
      → Advanced Reports before waited lines after waits (step_of t0 t1) sent0 sent1
  all_written before waited lines after out waits text t0 t1 sent0 sent1 print counted e wrote sent none no_failure =
      record {
        text = text;
        written = out;
        print = print;
        counted = counted;
        parts = sym e ∙ sym (append-nil out) ∙ ap (λ w. out ++ w) (sym none);
        wrote = wrote;
        sent = sent;
        no_failure = no_failure;
      }

  -- a prefix was written of the output of the first lines
  pub cut_stopped : (Cause : List (List ℕ) → LineError → Type 0) (before : ℕ) (waited : List ℕ) (lines done more : List (List ℕ)) (out text : List ℕ) (t0 t1 : WriterState) (sent : ℕ) (fault : StreamFault)
      → lines ≡ done ++ more → AllPrint Reports (before + 1) done text → out ≡ waited ++ text
      → IsCutWrite t0 t1 out sent fault → t1.failures ≡ t0.failures + 1
      → StepStopped Reports Cause before waited lines (step_of t0 t1) sent fault
  cut_stopped Cause before waited lines done more out text t0 t1 sent fault first print e truncated failure =
      let n = truncated.0 in
      let len = length-take n out in
      let low = truncated.1 in
      inl (record {
        written = take n out;
        wrote = truncated.2;
        truncated = record {
          done = done;
          more = more;
          text = text;
          left = drop n out;
          first = first;
          print = print;
          front = sym e ∙ sym (take-append-drop n out);
        };
        fault_is = truncated.3 ∙ ap (λ k. stream.Write (sent + k)) {x = n} {y = length (take n out)} (omega (arith, len, low));
        failure = failure;
      })

  pub if_cut : (result : Result (Unit {0}) StreamFault) (Cause : List (List ℕ) → LineError → Type 0) (before : ℕ) (waited : List ℕ) (lines : List (List ℕ)) (out text : List ℕ) (t0 t1 : WriterState) (sent : ℕ)
      → AllPrint Reports (before + 1) lines text → out ≡ waited ++ text
      → IfErr result (IsCutWrite t0 t1 out sent) → OnErr result (t1.failures ≡ t0.failures + 1)
      → IfErr result (StepStopped Reports Cause before waited lines (step_of t0 t1) sent)
  if_cut (Ok x) Cause before waited lines out text t0 t1 sent print e truncated failure = tt
  if_cut (Err fault) Cause before waited lines out text t0 t1 sent print e truncated failure =
      cut_stopped Cause before waited lines lines [] out text t0 t1 sent fault (sym (append-nil lines)) print e truncated failure

  -- an error stopped the work before a line printed
  pub error_stopped : (Cause : List (List ℕ) → LineError → Type 0) (before : ℕ) (waited : List ℕ) (lines : List (List ℕ)) (error : LineError) (t0 t1 : WriterState) (sent : ℕ) (fault : StreamFault)
      → WaitingStopped waited error (before + 1) (step_of t0 t1) sent fault → Cause [] error
      → StepStopped Reports Cause before waited lines (step_of t0 t1) sent fault
  error_stopped Cause before waited lines error t0 t1 sent fault (inl s) cause =
      cut_stopped Cause before waited lines [] lines waited [] t0 t1 sent fault refl (refl, refl) (sym (append-nil waited)) (s.0, s.1, s.2, s.3) s.4
  error_stopped Cause before waited lines error t0 t1 sent fault (inr s) cause =
      inr (record {
        text = [];
        wrote = subst (λ w. Appends t0.held t1.held w) (sym (append-nil waited)) s.1;
        done = [];
        print = (refl, refl);
        error = error;
        fault_is = s.0 ∙ ap (λ k. stream.Line k error) {x = before + 1} {y = before + 0 + 1} (omega arith);
        cause = cause;
        no_failure = s.2;
      })

  -- ---- a step after others

  -- output that waits between them is written by the second step or keeps waiting
  seam : (waited text0 written0 mid text1 written1 waits : List ℕ) → waited ++ text0 ≡ written0 ++ mid → mid ++ text1 ≡ written1 ++ waits
      → waited ++ (text0 ++ text1) ≡ (written0 ++ written1) ++ waits
  seam waited text0 written0 mid text1 written1 waits first second =
      sym (append_assoc waited text0 text1) ∙ ap (λ z. z ++ text1) first ∙ append_assoc written0 mid text1
      ∙ ap (λ z. written0 ++ z) second ∙ sym (append_assoc written0 written1 waits)

  print_next_line : (before mid : ℕ) (first second : List (List ℕ)) (text0 text1 : List ℕ) → mid ≡ before + length first
      → AllPrint Reports (before + 1) first text0 → AllPrint Reports (mid + 1) second text1 → AllPrint Reports (before + 1) (first ++ second) (text0 ++ text1)
  print_next_line before mid first second text0 text1 counted print0 print1 =
      print_append Reports (before + 1) first second text0 text1 None print0
      (subst (λ m. AllPrint Reports m second text1) {x = mid + 1} {y = before + 1 + length first} (omega (arith, counted)) print1)

  pub advanced_on : (before : ℕ) (waited : List ℕ) (first : List (List ℕ)) (mid : ℕ) (between : List ℕ) (second : List (List ℕ)) (after : ℕ) (waits : List ℕ) (t0 t1 t2 : WriterState) (sent0 sent1 sent2 : ℕ)
      → Advanced Reports before waited first mid between (step_of t0 t1) sent0 sent1 → Advanced Reports mid between second after waits (step_of t1 t2) sent1 sent2
      → Advanced Reports before waited (first ++ second) after waits (step_of t0 t2) sent0 sent2
  advanced_on before waited first mid between second after waits t0 t1 t2 sent0 sent1 sent2 a b =
      let lines = length-append first second in
      let bytes = length-append a.written b.written in
      record {
        text = a.text ++ b.text;
        written = a.written ++ b.written;
        print = print_next_line before mid first second a.text b.text a.counted a.print b.print;
        counted = omega (arith, a.counted, b.counted, lines);
        parts = seam waited a.text a.written between b.text b.written waits a.parts b.parts;
        wrote = Appends-trans t0.held t1.held t2.held a.written b.written a.wrote b.wrote;
        sent = omega (arith, a.sent, b.sent, bytes);
        no_failure = b.no_failure ∙ a.no_failure;
      }

  pub stopped_on : (Cause Next : List (List ℕ) → LineError → Type 0) (before : ℕ) (waited : List ℕ) (all first : List (List ℕ)) (mid : ℕ) (between : List ℕ) (second more : List (List ℕ)) (t0 t1 t2 : WriterState) (sent0 sent1 : ℕ) (fault : StreamFault)
      → all ≡ first ++ (second ++ more) → ((done : List (List ℕ)) (error : LineError) → Next done error → Cause (first ++ done) error)
      → Advanced Reports before waited first mid between (step_of t0 t1) sent0 sent1 → StepStopped Reports Next mid between second (step_of t1 t2) sent1 fault
      → StepStopped Reports Cause before waited all (step_of t0 t2) sent0 fault
  stopped_on Cause Next before waited all first mid between second more t0 t1 t2 sent0 sent1 fault parts causes a (inl s) =
      let bytes = length-append a.written s.written in
      inl (record {
        written = a.written ++ s.written;
        wrote = Appends-trans t0.held t1.held t2.held a.written s.written a.wrote s.wrote;
        truncated = record {
          done = first ++ s.truncated.done;
          more = s.truncated.more ++ more;
          text = a.text ++ s.truncated.text;
          left = s.truncated.left;
          first = parts ∙ ap (λ z. first ++ (z ++ more)) s.truncated.first ∙ ap (λ z. first ++ z) (append_assoc s.truncated.done s.truncated.more more)
              ∙ sym (append_assoc first s.truncated.done (s.truncated.more ++ more));
          print = print_next_line before mid first s.truncated.done a.text s.truncated.text a.counted a.print s.truncated.print;
          front = seam waited a.text a.written between s.truncated.text s.written s.truncated.left a.parts s.truncated.front;
        };
        fault_is = s.fault_is ∙ ap stream.Write {x = sent1 + length s.written} {y = sent0 + length (a.written ++ s.written)} (omega (arith, a.sent, bytes));
        failure = omega (arith, s.failure, a.no_failure);
      })
  stopped_on Cause Next before waited all first mid between second more t0 t1 t2 sent0 sent1 fault parts causes a (inr s) =
      let lines = length-append first s.done in
      let joined : a.written ++ (between ++ s.text) ≡ waited ++ (a.text ++ s.text) =
      sym (append_assoc a.written between s.text) ∙ ap (λ z. z ++ s.text) (sym a.parts) ∙ append_assoc waited a.text s.text in
      inr (record {
        text = a.text ++ s.text;
        wrote = subst (λ w. Appends t0.held t2.held w) joined (Appends-trans t0.held t1.held t2.held a.written (between ++ s.text) a.wrote s.wrote);
        done = first ++ s.done;
        print = print_next_line before mid first s.done a.text s.text a.counted a.print s.print;
        error = s.error;
        fault_is = s.fault_is
            ∙ ap (λ k. stream.Line k s.error) {x = mid + length s.done + 1} {y = before + length (first ++ s.done) + 1} (omega (arith, a.counted, lines));
        cause = causes s.done s.error s.cause;
        no_failure = s.no_failure ∙ a.no_failure;
      })

  -- a step that left nothing waiting
  pub stepped_of : (before : ℕ) (lines : List (List ℕ)) (after : ℕ) (waits : List ℕ) (t0 t1 : WriterState) (sent0 sent1 : ℕ)
      → waits ≡ [] → Advanced Reports before [] lines after waits (step_of t0 t1) sent0 sent1 → Stepped Reports before lines after (step_of t0 t1) sent0 sent1
  stepped_of before lines after waits t0 t1 sent0 sent1 none a =
      let same : a.text ≡ a.written = a.parts ∙ ap (λ w. a.written ++ w) none ∙ append-nil a.written in
      record {
        text = a.written;
        print = subst (λ t. AllPrint Reports (before + 1) lines t) same a.print;
        counted = a.counted;
        wrote = a.wrote;
        sent = a.sent;
        no_failure = a.no_failure;
      }

  -- ---- a write failed at the end, before the flush

  pub end_write_stopped : (Cause : List (List ℕ) → LineError → Type 0) (before : ℕ) (lines : List (List ℕ)) (after : ℕ) (out_before out : List ℕ) (t0 t1 : WriterState) (sent : ℕ) (fault : StreamFault)
      → out_before ≡ []
      → Processed Reports before out_before lines after out
      → IsCutWrite t0 t1 out sent fault
      → t1.failures ≡ t0.failures + 1
      → t1.flushes ≡ t0.flushes
      → EndStopped Reports Cause before lines (step_of t0 t1) sent fault
  end_write_stopped Cause before lines after out_before out t0 t1 sent fault e worked truncated failure no_flush =
      inl (
        cut_stopped Cause before [] lines lines [] out worked.text t0 t1 sent fault (sym (append-nil lines)) worked.print
            (worked.appended ∙ ap (λ o. o ++ worked.text) e) truncated failure,
        no_flush,
      )
