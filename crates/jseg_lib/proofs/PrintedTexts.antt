-- A run that ends with Ok printed its whole text.
use Rattle.std.proofs.Common.{◌≡◌, ℕ, ◌+◌, ap, subst, ◌∙◌, arith, lt-ltb, sym, append-nil}
use Rattle.std.specs.Prelude.{List, ◌++◌, [], Option, None, Some, IfOk, IfSome, Result, Ok, Err, String, nat_lt}
use Rattle.std.specs.Borrow.{Bor}
use Rattle.std.specs.declared.alloc.Global.{Global}
use Rattle.std.specs.Io.KnownBytes.{Consumes, IsAtEnd, Keeps}
use Rattle.mj_model.specs.Counts.{ReaderState, WriterState}
use Rattle.mj_model.specs.Tables.{Overlay}
use Rattle.mj_model.specs.declared.run_fault.RunFault.{RunFault}
use Rattle.image_format.specs.declared.digest_test.DigestTest.{DigestTest}
use Rattle.programs.specs.LoadedImages.{AreLoaded, IsLoadResult}
use Rattle.programs.specs.declared.fault.Fault.{Fault}
use Rattle.line_stream.specs.Runs.{RunOutcome}
use Rattle.jseg_lib.specs.Printing.{IsPrintedOver, OutputLineResult, requested_overlay}
use Rattle.jseg_lib.specs.Formatting.{IsRequested, requested_texts}
use Rattle.jseg_lib.specs.RequestedOutput.{IsPrintedBy, IsPrintedByImages, IsRequestedOutput}
use Rattle.command_lines.specs.declared.jseg.choices.Input.{Input}
use Rattle.command_lines.specs.declared.jseg.choices.Options.{Options}
use Rattle.jseg_lib.specs.declared.formatting.OutputForm.{OutputForm}
use Rattle.jseg_lib.specs.declared.source_directory.Directory.{Directory}

-- a reader that was read to its end gave all that remained
whole_text : (remaining from to : Option (List ℕ)) (bytes : List ℕ) → Keeps remaining from → Consumes from to bytes → IsAtEnd to → IfSome remaining (λ known. bytes ≡ known)
whole_text None from to bytes kept read ends = tt
whole_text (Some known) None to bytes kept read ends = absurd kept
whole_text (Some known) (Some all) None bytes kept read ends = absurd read
whole_text (Some known) (Some all) (Some left) bytes kept read ends =
    let joined : all ≡ bytes ++ [] = read ∙ ap (λ (x : List ℕ). bytes ++ x) ends in
    sym (sym kept ∙ joined ∙ append-nil bytes)

printed_over : (printed : OutputForm) (o : Overlay) (bound : ℕ) (remaining : Option (List ℕ)) (from to : ReaderState) (before after : WriterState) (lines : ℕ)
    → Keeps remaining from.left → RunOutcome (OutputLineResult printed o) bound from to before after (Ok lines)
    → IsPrintedOver printed o remaining before after lines
printed_over printed o bound remaining from to before after lines kept ran =
    let done = ran.ends.0 in
    let ended = ran.to_the_end (ap (λ n. nat_lt from.ends n) done.ended ∙ lt-ltb from.ends (from.ends + 1) (omega arith)) in
    record {
      text = ran.bytes;
      output = ran.written;
      whole = whole_text remaining from.left to.left ran.bytes kept ran.read ended;
      counted = done.counted;
      each_line = done.printed;
      written = ran.wrote;
      one_flush = done.one_flush;
      flushed = done.flushed;
    }

pub printed_if_ok : (printed : OutputForm) (system used : List ℕ) (users : List (List ℕ)) (grouping bound : ℕ) (remaining : Option (List ℕ)) (from to : ReaderState) (before after : WriterState)
    (ran : Result ℕ RunFault) (result : Result ℕ Fault) → used ≡ system → Keeps remaining from.left
    → RunOutcome (OutputLineResult printed (requested_overlay used users grouping)) bound from to before after ran → IfOk result (λ count. ran ≡ Ok count)
    → IfOk result (IsPrintedOver printed (requested_overlay system users grouping) remaining before after)
printed_if_ok printed system used users grouping bound remaining from to before after ran (Err fault) same kept outcome is = tt
printed_if_ok printed system used users grouping bound remaining from to before after ran (Ok lines) same kept outcome is =
    let by_system = subst (λ (s : List ℕ). RunOutcome (OutputLineResult printed (requested_overlay s users grouping)) bound from to before after ran) same outcome in
    let is_ok = subst (λ (r : Result ℕ RunFault). RunOutcome (OutputLineResult printed (requested_overlay system users grouping)) bound from to before after r) is by_system in
    printed_over printed (requested_overlay system users grouping) bound remaining from to before after lines kept is_ok

pub by_images : (loads : Bor (List ℕ) → DigestTest → Result (List ℕ) Fault → Type 0) (digest : DigestTest) (dic : List ℕ) (paths : List (String Global)) (grouping : ℕ) (printed : OutputForm)
    (system : List ℕ) (users : List (List ℕ)) (remaining : Option (List ℕ)) (before after : WriterState) (result : Result ℕ Fault)
    → IsLoadResult loads digest dic (Ok system) → AreLoaded loads digest paths users
    → IfOk result (IsPrintedOver printed (requested_overlay system users grouping) remaining before after)
    → IfOk result (IsPrintedByImages loads digest dic paths grouping printed remaining before after)
by_images loads digest dic paths grouping printed system users remaining before after (Ok lines) of_dic of_users over = (system, users, of_dic, of_users, over)
by_images loads digest dic paths grouping printed system users remaining before after (Err fault) of_dic of_users over = tt

pub as_requested : (loads : Bor (List ℕ) → DigestTest → Result (List ℕ) Fault → Type 0) (reads : Bor (List ℕ) → Result Directory Fault → Type 0) (options : Options) (input : Input) (printed : OutputForm)
    (remaining : Option (List ℕ)) (before after : WriterState) (result : Result ℕ Fault)
    → options.input ≡ input → IsRequested (requested_texts options) options.view printed
    → IfOk result (IsPrintedBy loads reads input options.grouping printed remaining before after)
    → IfOk result (IsRequestedOutput loads reads options remaining before after)
as_requested loads reads options input printed remaining before after (Err fault) is requested over = tt
as_requested loads reads options input printed remaining before after (Ok lines) is requested over =
    (printed, requested, subst (λ (i : Input). IsPrintedBy loads reads i options.grouping printed remaining before after lines) (sym is) over)
