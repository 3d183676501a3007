-- A run over a text, read by read.
use Rattle.std.proofs.Common.{◌≡◌, ℕ, ◌+◌, ◌*◌, ◌^◌, ◌<◌, ◌≤◌, Bool, true, false, cond, List, [], ◌∷◌, ◌++◌, length, get_or, zero, suc, refl, sym, ap, ◌∙◌, subst, arith, append_assoc, length-append}
use Rattle.std.proofs.lemmas.List.Elements.{All-nil, All-append}
use Rattle.std.specs.Prelude.{Option, None, Result}
use Rattle.std.specs.List.{slice_split, onto_first}
use Rattle.std.specs.Io.KnownBytes.{Appends, Consumes}
use Rattle.std.proofs.KnownBytes.{Appends-trans, Consumes-trans}
use Rattle.mj_model.specs.declared.limits.TheConstants.{SENTENCE_MAX}
use Rattle.mj_model.specs.Bytes.{is_line_feed}
use Rattle.mj_model.specs.Lines.{without_last_empty}
use Rattle.mj_model.specs.Output.{Output, BadLine, text_lines}
use Rattle.mj_model.specs.TextLines.{complete_lines, unfinished_line, all_but_last, last_piece}
use Rattle.line_stream.specs.declared.line_fault.LineFault.{LineFault}
use Rattle.line_stream.specs.StreamState.{HasNext, HasNoFeed, AllPrint}
use Rattle.line_stream.specs.Steps.{Step, Stepped, last_line}
use Rattle.line_stream.specs.Runs.{RunState}
use Rattle.line_stream.proofs.PrintedAfter.{print_append}
use Rattle.line_stream.proofs.PieceLemmas.{IsCons, split_cons, last_after, complete_lines-append, unfinished_line-append}

-- ---- the lines of a text: the complete ones, and the unfinished one if it is not empty

last_kept : (first : List ℕ) (more : List (List ℕ)) → without_last_empty (first ∷ more) ≡ all_but_last (first ∷ more) ++ last_line (last_piece (first ∷ more))
last_kept [] [] = refl
last_kept (c ∷ cs) [] = refl
last_kept first (next ∷ more) = ap (λ z. first ∷ z) (last_kept next more)

pub text_lines-parts : (bytes : List ℕ) → text_lines bytes ≡ complete_lines bytes ++ last_line (unfinished_line bytes)
text_lines-parts bytes =
    let c = split_cons bytes in
    ap without_last_empty c.is ∙ last_kept c.first c.more ∙ sym (ap (λ z. all_but_last z ++ last_line (last_piece z)) c.is)

pub last_there : (tail : List ℕ) → 0 < length tail → last_line tail ≡ tail ∷ []
last_there [] h = absurd (omega (arith, h))
last_there (c ∷ cs) h = refl

one_no_feed : (c k d : ℕ) → k < length (c ∷ []) → is_line_feed c ≡ false → is_line_feed (get_or (c ∷ []) k d) ≡ false
one_no_feed c zero d low e = e
one_no_feed c (suc k) d low e = absurd (omega (arith, low))

no_feed_cons : (c : ℕ) (cs : List ℕ) → is_line_feed c ≡ false → HasNoFeed cs → HasNoFeed (c ∷ cs)
no_feed_cons c cs e h = All-append (λ d. is_line_feed d ≡ false) (c ∷ []) cs (λ k d low. one_no_feed c k d low e) h

last_step : (b : Bool) (c : ℕ) (xss : List (List ℕ)) → IsCons xss → is_line_feed c ≡ b → HasNoFeed (last_piece xss)
    → HasNoFeed (last_piece (cond b ([] ∷ xss) (onto_first c xss)))
last_step true c xss n e h = subst HasNoFeed (sym (last_after [] xss n)) h
last_step false c [] n e h = absurd (let is = n.is in cc)
last_step false c (xs ∷ []) n e h = no_feed_cons c xs e h
last_step false c (xs ∷ next ∷ more) n e h = h

pub open_no_feed : (bytes : List ℕ) → HasNoFeed (unfinished_line bytes)
open_no_feed [] = All-nil (λ c. is_line_feed c ≡ false)
open_no_feed (c ∷ cs) = last_step (is_line_feed c) c (slice_split is_line_feed cs) (split_cons cs) refl (open_no_feed cs)

-- the complete lines with one more piece
pub whole_on : (bytes piece pending : List ℕ) → pending ≡ unfinished_line bytes → complete_lines (bytes ++ piece) ≡ complete_lines bytes ++ complete_lines (pending ++ piece)
whole_on bytes piece pending e = complete_lines-append bytes piece ∙ ap (λ o. complete_lines bytes ++ complete_lines (o ++ piece)) (sym e)

-- the lines with one more piece
lines_on : (bytes piece pending : List ℕ) → pending ≡ unfinished_line bytes → text_lines (bytes ++ piece) ≡ complete_lines bytes ++ text_lines (pending ++ piece)
lines_on bytes piece pending e =
    let open_is = unfinished_line-append bytes piece ∙ ap (λ o. unfinished_line (o ++ piece)) (sym e) in
    text_lines-parts (bytes ++ piece)
    ∙ ap (λ z. z ++ last_line (unfinished_line (bytes ++ piece))) (whole_on bytes piece pending e)
    ∙ append_assoc (complete_lines bytes) (complete_lines (pending ++ piece)) (last_line (unfinished_line (bytes ++ piece)))
    ∙ ap (λ o. complete_lines bytes ++ (complete_lines (pending ++ piece) ++ last_line o)) open_is
    ∙ ap (λ z. complete_lines bytes ++ z) (sym (text_lines-parts (pending ++ piece)))

-- if the unfinished line with one more piece has a next line, the whole text has it
pub next_on : (bytes piece pending : List ℕ) (done : List (List ℕ)) → pending ≡ unfinished_line bytes → HasNext (pending ++ piece) done
    → HasNext (bytes ++ piece) (complete_lines bytes ++ done)
next_on bytes piece pending done e next = (
  next.0,
  next.1,
  lines_on bytes piece pending e ∙ ap (λ z. complete_lines bytes ++ z) next.2 ∙ sym (append_assoc (complete_lines bytes) done (next.0 ∷ next.1)),
  next.3,
)

-- the effect of one turn of the loop on the writer
abbrev pub turn_step : Option (List ℕ) → Option (List ℕ) → RunState → RunState → Step
turn_step held1 held2 now after = record {
  held_before = held1;
  held_after = held2;
  failures_before = now.write_failures;
  failures_after = after.write_failures;
  flushes_before = now.flushes;
  flushes_after = after.flushes;
}

-- ---- a run at the start of a turn

module _ (Reports : List ℕ → Result (List ℕ) LineFault → Type 0) where
  pub record Running (left0 left1 held0 held1 : Option (List ℕ)) (before now : RunState) (turn : ℕ) (pending out : List ℕ) (lines sent : ℕ) : Type 0 where
    pub bytes : List ℕ
    pub written : List ℕ
    pub read : Consumes left0 left1 bytes
    pub wrote : Appends held0 held1 written
    pub print : AllPrint Reports 1 (complete_lines bytes) written
    pub open_is : pending ≡ unfinished_line bytes
    pub short : length pending ≤ SENTENCE_MAX
    pub counted : lines ≡ length (complete_lines bytes)
    pub sent_is : sent ≡ length written
    pub nothing_waits : out ≡ []
    pub few_lines : lines ≤ 2 ^ 16 * turn
    pub few_bytes : sent ≤ 2 ^ 82 * turn
    pub reads : now.reads ≡ before.reads + turn
    pub gave : turn ≤ length bytes
    pub ends : now.ends ≡ before.ends
    pub read_failures : now.read_failures ≡ before.read_failures
    pub write_failures : now.write_failures ≡ before.write_failures
    pub flushes : now.flushes ≡ before.flushes

  -- what printed so far, and then the lines of one more piece
  pub print_on : (bytes pending written text : List ℕ) (lines : ℕ) → AllPrint Reports 1 (complete_lines bytes) written → pending ≡ unfinished_line bytes → lines ≡ length (complete_lines bytes)
      → (ws : List (List ℕ)) (bad : Option (BadLine LineFault)) → Output Reports (lines + 1) ws text bad → Output Reports 1 (complete_lines bytes ++ ws) (written ++ text) bad
  print_on bytes pending written text lines h open_is counted ws bad out =
      print_append Reports 1 (complete_lines bytes) ws written text bad h (subst (λ m. Output Reports m ws text bad) {x = lines + 1} {y = 1 + length (complete_lines bytes)} (omega (arith, counted)) out)

  pub running_more : (left0 left1 left2 held0 held1 held2 : Option (List ℕ)) (before now after : RunState) (turn : ℕ) (pending out piece : List ℕ) (lines sent : ℕ) (pending_after out_after : List ℕ) (lines_after sent_after : ℕ)
      → Running left0 left1 held0 held1 before now turn pending out lines sent
      → Consumes left1 left2 piece → 0 < length piece → length piece ≤ 2 ^ 16
      → Stepped Reports lines (complete_lines (pending ++ piece)) lines_after (turn_step held1 held2 now after) sent sent_after
      → pending_after ≡ unfinished_line (pending ++ piece) → length pending_after ≤ SENTENCE_MAX → out_after ≡ [] → lines_after ≤ lines + length piece → sent_after ≤ sent + 2 ^ 82
      → after.reads ≡ now.reads + 1 → after.ends ≡ now.ends → after.read_failures ≡ now.read_failures → after.flushes ≡ now.flushes
      → Running left0 left2 held0 held2 before after (turn + 1) pending_after out_after lines_after sent_after
  running_more left0 left1 left2 held0 held1 held2 before now after turn pending out piece lines sent pending_after out_after lines_after sent_after r took some small s open_is short waits few_lines few_bytes reads ends failures flushes =
      let whole = whole_on r.bytes piece pending r.open_is in
      let wc = ap length whole ∙ length-append (complete_lines r.bytes) (complete_lines (pending ++ piece)) in
      let tl = length-append r.written s.text in
      let bl = length-append r.bytes piece in
      record {
        bytes = r.bytes ++ piece;
        written = r.written ++ s.text;
        read = Consumes-trans left0 left1 left2 r.bytes piece r.read took;
        wrote = Appends-trans held0 held1 held2 r.written s.text r.wrote s.wrote;
        print = subst (λ ws. AllPrint Reports 1 ws (r.written ++ s.text)) (sym whole)
            (print_on r.bytes pending r.written s.text lines r.print r.open_is r.counted (complete_lines (pending ++ piece)) None s.print);
        open_is = open_is ∙ ap (λ o. unfinished_line (o ++ piece)) r.open_is ∙ sym (unfinished_line-append r.bytes piece);
        short = short;
        counted = omega (arith, s.counted, r.counted, wc);
        sent_is = omega (arith, s.sent, r.sent_is, tl);
        nothing_waits = waits;
        few_lines = omega (arith, few_lines, small, r.few_lines);
        few_bytes = omega (arith, few_bytes, r.few_bytes);
        reads = omega (arith, reads, r.reads);
        gave = omega (arith, some, bl, r.gave);
        ends = ends ∙ r.ends;
        read_failures = failures ∙ r.read_failures;
        write_failures = s.no_failure ∙ r.write_failures;
        flushes = flushes ∙ r.flushes;
      }
