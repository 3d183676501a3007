-- If nothing fails, a run returns Ok or Memory: each other error has a cause.
use Rattle.std.proofs.Common.{◌≡◌, ℕ, ◌+◌, ◌≤◌, ◌<◌, Bool, true, false, cond, List, [], ◌∷◌, ◌++◌, length, All, refl, sym, ap, ◌∙◌, subst, arith, append_assoc, append-nil, length-append, inl, inr}
use Rattle.std.specs.Prelude.{Option, Some, None, Result, Err, nat_lt}
use Rattle.std.proofs.lemmas.List.Elements.{All-head, All-tail, All-cons, All-nil, All-append}
use Rattle.std.proofs.lemmas.Bool.{le-ltb}
use Rattle.std.specs.List.{slice_split, onto_first}
use Rattle.std.specs.Io.KnownBytes.{Consumes, IsAtEnd}
use Rattle.mj_model.specs.Counts.{ReaderState, WriterState}
use Rattle.mj_model.specs.declared.limits.TheConstants.{SENTENCE_MAX}
use Rattle.mj_model.specs.Bytes.{is_line_feed}
use Rattle.mj_model.specs.Lines.{without_last_empty}
use Rattle.mj_model.specs.Output.{Output, BadLine, text_lines}
use Rattle.mj_model.specs.TextLines.{complete_lines, unfinished_line}
use Rattle.line_stream.specs.declared.line_fault.LineFault.{LineFault}
use Rattle.line_stream.specs.declared.line_fault.LineFault.TheVariants.{TooLong, NotUtf8}
use Rattle.line_stream.specs.declared.line_fault.LineError.TheVariants.{Bad, Memory}
use Rattle.line_stream.specs.declared.line_fault.StreamFault.{StreamFault}
use Rattle.line_stream.specs.declared.line_fault.StreamFault.TheVariants as stream
use Rattle.line_stream.specs.GoodRuns.{EndsWithin, NothingFails, IsOkOrMemory}
use Rattle.line_stream.specs.GoodLines.{IsGood}
use Rattle.line_stream.specs.LineErrors.{run_fault}
use Rattle.line_stream.specs.StreamState.{HasNoFeed}
use Rattle.line_stream.specs.Runs.{BoundPassed, StreamOutcome, run_state, has_ended, lines_read}
use Rattle.line_stream.specs.Steps.{last_line}
use Rattle.line_stream.proofs.PieceLemmas.{split_cons, complete_lines-append, unfinished_line-append}
use Rattle.line_stream.proofs.RunWork.{text_lines-parts, open_no_feed}

-- ---- parts of a list of good lines

prefix_all : (P : List ℕ → Type 0) (xs ys : List (List ℕ)) → All P (xs ++ ys) → All P xs
prefix_all P [] ys h = All-nil P
prefix_all P (x ∷ xs) ys h = All-cons P x xs (All-head P x (xs ++ ys) h) (prefix_all P xs ys (All-tail P x (xs ++ ys) h))

back_all : (P : List ℕ → Type 0) (xs ys : List (List ℕ)) → All P (xs ++ ys) → All P ys
back_all P [] ys h = h
back_all P (x ∷ xs) ys h = back_all P xs ys (All-tail P x (xs ++ ys) h)

-- ---- a text is the complete lines of a prefix, and the lines of what follows

pub text_lines-following : (bytes rest : List ℕ) → text_lines (bytes ++ rest) ≡ complete_lines bytes ++ text_lines (unfinished_line bytes ++ rest)
text_lines-following bytes rest =
    let all = bytes ++ rest in
    let following = unfinished_line bytes ++ rest in
    text_lines-parts all
    ∙ ap (λ z. z ++ last_line (unfinished_line all)) (complete_lines-append bytes rest)
    ∙ ap (λ o. (complete_lines bytes ++ complete_lines following) ++ last_line o) (unfinished_line-append bytes rest)
    ∙ append_assoc (complete_lines bytes) (complete_lines following) (last_line (unfinished_line following))
    ∙ ap (λ z. complete_lines bytes ++ z) (sym (text_lines-parts following))

-- the first piece of bytes extends over a prefix without an LF
record GoesOn (front rest : List ℕ) : Type 0 where
  first : List ℕ
  more : List (List ℕ)
  is : slice_split is_line_feed (front ++ rest) ≡ (front ++ first) ∷ more

onto : (b : Bool) (c : ℕ) (x : List ℕ) (xss yss : List (List ℕ)) → b ≡ false → yss ≡ x ∷ xss → cond b ([] ∷ yss) (onto_first c yss) ≡ (c ∷ x) ∷ xss
onto true c x xss yss e is = absurd (cc)
onto false c x xss yss e is = ap (onto_first c) is

goes_on : (front rest : List ℕ) → HasNoFeed front → GoesOn front rest
goes_on [] rest none = let s = split_cons rest in record { first = s.first; more = s.more; is = s.is }
goes_on (c ∷ cs) rest none =
    let next = goes_on cs rest (All-tail (λ d. is_line_feed d ≡ false) c cs none) in
    record {
      first = next.first;
      more = next.more;
      is = onto (is_line_feed c) c (cs ++ next.first) next.more (slice_split is_line_feed (cs ++ rest))
          (All-head (λ d. is_line_feed d ≡ false) c cs none) next.is;
    }

first_kept : (P : List ℕ → Type 0) (c : ℕ) (cs : List ℕ) (more : List (List ℕ)) → All P (without_last_empty ((c ∷ cs) ∷ more)) → P (c ∷ cs)
first_kept P c cs [] h = All-head P (c ∷ cs) [] h
first_kept P c cs (next ∷ more) h = All-head P (c ∷ cs) (without_last_empty (next ∷ more)) h

prefix_short : (front rest : List ℕ) → HasNoFeed front → All IsGood (text_lines (front ++ rest)) → length front ≤ SENTENCE_MAX
prefix_short [] rest none good = omega arith
prefix_short (c ∷ cs) rest none good =
    let next = goes_on (c ∷ cs) rest none in
    let first = first_kept IsGood c (cs ++ next.first) next.more (subst (λ ps. All IsGood (without_last_empty ps)) next.is good) in
    let short = first.0 in
    let total = length-append (c ∷ cs) next.first in
    omega (arith, short, total)

-- no line of what is read of a valid text is too long
open_short : (bytes rest : List ℕ) → All IsGood (text_lines (bytes ++ rest)) → length (unfinished_line bytes) ≤ SENTENCE_MAX
open_short bytes rest good = prefix_short (unfinished_line bytes) rest (open_no_feed bytes)
    (back_all IsGood (complete_lines bytes) (text_lines (unfinished_line bytes ++ rest)) (subst (λ ls. All IsGood ls) (text_lines-following bytes rest) good))

whole_good : (bytes rest : List ℕ) → All IsGood (text_lines (bytes ++ rest)) → All IsGood (complete_lines bytes)
whole_good bytes rest good =
    prefix_all IsGood (complete_lines bytes) (text_lines (unfinished_line bytes ++ rest)) (subst (λ ls. All IsGood ls) (text_lines-following bytes rest) good)

read_good : (ended : Bool) (bytes rest : List ℕ) → (ended ≡ true → rest ≡ []) → All IsGood (text_lines (bytes ++ rest)) → All IsGood (lines_read ended bytes)
read_good true bytes rest none good = subst (λ bs. All IsGood (text_lines bs)) (ap (λ r. bytes ++ r) (none refl) ∙ append-nil bytes) good
read_good false bytes rest none good = whole_good bytes rest good

abbrev IsShort : List ℕ → Type 0
IsShort line = length line ≤ SENTENCE_MAX

good_short : (lines : List (List ℕ)) → All IsGood lines → All IsShort lines
good_short [] good = All-nil IsShort
good_short (x ∷ xs) good = let head = All-head IsGood x xs good in All-cons IsShort x xs head.0 (good_short xs (All-tail IsGood x xs good))

last_short : (tail : List ℕ) → length tail ≤ SENTENCE_MAX → All IsShort (last_line tail)
last_short [] h = All-nil IsShort
last_short (c ∷ cs) h = All-cons IsShort (c ∷ cs) [] h (All-nil IsShort)

read_short : (bytes rest : List ℕ) → All IsGood (text_lines (bytes ++ rest)) → All IsShort (text_lines bytes)
read_short bytes rest good =
    subst (λ ls. All IsShort ls) (sym (text_lines-parts bytes))
    (All-append IsShort (complete_lines bytes) (last_line (unfinished_line bytes)) (good_short (complete_lines bytes) (whole_good bytes rest good))
    (last_short (unfinished_line bytes) (open_short bytes rest good)))

-- ---- the remainder of a known text

record Cut (text bytes : List ℕ) (left : Option (List ℕ)) : Type 0 where
  rest : List ℕ
  parts : text ≡ bytes ++ rest
  none : IsAtEnd left → rest ≡ []

abbrev some_or : List ℕ → Option (List ℕ) → List ℕ
some_or other None = other
some_or other (Some xs) = xs

cut_text : (before after : Option (List ℕ)) (text bytes : List ℕ) → before ≡ Some text → Consumes before after bytes → Cut text bytes after
cut_text None after text bytes e h = absurd (cc)
cut_text (Some xs) None text bytes e h = absurd h
cut_text (Some xs) (Some ys) text bytes e h = let same : xs ≡ text = ap (some_or []) e in record { rest = ys; parts = sym same ∙ h; none = λ at_end. at_end }

-- ---- an invalid line among valid ones

module _ (T : List ℕ → Result (List ℕ) LineFault → Type 0)
    (not_good : (line : List ℕ) (fault : LineFault) → T line (Err fault) → IsGood line → ⊥)
    (too_long : (line : List ℕ) → T line (Err TooLong) → SENTENCE_MAX < length line) where
  none_bad : (n : ℕ) (lines : List (List ℕ)) (out : List ℕ) (bad : BadLine LineFault) → All IsGood lines → Output T n lines out (Some bad) → ⊥
  none_bad n [] out bad good h = let clash = h.1 in absurd (cc)
  none_bad n (x ∷ xs) out bad good (inl h) = not_good x h.0 h.1 (All-head IsGood x xs good)
  none_bad n (x ∷ xs) out bad good (inr h) = none_bad (n + 1) xs h.1 bad (All-tail IsGood x xs good) h.3

  too_long_is : (line : List ℕ) (fault : LineFault) → fault ≡ TooLong → T line (Err fault) → SENTENCE_MAX < length line
  too_long_is line fault e reports = too_long line (subst (λ x. T line (Err x)) e reports)

  abbrev fault_or : LineFault → Option (BadLine LineFault) → LineFault
  fault_or other None = other
  fault_or other (Some bad) = bad.fault

  none_too_long : (n : ℕ) (lines : List (List ℕ)) (out : List ℕ) (bad : BadLine LineFault) → bad.fault ≡ TooLong → All IsShort lines
      → Output T n lines out (Some bad) → ⊥
  none_too_long n [] out bad e short h = let clash = h.1 in absurd (cc)
  none_too_long n (x ∷ xs) out bad e short (inl h) =
      let same : bad.fault ≡ h.0 = ap (fault_or TooLong) h.3 in
      let long = too_long_is x h.0 (sym same ∙ e) h.1 in
      let low = All-head IsShort x xs short in
      absurd (omega (arith, long, low))
  none_too_long n (x ∷ xs) out bad e short (inr h) = none_too_long (n + 1) xs h.1 bad e (All-tail IsShort x xs short) h.3

  -- ---- reads that did not meet the end

  -- each returned a byte at least, and none met the end
  too_many_reads : (bound : ℕ) (from to : ReaderState) (before after : WriterState) (text bytes rest : List ℕ) → text ≡ bytes ++ rest
      → BoundPassed bound bytes (run_state from before) (run_state to after) → to.ends ≡ from.ends
      → EndsWithin bound text (run_state from before) (run_state to after) → ⊥
  too_many_reads bound from to before after text bytes rest parts passed no_end (inl few) =
      let all = ap length parts ∙ length-append bytes rest in let gave = passed.gave in omega (arith, few, all, gave)
  too_many_reads bound from to before after text bytes rest parts passed no_end (inr ends) =
      let ended = ends passed.reads in
      let not_ended : has_ended (run_state from before) (run_state to after) ≡ false = ap (λ n. nat_lt from.ends n) no_end ∙ le-ltb from.ends from.ends (omega arith) in
      let clash : true ≡ false = sym ended ∙ not_ended in cc

  -- ---- the error of the stream

  pub good_run : (bound : ℕ) (from to : ReaderState) (before after : WriterState) (fault : StreamFault)
      → StreamOutcome T bound from to before after (Err fault) → NothingFails bound from to before after → IsOkOrMemory (Err (run_fault fault))
  good_run bound from to before after (stream.Read line) ran g =
      let failed = ran.ends.1.one_read in let none = g.no_failure.no_read in absurd (omega (arith, failed, none))
  good_run bound from to before after (stream.Write sent) ran g =
      let failed = ran.ends.1.one_write in let none = g.no_failure.no_write in absurd (omega (arith, failed, none))
  good_run bound from to before after (stream.Line line (Bad NotUtf8)) ran g =
      let ended = has_ended (run_state from before) (run_state to after) in
      let split_at_feed = cut_text from.left to.left g.text ran.bytes g.reported ran.read in
      let good = subst (λ t. All IsGood (text_lines t)) split_at_feed.parts g.good in
      none_bad 1 (lines_read ended ran.bytes) ran.written (record { number = line; fault = NotUtf8 })
      (read_good ended ran.bytes split_at_feed.rest (λ e. split_at_feed.none (ran.to_the_end e)) good) ran.ends.0
  good_run bound from to before after (stream.Line line (Bad TooLong)) ran g =
      let split_at_feed = cut_text from.left to.left g.text ran.bytes g.reported ran.read in
      let good = subst (λ t. All IsGood (text_lines t)) split_at_feed.parts g.good in
      none_too_long 1 (text_lines ran.bytes) ran.written (record { number = line; fault = TooLong }) refl
      (read_short ran.bytes split_at_feed.rest good) ran.ends.0
  good_run bound from to before after (stream.InputTooLong line) ran g =
      let split_at_feed = cut_text from.left to.left g.text ran.bytes g.reported ran.read in too_many_reads bound from to before after g.text ran.bytes split_at_feed.rest split_at_feed.parts ran.ends.1 ran.ends.0.no_end g.ends
  good_run bound from to before after (stream.Line line Memory) ran g = tt
