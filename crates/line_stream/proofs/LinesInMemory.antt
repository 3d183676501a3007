-- The lines of a text in memory, printed one by one: the remainder of the text follows those that
-- printed.
use Rattle.std.proofs.Common.{◌≡◌, ℕ, ◌+◌, ◌<◌, ◌≤◌, true, List, [], ◌∷◌, ◌++◌, length, take, drop, get_or, suc, refl, sym, ap, ◌∙◌, subst, arith, append_assoc, append-nil, length-append}
use Rattle.std.specs.Prelude.{None, Some, Result, Err}
use Rattle.std.proofs.Math.Seq.{split_at}
use Rattle.memchr.specs.Find.{Passes, is_byte, Nowhere, NoneBefore}
use Rattle.mj_model.specs.Bytes.{is_line_feed}
use Rattle.mj_model.specs.Lists.{GrowsBy}
use Rattle.mj_model.specs.Output.{Output, text_lines}
use Rattle.line_stream.specs.declared.line_fault.LineFault.{LineFault}
use Rattle.line_stream.specs.declared.line_fault.LineError.{LineError}
use Rattle.line_stream.specs.declared.line_fault.LineError.TheVariants.{Bad, Memory}
use Rattle.line_stream.specs.GoodLines.{IsGood}
use Rattle.line_stream.specs.LineErrors.{ReportsFault}
use Rattle.line_stream.specs.LinesInMemory.{PrintsLines, StopsAt}
use Rattle.line_stream.specs.StreamState.{AllPrint, HasNoFeed, IsPrinted}
use Rattle.line_stream.specs.Steps.{last_line}
use Rattle.line_stream.proofs.PieceLemmas.{complete_lines-none, unfinished_line-none, complete_lines-split_at_feed, unfinished_line-split_at_feed}
use Rattle.line_stream.proofs.PieceWork.{no_feed_before, no_feed_at_all}
use Rattle.line_stream.proofs.PrintedAfter.{bad_after, print_append, print_one}
use Rattle.line_stream.proofs.RunWork.{text_lines-parts}

-- ---- the lines of a text with an LF, and of one without

text_lines-split_at_feed : (xs : List ℕ) (c : ℕ) (ys : List ℕ) → HasNoFeed xs → is_line_feed c ≡ true → text_lines (xs ++ c ∷ ys) ≡ xs ∷ text_lines ys
text_lines-split_at_feed xs c ys h e =
    text_lines-parts (xs ++ c ∷ ys) ∙ (λ i. complete_lines-split_at_feed xs c ys h e i ++ last_line (unfinished_line-split_at_feed xs c ys h e i))
    ∙ ap (λ z. xs ∷ z) (sym (text_lines-parts ys))

text_lines-none : (xs : List ℕ) → HasNoFeed xs → text_lines xs ≡ last_line xs
text_lines-none xs h = text_lines-parts xs ∙ (λ i. complete_lines-none xs h i ++ last_line (unfinished_line-none xs h i))

-- the line up to the next LF precedes those after it
pub lines_at : (rest : List ℕ) (at : ℕ) → NoneBefore (Passes (is_byte 10) rest) 0 (length rest) at → Passes (is_byte 10) rest at
    → text_lines rest ≡ take at rest ∷ text_lines (drop (at + 1) rest)
lines_at rest at first passes =
    ap text_lines (split_at rest at 0 first.high ∙ ap (λ n. take at rest ++ get_or rest at 0 ∷ drop n rest) {x = suc at} {y = at + 1} (omega arith))
    ∙ text_lines-split_at_feed (take at rest) (get_or rest at 0) (drop (at + 1) rest) (no_feed_before rest at (omega (arith, first.high)) first.before) passes

-- a remainder without an LF is the last line, unless it is empty
pub line_left : (rest : List ℕ) → 0 < length rest → Nowhere (Passes (is_byte 10) rest) 0 (length rest) → text_lines rest ≡ rest ∷ text_lines []
line_left [] some nowhere = absurd (omega (arith, some))
line_left (c ∷ cs) some nowhere = text_lines-none (c ∷ cs) (no_feed_at_all (c ∷ cs) nowhere)

module _ (Reports : List ℕ → Result (List ℕ) LineFault → Type 0) where
  -- the lines before the remainder printed, their number is known, and the output grew by theirs
  pub record Printing (text rest : List ℕ) (lines : ℕ) (before now : List ℕ) : Type 0 where
    pub done : List (List ℕ)
    pub shown : List ℕ
    pub parts : text_lines text ≡ done ++ text_lines rest
    pub printed : AllPrint Reports 1 done shown
    pub grew : now ≡ before ++ shown
    pub counted : lines ≡ length done
    pub few : lines + length rest ≤ length text

  module _ (text rest : List ℕ) (lines : ℕ) (before now : List ℕ) (p : Printing text rest lines before now) where
    -- ---- the next line

    module _ (line following : List ℕ) (next : text_lines rest ≡ line ∷ text_lines following) where
      parts_next : text_lines text ≡ p.done ++ line ∷ text_lines following
      parts_next = p.parts ∙ ap (λ z. p.done ++ z) next

      pub printing_on : (lines_after : ℕ) (after : List ℕ) → length following < length rest → IsPrinted Reports line now after → lines_after ≡ lines + 1
          → Printing text following lines_after before after
      printing_on lines_after after short printed counted =
          let many = length-append p.done (line ∷ []) in
          record {
            done = p.done ++ line ∷ [];
            shown = p.shown ++ printed.0;
            parts = parts_next ∙ sym (append_assoc p.done (line ∷ []) (text_lines following));
            printed = print_append Reports 1 p.done (line ∷ []) p.shown printed.0 None p.printed (print_one Reports (1 + length p.done) line printed.0 printed.1);
            grew = printed.2 ∙ ap (λ z. z ++ printed.0) p.grew ∙ append_assoc before p.shown printed.0;
            counted = omega (arith, counted, p.counted, many);
            few = omega (arith, counted, p.few, short);
          }

      stops_at : (number : ℕ) (error : LineError) → number ≡ lines + 1 → ReportsFault (λ fault. Reports line (Err fault)) error
          → (error ≡ Memory → IsGood line) → StopsAt Reports text number error p.shown
      stops_at number (Bad fault) is reports good =
          subst (λ ls. Output Reports 1 ls p.shown (Some (record { number = number; fault = fault }))) (sym parts_next)
          (bad_after Reports 1 p.done (text_lines following) p.shown line fault number p.printed reports (omega (arith, is, p.counted)))
      stops_at number Memory is reports good =
          record {
            before = p.done;
            line = line;
            more = text_lines following;
            parts = parts_next;
            printed = p.printed;
            good = good refl;
            number_is = omega (arith, is, p.counted);
          }

      pub printing_stopped : (after : List ℕ) (number : ℕ) (error : LineError) → after ≡ now → number ≡ lines + 1
          → ReportsFault (λ fault. Reports line (Err fault)) error → (error ≡ Memory → IsGood line)
          → GrowsBy (StopsAt Reports text number error) before after
      printing_stopped after number error same is reports good = (p.shown, stops_at number error is reports good, same ∙ p.grew)

    -- ---- the remainder is empty

    pub printing_done : rest ≡ [] → GrowsBy (PrintsLines Reports text lines) before now
    printing_done none =
        let all : text_lines text ≡ p.done = p.parts ∙ ap (λ r. p.done ++ text_lines r) none ∙ append-nil p.done in (
          p.shown,
          record { printed = subst (λ ls. AllPrint Reports 1 ls p.shown) (sym all) p.printed; counted = p.counted ∙ ap length (sym all) },
          p.grew,
        )
