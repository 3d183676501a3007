-- The output of a text followed by another one, line by line.
use Rattle.std.proofs.Common.{◌≡◌, ℕ, ◌+◌, List, [], ◌∷◌, ◌++◌, length, Option, Some, inl, inr, sym, ap, ◌∙◌, subst, arith, append-nil}
use Rattle.std.specs.Prelude.{Result}
use Rattle.mj_model.specs.Output.{BadLine, Output, text_lines}
use Rattle.mj_model.specs.TextLines.{complete_lines}
use Rattle.line_stream.specs.declared.line_fault.LineFault.{LineFault}
use Rattle.segmenter.specs.JoinedTexts.{EndsLine, OutputsJoin, OutputStops, counted_after}
use Rattle.out_format.specs.PrintedLines.{LineResult}
use Rattle.line_stream.specs.Steps.{last_line}
use Rattle.line_stream.proofs.GoodRuns.{text_lines-following}
use Rattle.line_stream.proofs.PrintedAfter.{print_append}
use Rattle.line_stream.proofs.RunWork.{text_lines-parts}

-- the lines of a text that ends with an LF or is empty are its complete lines
lines_whole : (text : List ℕ) → EndsLine text → text_lines text ≡ complete_lines text
lines_whole text e = text_lines-parts text ∙ ap (λ o. complete_lines text ++ last_line o) e ∙ append-nil (complete_lines text)

-- the lines of two texts: the lines of the second follow those of the first
lines_joined : (first second : List ℕ) → EndsLine first → text_lines (first ++ second) ≡ text_lines first ++ text_lines second
lines_joined first second e =
    text_lines-following first second
    ∙ ap (λ o. complete_lines first ++ text_lines (o ++ second)) e
    ∙ ap (λ ws. ws ++ text_lines second) (sym (lines_whole first e))

module _ (Says : List ℕ → Result (List ℕ) LineFault → Type 0) where
  -- lines that are numbered from a greater number
  output_after : (k n : ℕ) (lines : List (List ℕ)) (out : List ℕ) (bad : Option (BadLine LineFault)) → Output Says n lines out bad
      → Output Says (k + n) lines out (counted_after k bad)
  output_after k n [] out bad h = (h.0, ap (counted_after k) h.1)
  output_after k n (line ∷ lines) out bad (inl h) = inl (h.0, h.1, h.2, ap (counted_after k) h.3)
  output_after k n (line ∷ lines) out bad (inr h) =
      inr (h.0, h.1, h.2, subst (λ m. Output Says m lines h.1 (counted_after k bad)) {x = k + (n + 1)} {y = (k + n) + 1} (omega (arith)) (output_after k (n + 1) lines h.1 bad h.3), h.4)

  -- no line after an invalid one has output
  output_stops : (n : ℕ) (lines more : List (List ℕ)) (out : List ℕ) (bad : BadLine LineFault) → Output Says n lines out (Some bad)
      → Output Says n (lines ++ more) out (Some bad)
  output_stops n [] more out bad h = absurd (let is = h.1 in cc)
  output_stops n (line ∷ lines) more out bad (inl h) = inl h
  output_stops n (line ∷ lines) more out bad (inr h) = inr (h.0, h.1, h.2, output_stops (n + 1) lines more h.1 bad h.3, h.4)

pub outputs_join : OutputsJoin
outputs_join o format first second out more bad e h k =
    let count = length (text_lines first) in
    let shifted = output_after (LineResult o format) count 1 (text_lines second) more bad k in
    let after = subst (λ m. Output (LineResult o format) m (text_lines second) more (counted_after count bad)) {x = count + 1} {y = 1 + count} (omega (arith)) shifted in
    subst (λ ws. Output (LineResult o format) 1 ws (out ++ more) (counted_after count bad)) (sym (lines_joined first second e))
    (print_append (LineResult o format) 1 (text_lines first) (text_lines second) out more (counted_after count bad) h after)

pub output_stops_at : OutputStops
output_stops_at o format first second out bad e h =
    subst (λ ws. Output (LineResult o format) 1 ws out (Some bad)) (sym (lines_joined first second e))
    (output_stops (LineResult o format) 1 (text_lines first) (text_lines second) out bad h)
