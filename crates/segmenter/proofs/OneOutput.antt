-- With dictionaries that cover every text a line has one output or one error, so a text has one
-- output.
use Rattle.std.proofs.Common.{◌≡◌, ℕ, ◌+◌, List, [], ◌∷◌, ◌++◌, length, Option, Some, None, inl, inr, refl, sym, ap, ◌∙◌, subst, arith}
use Rattle.std.specs.Prelude.{Result, Ok, Err}
use Rattle.std.specs.Str.{is_utf8}
use Rattle.std.proofs.lemmas.Bool.{both_ways, cases_Bool, cases_lt}
use Rattle.std.proofs.lemmas.Str.{is_utf8-from_IsUtf8, IsUtf8-from_is_utf8}
use Rattle.mj_model.specs.declared.limits.TheConstants.{SENTENCE_MAX}
use Rattle.mj_model.specs.declared.word.Word.{Word}
use Rattle.mj_model.specs.Output.{BadLine, Output, text_lines}
use Rattle.mj_model.specs.Tables.{Overlay}
use Rattle.out_format.specs.Formats.{Format}
use Rattle.out_format.specs.PrintedPaths.{PrintsPath}
use Rattle.out_format.proofs.OneText.{one_text}
use Rattle.mj_model.specs.PathLaws.{CoversTexts}
use Rattle.line_stream.specs.declared.line_fault.LineFault.{LineFault}
use Rattle.line_stream.specs.declared.line_fault.LineFault.TheVariants.{TooLong, NotUtf8}
use Rattle.segmenter.specs.OneOutput.{HasOneOutput}
use Rattle.line_stream.specs.GoodLines.{IsGood}
use Rattle.out_format.specs.PrintedLines.{IsBestPathText, LineResult}

-- ---- the result of a line

abbrev fault_or : LineFault → Result (List ℕ) LineFault → LineFault
fault_or other (Ok text) = other
fault_or other (Err fault) = fault

abbrev text_or : List ℕ → Result (List ℕ) LineFault → List ℕ
text_or other (Ok text) = text
text_or other (Err fault) = other

same_fault : (f g : LineFault) → ◌≡◌ {A = Result (List ℕ) LineFault} (Err f) (Err g) → f ≡ g
same_fault f g e = ap (fault_or f) e

same_reported : (x y : List ℕ) → ◌≡◌ {A = Result (List ℕ) LineFault} (Ok x) (Ok y) → x ≡ y
same_reported x y e = ap (text_or x) e

not_both : (x : List ℕ) (fault : LineFault) → ◌≡◌ {A = Result (List ℕ) LineFault} (Ok x) (Err fault) → ⊥
not_both x fault e = cc

module _ (o : Overlay) (format : Format) (covers : CoversTexts o) where
  -- a valid line has one best path, which prints one text
  one_print : (line x y : List ℕ) → IsGood line → IsBestPathText o format line x → IsBestPathText o format line y → y ≡ x
  one_print line x y good h k =
      let covered = covers line good.1 in
      let same : k.0 ≡ h.0 = covered.no_other k.0 k.1 ∙ sym (covered.no_other h.0 h.1) in
      let shown = one_text o format line h.0 in
      shown.2 y (subst (λ (path : List Word). PrintsPath o format line path y) same k.2) ∙ sym (shown.2 x h.2)

  one_reported : (line : List ℕ) (a b : Result (List ℕ) LineFault) → LineResult o format line a → LineResult o format line b → b ≡ a
  one_reported line (Ok x) (Ok y) h k = ap Ok (one_print line x y h.0 h.1 k.1)
  one_reported line (Ok x) (Err TooLong) h k = absurd (omega (arith, h.0.0, k))
  one_reported line (Ok x) (Err NotUtf8) h k = absurd (k.1 h.0.1)
  one_reported line (Err TooLong) (Ok y) h k = absurd (omega (arith, h, k.0.0))
  one_reported line (Err TooLong) (Err TooLong) h k = refl
  one_reported line (Err TooLong) (Err NotUtf8) h k = absurd (omega (arith, h, k.0))
  one_reported line (Err NotUtf8) (Ok y) h k = absurd (h.1 k.0.1)
  one_reported line (Err NotUtf8) (Err TooLong) h k = absurd (omega (arith, h.0, k))
  one_reported line (Err NotUtf8) (Err NotUtf8) h k = refl

  -- each line has a result
  some_reported : (line : List ℕ) → (reported : Result (List ℕ) LineFault) × LineResult o format line reported
  some_reported line = elim (cases_lt SENTENCE_MAX (length line)) [
    | inl long ↦ (Err TooLong, long)
    | inr short ↦ elim (cases_Bool (is_utf8 line)) [
      | inl is ↦
          let utf8 = IsUtf8-from_is_utf8 line is in
          let covered = covers line utf8 in
          let shown = one_text o format line covered.best in
          (Ok shown.0, ((short, utf8), (covered.best, covered.is_best, shown.1)))
      | inr is ↦ (Err NotUtf8, (short, λ utf8. both_ways (is_utf8 line) is (is_utf8-from_IsUtf8 line utf8)))
    ]
  ]

  -- ---- what lines print

  abbrev HasOutput : ℕ → List (List ℕ) → Type 0
  HasOutput n lines = (out : List ℕ) × (bad : Option (BadLine LineFault)) × Output (LineResult o format) n lines out bad

  with_first : (n : ℕ) (line : List ℕ) (lines : List (List ℕ)) (reported : Result (List ℕ) LineFault) → LineResult o format line reported → HasOutput (n + 1) lines → HasOutput n (line ∷ lines)
  with_first n line lines (Ok text) reports more = (text ++ more.0, more.1, inr (text, more.0, reports, more.2, refl))
  with_first n line lines (Err fault) reports more = ([], Some (record { number = n; fault = fault }), inl (fault, reports, refl, refl))

  some_output : (n : ℕ) (lines : List (List ℕ)) → HasOutput n lines
  some_output n [] = ([], None, (refl, refl))
  some_output n (line ∷ lines) = let reported = some_reported line in with_first n line lines reported.0 reported.1 (some_output (n + 1) lines)

  one_output_of : (n : ℕ) (lines : List (List ℕ)) (out other : List ℕ) (bad also_bad : Option (BadLine LineFault)) → Output (LineResult o format) n lines out bad
      → Output (LineResult o format) n lines other also_bad → (other ≡ out) × (also_bad ≡ bad)
  one_output_of n [] out other bad also_bad h k = (k.0 ∙ sym h.0, k.1 ∙ sym h.1)
  one_output_of n (line ∷ lines) out other bad also_bad (inl h) (inl k) =
      let same = same_fault k.0 h.0 (one_reported line (Err h.0) (Err k.0) h.1 k.1) in
      (k.2 ∙ sym h.2, k.3 ∙ ap (λ (fault : LineFault). Some (let b : BadLine LineFault = record { number = n; fault = fault } in b)) same ∙ sym h.3)
  one_output_of n (line ∷ lines) out other bad also_bad (inl h) (inr k) = absurd (not_both k.0 h.0 (one_reported line (Err h.0) (Ok k.0) h.1 k.2))
  one_output_of n (line ∷ lines) out other bad also_bad (inr h) (inl k) = absurd (not_both h.0 k.0 (sym (one_reported line (Ok h.0) (Err k.0) h.2 k.1)))
  one_output_of n (line ∷ lines) out other bad also_bad (inr h) (inr k) =
      let same = same_reported k.0 h.0 (one_reported line (Ok h.0) (Ok k.0) h.2 k.2) in
      let rest = one_output_of (n + 1) lines h.1 k.1 bad also_bad h.3 k.3 in
      (k.4 ∙ (λ i. same i ++ rest.0 i) ∙ sym h.4, rest.1)

pub one_output : HasOneOutput
one_output o format text covers =
    let some = some_output o format covers 1 (text_lines text) in
    (some.0, some.1, some.2, λ other also_bad h. one_output_of o format covers 1 (text_lines text) some.0 other some.1 also_bad some.2 h)
