-- Lexicons read one after another.
use Rattle.std.proofs.Common.{◌≡◌, ℕ, ◌+◌, ◌<◌, ◌≤◌, List, [], ◌∷◌, ◌++◌, length, map, drop, take, get_or, Bor, inl, inr, take_all, refl, sym, ap, ◌∙◌, subst, append_assoc}
use Rattle.std.proofs.lemmas.List.{append-nil, map-append, take-append-drop}
use Rattle.std.specs.Prelude.{None, Result, Ok, Err}
use Rattle.mj_model.specs.declared.source_fault.SourceFault.{SourceFault}
use Rattle.mj_model.specs.declared.matrix_sizes.MatrixSizes.{MatrixSizes}
use Rattle.mj_model.specs.Dictionary.{first_outside, next_file, AreLexicons}
use Rattle.mj_model.specs.FirstFault.{IsMemoryOr}
use Rattle.mj_model.specs.Lexicon.{Row, SkipLines, SkipsLines}
use Rattle.dict_compile.proofs.SkipLemmas.{before_more, bytes_before, skips_more, skips_of}
use Rattle.dict_compile.proofs.StepLemmas.{steps_push}
use Rattle.dict_compile.specs.Steps.{AreLexiconSteps}
use Rattle.dict_compile.specs.declared.watch.CompileStep.{CompileStep}
use Rattle.dict_compile.specs.declared.watch.CompileStep.TheVariants.{LexiconRead}
use Rattle.lex_source.specs.AddedLexicon.{AddsLexicon, IsLexiconFault}
use Rattle.lex_source.specs.Lexicons.{LexiconRows}

-- ---- a lexicon between those before and after it

abbrev bytes_left : List (Bor (List ℕ)) → ℕ → List (List ℕ)
bytes_left lexicons i = map (λ (lexicon : Bor (List ℕ)). lexicon.now) (drop i lexicons)

all_bytes : (lexicons : List (Bor (List ℕ))) (i : ℕ) → bytes_before lexicons i ++ bytes_left lexicons i ≡ map (λ (lexicon : Bor (List ℕ)). lexicon.now) lexicons
all_bytes lexicons i =
    sym (map-append (λ (lexicon : Bor (List ℕ)). lexicon.now) (take i lexicons) (drop i lexicons)) ∙ ap (map (λ (lexicon : Bor (List ℕ)). lexicon.now)) (take-append-drop i lexicons)

-- if further lexicons are read after the rows so far, all are read together
abbrev pub ReadOn : MatrixSizes → ℕ → List Row → List (List ℕ) → Type 0
ReadOn sizes file rows before =
    (more : List (List ℕ)) (read : Result (List Row) SourceFault) → AreLexicons sizes file rows more read → AreLexicons sizes 3 [] (before ++ more) read

-- the lexicons so far read as their rows
lexicons_so_far : (sizes : MatrixSizes) (file : ℕ) (rows : List Row) (before : List (List ℕ)) → ReadOn sizes file rows before → AreLexicons sizes 3 [] before (Ok rows)
lexicons_so_far sizes file rows before so_far = subst (λ bs. AreLexicons sizes 3 [] bs (Ok rows)) (append-nil before) (so_far [] (Ok rows) refl)

module _ (sizes : MatrixSizes) (file : ℕ) (lexicons : List (Bor (List ℕ))) (i : ℕ) (d : Bor (List ℕ)) (low : i < length lexicons) (old : LexiconRows) (same : old.sizes ≡ sizes)
    (so_far : ReadOn sizes file old.rows (bytes_before lexicons i)) where
  first_apart : (more : List (List ℕ)) (read : Result (List Row) SourceFault) → AreLexicons sizes file old.rows ((get_or lexicons i d).now ∷ more) read
      → AreLexicons sizes 3 [] (bytes_before lexicons (i + 1) ++ more) read
  first_apart more read h =
      let joined : bytes_before lexicons (i + 1) ++ more ≡ bytes_before lexicons i ++ (get_or lexicons i d).now ∷ more =
      ap (λ (bs : List (List ℕ)). bs ++ more) (before_more lexicons i d low) ∙ append_assoc (bytes_before lexicons i) ((get_or lexicons i d).now ∷ []) more in
      subst (λ bs. AreLexicons sizes 3 [] bs read) (sym joined) (so_far ((get_or lexicons i d).now ∷ more) read h)

  within : (rows : List Row) → first_outside file old.sizes rows ≡ None → first_outside file sizes rows ≡ None
  within rows h = ap (λ (s : MatrixSizes). first_outside file s rows) (sym same) ∙ h

  pub lexicons_more : (new : LexiconRows) (skipped next : ℕ) → next ≡ next_file file → AddsLexicon file (get_or lexicons i d).now old new skipped
      → ReadOn sizes next new.rows (bytes_before lexicons (i + 1))
  lexicons_more new skipped next e a = λ more read h.
      first_apart more read (inr (inr (
        a.lines,
        a.reads,
        within a.lines.rows a.within,
        subst (λ rows. AreLexicons sizes (next_file file) rows more read) a.added (subst (λ n. AreLexicons sizes n new.rows more read) e h),
      )))

  pub steps_more : (new : LexiconRows) (skipped next : ℕ) → next ≡ next_file file → AddsLexicon file (get_or lexicons i d).now old new skipped
      → (steps : List CompileStep) → AreLexiconSteps sizes (bytes_before lexicons i) steps → AreLexiconSteps sizes (bytes_before lexicons (i + 1)) (steps ++ LexiconRead (length new.rows) ∷ [])
  steps_more new skipped next e a steps h =
      let joined = before_more lexicons i d low in
      let read = lexicons_so_far sizes next new.rows (bytes_before lexicons (i + 1)) (lexicons_more new skipped next e a) in
      subst (λ ls. AreLexiconSteps sizes ls (steps ++ LexiconRead (length new.rows) ∷ [])) (sym joined)
      (steps_push sizes (bytes_before lexicons i) (get_or lexicons i d).now steps new.rows h (subst (λ ls. AreLexicons sizes 3 [] ls (Ok new.rows)) joined read))

  pub lexicons_fault : (fault : SourceFault) → IsMemoryOr fault (IsLexiconFault file (get_or lexicons i d).now old fault)
      → IsMemoryOr fault (AreLexicons sizes 3 [] (map (λ (lexicon : Bor (List ℕ)). lexicon.now) lexicons) (Err fault))
  lexicons_fault fault (inl memory) = inl memory
  lexicons_fault fault (inr (inl lines)) =
      inr (subst (λ bs. AreLexicons sizes 3 [] bs (Err fault)) (all_bytes lexicons (i + 1)) (first_apart (bytes_left lexicons (i + 1)) (Err fault) (inl (fault, lines, refl))))
  lexicons_fault fault (inr (inr ids)) =
      inr (subst (λ bs. AreLexicons sizes 3 [] bs (Err fault)) (all_bytes lexicons (i + 1)) (first_apart (bytes_left lexicons (i + 1)) (Err fault)
      (inr (inl (ids.0, fault, ids.1, ap (λ (s : MatrixSizes). first_outside file s ids.0.rows) (sym same) ∙ ids.2, refl)))))

-- no lexicon remains
pub all_before : (lexicons : List (Bor (List ℕ))) (i : ℕ) → length lexicons ≤ i → bytes_before lexicons i ≡ map (λ (lexicon : Bor (List ℕ)). lexicon.now) lexicons
all_before lexicons i all = ap (map (λ (lexicon : Bor (List ℕ)). lexicon.now)) (take_all i lexicons all)

pub lexicons_end : (sizes : MatrixSizes) (file : ℕ) (lexicons : List (Bor (List ℕ))) (i : ℕ) (rows : List Row) → length lexicons ≤ i → ReadOn sizes file rows (bytes_before lexicons i)
    → AreLexicons sizes 3 [] (map (λ (lexicon : Bor (List ℕ)). lexicon.now) lexicons) (Ok rows)
lexicons_end sizes file lexicons i rows all so_far =
    subst (λ bs. AreLexicons sizes 3 [] bs (Ok rows)) (all_before lexicons i all) (lexicons_so_far sizes file rows (bytes_before lexicons i) so_far)

-- an added lexicon is one more that skips lines
pub added_skips : (file : ℕ) (lexicons : List (Bor (List ℕ))) (i : ℕ) (d : Bor (List ℕ)) → i < length lexicons → (old new : LexiconRows) (skipped n : ℕ)
    → SkipLines (bytes_before lexicons i) skipped → AddsLexicon file (get_or lexicons i d).now old new n → SkipLines (bytes_before lexicons (i + 1)) (skipped + n)
added_skips file lexicons i d low old new skipped n h a =
    skips_more lexicons i d skipped n low h (subst (SkipsLines (get_or lexicons i d).now) a.skips (skips_of file (length old.rows) (get_or lexicons i d).now a.lines a.reads))

-- no lexicon remains to skip lines
pub skips_end : (lexicons : List (Bor (List ℕ))) (i skipped : ℕ) → length lexicons ≤ i → SkipLines (bytes_before lexicons i) skipped
    → SkipLines (map (λ (lexicon : Bor (List ℕ)). lexicon.now) lexicons) skipped
skips_end lexicons i skipped all h = subst (λ ls. SkipLines (map (λ (lexicon : Bor (List ℕ)). lexicon.now) ls) skipped) (take_all i lexicons all) h
