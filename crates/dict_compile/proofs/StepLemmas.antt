-- The steps of a compilation: one lexicon after another, then all sources.
use Rattle.std.proofs.Common.{◌≡◌, ℕ, ◌+◌, List, [], ◌∷◌, ◌++◌, length, take, refl, sym, ap, ◌∙◌, subst, arith, inl, inr, append_assoc}
use Rattle.std.proofs.lemmas.List.{length-append, take_all, take-append-le}
use Rattle.std.specs.Prelude.{Ok}
use Rattle.image_writer.proofs.TokenLemmas.{in_pushed}
use Rattle.mj_model.specs.declared.matrix_sizes.MatrixSizes.{MatrixSizes}
use Rattle.mj_model.specs.declared.sources.Sources.{Sources}
use Rattle.mj_model.specs.Dictionary.{AreLexicons}
use Rattle.mj_model.specs.Lexicon.{Row}
use Rattle.mj_model.specs.SourceTables.{lexicon_bytes}
use Rattle.dict_compile.specs.declared.parts.SourceParts.{SourceParts}
use Rattle.dict_compile.specs.declared.watch.CompileStep.{CompileStep}
use Rattle.dict_compile.specs.declared.watch.CompileStep.TheVariants.{LexiconRead, Sorted}
use Rattle.dict_compile.specs.Parts.{AreParts}
use Rattle.dict_compile.specs.Steps.{AreEntrySteps, AreLexiconSteps, AreReadingSteps, AreSteps, steps_before}

-- no lexicon was read
pub steps_none : (sizes : MatrixSizes) → AreLexiconSteps sizes [] []
steps_none sizes = record { one_each = refl; in_order = λ k step at. absurd (cc) }

-- one more lexicon was read, and these rows are the total
pub steps_push : (sizes : MatrixSizes) (before : List (List ℕ)) (bytes : List ℕ) (steps : List CompileStep) (rows : List Row) → AreLexiconSteps sizes before steps
    → AreLexicons sizes 3 [] (before ++ bytes ∷ []) (Ok rows) → AreLexiconSteps sizes (before ++ bytes ∷ []) (steps ++ LexiconRead (length rows) ∷ [])
steps_push sizes before bytes steps rows h read =
    let new : CompileStep = LexiconRead (length rows) in
    let long = length-append steps (new ∷ []) in
    let longer = length-append before (bytes ∷ []) in
    record {
      one_each = omega (arith, h.one_each, long, longer);
      in_order = λ k step at. elim (in_pushed steps new k step at) [
        | inl old ↦
            let was = h.in_order k step old.1 in
            let front : take (k + 1) (before ++ bytes ∷ []) ≡ take (k + 1) before = take-append-le (k + 1) before (bytes ∷ []) (omega (arith, old.0, h.one_each)) in
            record { rows = was.rows; are_rows = subst (λ ls. AreLexicons sizes 3 [] ls (Ok was.rows)) (sym front) was.are_rows; reported = was.reported }
        | inr last ↦
            let whole : take (k + 1) (before ++ bytes ∷ []) ≡ before ++ bytes ∷ [] = take_all (k + 1) (before ++ bytes ∷ []) (omega (arith, last.0, h.one_each, longer)) in
            record { rows = rows; are_rows = subst (λ ls. AreLexicons sizes 3 [] ls (Ok rows)) (sym whole) read; reported = sym last.1 }
      ];
    }

-- the entries of lexicons that were read are sorted
pub steps_sorted : (sizes : MatrixSizes) (lexicons : List (List ℕ)) (reading : List CompileStep) (rows : List Row) → AreLexiconSteps sizes lexicons reading
    → AreLexicons sizes 3 [] lexicons (Ok rows) → AreEntrySteps sizes lexicons (reading ++ Sorted (length rows) ∷ [])
steps_sorted sizes lexicons reading rows h read = record { reading = reading; are_reading = h; rows = rows; are_rows = read; all = refl }

-- the entries of sources that were read are sorted
pub all_steps : (s : Sources) (parts : SourceParts) (steps : List CompileStep) → AreParts s parts → AreReadingSteps (lexicon_bytes s) parts steps
    → AreSteps s (steps ++ Sorted (length parts.lexicon.rows) ∷ [])
all_steps s parts steps are h =
    let sorted : List CompileStep = Sorted (length parts.lexicon.rows) ∷ [] in
    let reading = subst (λ (sizes : MatrixSizes). AreLexiconSteps sizes (lexicon_bytes s) h.reading) are.matrix.sizes h.are_reading in
    record {
      connection = are.connection;
      is_connection = are.is_connection;
      chars = are.chars;
      are_chars = are.are_chars;
      entries = h.reading ++ sorted;
      are_entries = steps_sorted are.connection.sizes (lexicon_bytes s) h.reading parts.lexicon.rows reading are.rows;
      all =
          ap (λ (all : List CompileStep). all ++ sorted) h.all
          ∙ append_assoc (steps_before parts.matrix.sizes (length parts.chars.categories)) h.reading sorted
          ∙ ap (λ (sizes : MatrixSizes). steps_before sizes (length parts.chars.categories) ++ (h.reading ++ sorted)) are.matrix.sizes
          ∙ ap (λ (n : ℕ). steps_before are.connection.sizes n ++ (h.reading ++ sorted)) (ap length are.table.categories);
    }

-- three steps, and those after them
pub after_three : (before : List CompileStep) (a b c : CompileStep) (steps : List CompileStep) → (((before ++ a ∷ []) ++ b ∷ []) ++ c ∷ []) ++ steps ≡ before ++ a ∷ b ∷ c ∷ steps
after_three before a b c steps =
    append_assoc ((before ++ a ∷ []) ++ b ∷ []) (c ∷ []) steps
    ∙ append_assoc (before ++ a ∷ []) (b ∷ []) (c ∷ steps)
    ∙ append_assoc before (a ∷ []) (b ∷ c ∷ steps)
