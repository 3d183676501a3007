-- The number of lines that lexicons skip.
use Rattle.std.proofs.Common.{◌≡◌, ℕ, ◌+◌, ◌<◌, List, [], ◌∷◌, ◌++◌, length, map, take, get_or, Bor, refl, sym, ap, ◌∙◌, subst}
use Rattle.std.proofs.lemmas.List.{take_more, map-append}
use Rattle.std.specs.Prelude.{Option, Some, None, Result, Ok, Err, count_by}
use Rattle.std.specs.List.{AllZip}
use Rattle.std.proofs.lemmas.List.Sums.{sum_by_push}
use Rattle.mj_model.specs.declared.source_fault.SourceFault.{SourceFault}
use Rattle.mj_model.specs.Lexicon.{SkipLines, SkipsLines, IsLexicon, Outcome, Reading, first_rejected, is_skipped, reading_unless}

abbrev skipped_or : Result Reading SourceFault → ℕ
skipped_or (Ok lines) = lines.skipped
skipped_or (Err fault) = 0

counted : (fault : Option SourceFault) (outcomes : List Outcome) (lines : Reading) → Ok lines ≡ reading_unless fault outcomes → lines.skipped ≡ count_by is_skipped outcomes
counted None outcomes lines is = ap skipped_or is
counted (Some fault) outcomes lines is = absurd (cc)

-- a valid lexicon skips the lines that its reading counts
pub skips_of : (file held : ℕ) (bytes : List ℕ) (lines : Reading) → IsLexicon file held bytes (Ok lines) → SkipsLines bytes lines.skipped
skips_of file held bytes lines reads = (reads.0, reads.1, counted (first_rejected file 1 held reads.0) reads.0 lines reads.2)

-- no lexicon skips no line
pub skips_none : SkipLines [] 0
skips_none = ([], tt, refl)

zip_push : {A B : Type 0} (R : A → B → Type 0) (xs : List A) (ys : List B) (x : A) (y : B) → AllZip R xs ys → R x y → AllZip R (xs ++ x ∷ []) (ys ++ y ∷ [])
zip_push R [] [] x y h r = (r, tt)
zip_push R [] (b ∷ ys) x y h r = absurd h
zip_push R (a ∷ xs) [] x y h r = absurd h
zip_push R (a ∷ xs) (b ∷ ys) x y h r = (h.0, zip_push R xs ys x y h.1 r)

-- one more lexicon
skips_push : (lexicons : List (List ℕ)) (bytes : List ℕ) (skipped n : ℕ) → SkipLines lexicons skipped → SkipsLines bytes n → SkipLines (lexicons ++ bytes ∷ []) (skipped + n)
skips_push lexicons bytes skipped n h s =
    (h.0 ++ n ∷ [], zip_push SkipsLines lexicons h.0 bytes n h.1 s, ap (λ m. m + n) h.2 ∙ sym (sum_by_push (λ x. x) h.0 n))

abbrev pub bytes_before : List (Bor (List ℕ)) → ℕ → List (List ℕ)
bytes_before lexicons i = map (λ (lexicon : Bor (List ℕ)). lexicon.now) (take i lexicons)

-- one lexicon more
pub before_more : (lexicons : List (Bor (List ℕ))) (i : ℕ) (d : Bor (List ℕ)) → i < length lexicons
    → bytes_before lexicons (i + 1) ≡ bytes_before lexicons i ++ (get_or lexicons i d).now ∷ []
before_more lexicons i d low =
    ap (map (λ (lexicon : Bor (List ℕ)). lexicon.now)) (take_more lexicons i d low)
    ∙ map-append (λ (lexicon : Bor (List ℕ)). lexicon.now) (take i lexicons) (get_or lexicons i d ∷ [])

-- the lexicons so far skip this many lines, and one more skips some
pub skips_more : (lexicons : List (Bor (List ℕ))) (i : ℕ) (d : Bor (List ℕ)) (skipped n : ℕ) → i < length lexicons
    → SkipLines (bytes_before lexicons i) skipped → SkipsLines (get_or lexicons i d).now n → SkipLines (bytes_before lexicons (i + 1)) (skipped + n)
skips_more lexicons i d skipped n low h s =
    subst (λ ls. SkipLines ls (skipped + n)) (sym (before_more lexicons i d low)) (skips_push (bytes_before lexicons i) (get_or lexicons i d).now skipped n h s)
