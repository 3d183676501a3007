-- The records that a lexicon appends, line by line.
use Rattle.std.proofs.Common.{◌≡◌, ℕ, ◌+◌, ◌<◌, Bool, true, false, cond, Fits, w64, List, [], ◌∷◌, ◌++◌, length, refl, sym, ◌∙◌, ap, subst, arith, ◌⊎◌, inl, inr, length-append, append_assoc}
use Rattle.std.specs.Prelude.{Ok, Err}
use mir.Val.{bool_byte}
use Rattle.std.proofs.lemmas.List.{append-nil, map-append, length-map}
use Rattle.mj_model.specs.declared.entry.Record.{Record}
use Rattle.mj_model.specs.declared.source_fault.SourceKind.{SourceKind}
use Rattle.mj_model.specs.declared.source_fault.SourceKind.TheVariants.{Memory}
use Rattle.mj_model.specs.Lines.{numbered_lines}
use Rattle.mj_model.specs.Lexicon.{Row, row_of, rows_of, lexicon_outcome, IsLexicon}
use Rattle.lex_source.specs.Steps.{IsReadLine, IsRejectedLine, IsReadUpTo, HasRead}
use Rattle.lex_source.proofs.LexiconLemmas.{read_none, skipped_below, line_taken, line_rejected, all_read}

pub started : (old : List Record) (bytes : List ℕ) (left : List (ℕ × List ℕ)) → left ≡ numbered_lines bytes → HasRead old old (numbered_lines bytes) left 0
started old bytes left is = record {
  more = [];
  appended = sym (append-nil old);
  read = subst (λ (ls : List (ℕ × List ℕ)). IsReadUpTo lexicon_outcome (length old) (numbered_lines bytes) ls [] 0) (sym is) (read_none lexicon_outcome (length old) bytes);
}

-- the number of held records
room : (old now more : List Record) → now ≡ old ++ more → length now ≡ length old + length (rows_of more)
room old now more is = ap (λ (xs : List Record). length xs) is ∙ length-append old more ∙ ap (λ (n : ℕ). length old + n) (sym (length-map more row_of))

pub still_below : (old now : List Record) (all left lines : List (ℕ × List ℕ)) (number : ℕ) (line : List ℕ) (skipped : ℕ) → HasRead old now all lines skipped → lines ≡ (number, line) ∷ left → skipped < number
still_below old now all left lines number line skipped r is = skipped_below lexicon_outcome (length old) all number line left lines (rows_of r.more) skipped is r.read

pub taken : (old now new : List Record) (all left lines : List (ℕ × List ℕ)) (number : ℕ) (line : List ℕ) (skipped k : ℕ) (counts : Bool) → HasRead old now all lines skipped → lines ≡ (number, line) ∷ left
    → (m : List Record) × (new ≡ now ++ m) × IsReadLine lexicon_outcome number line (length now) counts (rows_of m) → k ≡ cond counts 1 0 → HasRead old new all left (skipped + k)
taken old now new all left lines number line skipped k counts r is t e = record {
  more = r.more ++ t.0;
  appended = t.1 ∙ ap (λ (xs : List Record). xs ++ t.0) r.appended ∙ append_assoc old r.more t.0;
  read = subst (λ (rows : List Row). IsReadUpTo lexicon_outcome (length old) all left rows (skipped + k)) (sym (map-append row_of r.more t.0))
      (subst (λ (n : ℕ). IsReadUpTo lexicon_outcome (length old) all left (rows_of r.more ++ rows_of t.0) (skipped + n)) (sym e)
      (line_taken lexicon_outcome (length old) all number line left lines (rows_of r.more) (rows_of t.0) skipped (length now) counts is r.read (room old now r.more r.appended) t.2));
}

pub rejected : (old now : List Record) (bytes : List ℕ) (left lines : List (ℕ × List ℕ)) (file number : ℕ) (line : List ℕ) (skipped : ℕ) (kind : SourceKind) → HasRead old now (numbered_lines bytes) lines skipped
    → lines ≡ (number, line) ∷ left → (kind ≡ Memory) ⊎ IsRejectedLine lexicon_outcome number line (length now) kind
    → (kind ≡ Memory) ⊎ IsLexicon file (length old) bytes (Err (record { file = file; line = number; kind = kind }))
rejected old now bytes left lines file number line skipped kind r is (inl memory) = inl memory
rejected old now bytes left lines file number line skipped kind r is (inr cause) =
    inr (line_rejected lexicon_outcome file (length old) bytes number line left lines (rows_of r.more) skipped (length now) kind is r.read (room old now r.more r.appended) cause)

pub finished : (old now : List Record) (bytes : List ℕ) (lines : List (ℕ × List ℕ)) (file skipped : ℕ) → HasRead old now (numbered_lines bytes) lines skipped → lines ≡ []
    → (rows : List Row) × IsLexicon file (length old) bytes (Ok (record { rows = rows; skipped = skipped })) × (rows_of now ≡ rows_of old ++ rows)
finished old now bytes lines file skipped r is =
    (rows_of r.more, all_read lexicon_outcome file (length old) bytes lines (rows_of r.more) skipped is r.read, ap rows_of r.appended ∙ map-append row_of old r.more)

-- what a truth value counts
pub counted_is : (b : Bool) → bool_byte b ≡ cond b 1 0
counted_is true = refl
counted_is false = refl

pub counted_fits : (skipped number k : ℕ) (b : Bool) → skipped < number → Fits w64 number → k ≡ bool_byte b → Fits w64 (skipped + k)
counted_fits skipped number k true below fits is = grind arith
counted_fits skipped number k false below fits is = grind arith
