-- Sources have exactly one first error, or tables.
use Rattle.std.proofs.Common.{◌≡◌, ℕ, List, [], ◌∷◌, ◌++◌, length, sym, ap, ◌∙◌, subst, inl, inr}
use Rattle.std.specs.Prelude.{Some, None, Result, Ok, Err}
use Rattle.std.proofs.lemmas.Option.{same_Some}
use Rattle.mj_model.specs.declared.source_fault.SourceFault.{SourceFault}
use Rattle.mj_model.specs.declared.sources.Sources.{Sources}
use Rattle.mj_model.specs.CharDef.{CharSource}
use Rattle.mj_model.specs.declared.matrix_sizes.MatrixSizes.{MatrixSizes}
use Rattle.mj_model.specs.Connection.{Connection}
use Rattle.mj_model.specs.Dictionary.{AreLexicons, first_outside, next_file}
use Rattle.mj_model.specs.Lexicon.{Row, Reading, lexicon_outcome, IsLexicon}
use Rattle.mj_model.specs.SourceTables.{HaveTables, IsSourcesFault, lexicon_bytes}
use Rattle.mj_model.specs.Tables.{Tables}
use Rattle.mj_model.specs.UnkDef.{IsUnkWithin}
use Rattle.mj_model.proofs.ReadingLemmas.{readings_are_one}
use Rattle.mj_model.proofs.UnkReading.{unk_is_one}

-- ---- one result of a reader

abbrev error_or : {T : Type 0} → SourceFault → Result T SourceFault → SourceFault
error_or other (Ok x) = other
error_or other (Err fault) = fault

pub same_error : {T : Type 0} {f g : SourceFault} → ◌≡◌ {A = Result T SourceFault} (Err f) (Err g) → f ≡ g
same_error {T} {f} e = ap (error_or f) e

abbrev read_or : {T : Type 0} → T → Result T SourceFault → T
read_or other (Ok x) = x
read_or other (Err fault) = other

pub same_read : {T : Type 0} {x y : T} → ◌≡◌ {A = Result T SourceFault} (Ok x) (Ok y) → x ≡ y
same_read {T} {x} e = ap (read_or x) e

pub both : {T : Type 0} {x : T} {fault : SourceFault} → ◌≡◌ {A = Result T SourceFault} (Err fault) (Ok x) → ⊥
both e = cc

pub one_value : {T : Type 0} {x y : T} (read : Result T SourceFault) → read ≡ Ok x → read ≡ Ok y → x ≡ y
one_value read h k = same_read (sym h ∙ k)

one_error : {T : Type 0} {f g : SourceFault} (read : Result T SourceFault) → read ≡ Err f → read ≡ Err g → f ≡ g
one_error read h k = same_error (sym h ∙ k)

not_both : {T : Type 0} {x : T} {fault : SourceFault} (read : Result T SourceFault) → read ≡ Err fault → read ≡ Ok x → ⊥
not_both read h k = both (sym h ∙ k)

-- ---- one reading of the lexicons

same_reading : (file held : ℕ) (bytes : List ℕ) (r q : Result Reading SourceFault) → IsLexicon file held bytes r → IsLexicon file held bytes q → r ≡ q
same_reading file held bytes r q h k = readings_are_one lexicon_outcome file held bytes q r k h

pub lexicons_one : (sizes : MatrixSizes) (file : ℕ) (before : List Row) (lexicons : List (List ℕ)) (r q : Result (List Row) SourceFault)
    → AreLexicons sizes file before lexicons r → AreLexicons sizes file before lexicons q → r ≡ q
lexicons_one sizes file before [] r q h k = h ∙ sym k
lexicons_one sizes file before (bytes ∷ more) r q (inl h) (inl k) =
    h.2 ∙ ap Err (same_error (same_reading file (length before) bytes (Err h.0) (Err k.0) h.1 k.1)) ∙ sym k.2
lexicons_one sizes file before (bytes ∷ more) r q (inl h) (inr (inl k)) = absurd (both (same_reading file (length before) bytes (Err h.0) (Ok k.0) h.1 k.2))
lexicons_one sizes file before (bytes ∷ more) r q (inl h) (inr (inr k)) = absurd (both (same_reading file (length before) bytes (Err h.0) (Ok k.0) h.1 k.1))
lexicons_one sizes file before (bytes ∷ more) r q (inr (inl h)) (inl k) = absurd (both (same_reading file (length before) bytes (Err k.0) (Ok h.0) k.1 h.2))
lexicons_one sizes file before (bytes ∷ more) r q (inr (inr h)) (inl k) = absurd (both (same_reading file (length before) bytes (Err k.0) (Ok h.0) k.1 h.1))
lexicons_one sizes file before (bytes ∷ more) r q (inr (inl h)) (inr (inl k)) =
    let same = same_read (same_reading file (length before) bytes (Ok h.0) (Ok k.0) h.2 k.2) in
    let found : Some h.1 ≡ Some k.1 = sym h.3 ∙ ap (λ (lines : Reading). first_outside file sizes lines.rows) same ∙ k.3 in
    h.4 ∙ ap Err (same_Some h.1 k.1 found) ∙ sym k.4
lexicons_one sizes file before (bytes ∷ more) r q (inr (inl h)) (inr (inr k)) =
    let same = same_read (same_reading file (length before) bytes (Ok h.0) (Ok k.0) h.2 k.1) in
    let found : Some h.1 ≡ None = sym h.3 ∙ ap (λ (lines : Reading). first_outside file sizes lines.rows) same ∙ k.2 in absurd (cc)
lexicons_one sizes file before (bytes ∷ more) r q (inr (inr h)) (inr (inl k)) =
    let same = same_read (same_reading file (length before) bytes (Ok h.0) (Ok k.0) h.1 k.2) in
    let found : None ≡ Some k.1 = sym h.2 ∙ ap (λ (lines : Reading). first_outside file sizes lines.rows) same ∙ k.3 in absurd (cc)
lexicons_one sizes file before (bytes ∷ more) r q (inr (inr h)) (inr (inr k)) =
    let same = same_read (same_reading file (length before) bytes (Ok h.0) (Ok k.0) h.1 k.1) in
    lexicons_one sizes (next_file file) (before ++ k.0.rows) more r q (subst (λ (lines : Reading). AreLexicons sizes (next_file file) (before ++ lines.rows) more r) same h.3) k.3

-- ---- equal connection costs and categories

pub unk_along : (c d : Connection) (a b : CharSource) (bytes : List ℕ) (r : Result (List (List Row)) SourceFault) → c ≡ d → a ≡ b
    → IsUnkWithin c.sizes a.categories bytes r → IsUnkWithin d.sizes b.categories bytes r
unk_along c d a b bytes r e f h =
    subst (λ (chars : CharSource). IsUnkWithin d.sizes chars.categories bytes r) f (subst (λ (x : Connection). IsUnkWithin x.sizes a.categories bytes r) e h)

pub rows_along : (c d : Connection) (lexicons : List (List ℕ)) (r : Result (List Row) SourceFault) → c ≡ d → AreLexicons c.sizes 3 [] lexicons r → AreLexicons d.sizes 3 [] lexicons r
rows_along c d lexicons r e h = subst (λ (x : Connection). AreLexicons x.sizes 3 [] lexicons r) e h

-- ---- one first error

pub fault_is_one : (s : Sources) (f g : SourceFault) → IsSourcesFault s f → IsSourcesFault s g → f ≡ g
fault_is_one s f g (inl h) (inl k) = one_error _ h k
fault_is_one s f g (inl h) (inr (inl k)) = absurd (not_both _ h k.1)
fault_is_one s f g (inl h) (inr (inr (inl k))) = absurd (not_both _ h k.2)
fault_is_one s f g (inl h) (inr (inr (inr k))) = absurd (not_both _ h k.3)
fault_is_one s f g (inr (inl h)) (inl k) = absurd (not_both _ k h.1)
fault_is_one s f g (inr (inl h)) (inr (inl k)) = one_error _ h.2 k.2
fault_is_one s f g (inr (inl h)) (inr (inr (inl k))) = absurd (not_both _ h.2 k.3)
fault_is_one s f g (inr (inl h)) (inr (inr (inr k))) = absurd (not_both _ h.2 k.4)
fault_is_one s f g (inr (inr (inl h))) (inl k) = absurd (not_both _ k h.2)
fault_is_one s f g (inr (inr (inl h))) (inr (inl k)) = absurd (not_both _ k.2 h.3)
fault_is_one s f g (inr (inr (inl h))) (inr (inr (inl k))) =
    same_error (unk_is_one h.0.sizes h.1.categories s.unk.now (Err g) (Err f) (unk_along k.0 h.0 k.1 h.1 s.unk.now (Err g) (one_value _ k.2 h.2) (one_value _ k.3 h.3) k.4) h.4)
fault_is_one s f g (inr (inr (inl h))) (inr (inr (inr k))) =
    absurd (both (unk_is_one h.0.sizes h.1.categories s.unk.now (Ok k.2) (Err f) (unk_along k.0 h.0 k.1 h.1 s.unk.now (Ok k.2) (one_value _ k.3 h.2) (one_value _ k.4 h.3) k.5) h.4))
fault_is_one s f g (inr (inr (inr h))) (inl k) = absurd (not_both _ k h.3)
fault_is_one s f g (inr (inr (inr h))) (inr (inl k)) = absurd (not_both _ k.2 h.4)
fault_is_one s f g (inr (inr (inr h))) (inr (inr (inl k))) =
    absurd (both (unk_is_one h.0.sizes h.1.categories s.unk.now (Ok h.2) (Err g) h.5 (unk_along k.0 h.0 k.1 h.1 s.unk.now (Err g) (one_value _ k.2 h.3) (one_value _ k.3 h.4) k.4)))
fault_is_one s f g (inr (inr (inr h))) (inr (inr (inr k))) =
    same_error (lexicons_one h.0.sizes 3 [] (lexicon_bytes s) (Err f) (Err g) h.6 (rows_along k.0 h.0 (lexicon_bytes s) (Err g) (one_value _ k.3 h.3) k.6))

-- invalid sources have no tables
pub no_tables : (s : Sources) (fault : SourceFault) (t : Tables) → IsSourcesFault s fault → HaveTables s t → ⊥
no_tables s fault t (inl h) k = not_both _ h k.is_connection
no_tables s fault t (inr (inl h)) k = not_both _ h.2 k.are_chars
no_tables s fault t (inr (inr (inl h))) k =
    both (unk_is_one h.0.sizes h.1.categories s.unk.now (Ok k.unknown) (Err fault)
    (unk_along k.connection h.0 k.chars h.1 s.unk.now (Ok k.unknown) (one_value _ k.is_connection h.2) (one_value _ k.are_chars h.3) k.are_unknown) h.4)
no_tables s fault t (inr (inr (inr h))) k =
    both (lexicons_one h.0.sizes 3 [] (lexicon_bytes s) (Err fault) (Ok k.rows) h.6 (rows_along k.connection h.0 (lexicon_bytes s) (Ok k.rows) (one_value _ k.is_connection h.3) k.are_rows))
