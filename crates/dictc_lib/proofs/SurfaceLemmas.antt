-- The longest of two lists of surfaces, and the surfaces of one more lexicon.
use Rattle.std.proofs.Common.{◌≡◌, ℕ, suc, ◌+◌, ◌<◌, ◌≤◌, All, List, [], ◌∷◌, ◌++◌, length, map, take, drop, get_or, Bor, None, Some, Ok, Err, refl, sym, ap, ◌∙◌, inl, inr, subst, append_assoc, arith, length-take}
use Rattle.std.specs.Prelude.{Option}
use Rattle.std.proofs.lemmas.List.{append-nil, length-map, map-append, take_more}
use Rattle.std.proofs.lemmas.List.Elements.{All-append, All-cons, All-nil, All-weaker}
use Rattle.std.proofs.Math.Seq.{split_at}
use Rattle.mj_model.specs.FirstFault.{IsMemoryOr}
use Rattle.mj_model.specs.declared.entry.Record.{Record}
use Rattle.mj_model.specs.declared.source_fault.SourceFault.{SourceFault}
use Rattle.mj_model.specs.Lexicon.{IsLexicon, Row, row_of, rows_of}
use Rattle.dict_compile.specs.Results.{lexicons_of}
use Rattle.dict_compile.proofs.SkipLemmas.{before_more, bytes_before}
use Rattle.dictc_lib.specs.declared.surfaces.Surface.{Surface}
use Rattle.dictc_lib.specs.Surfaces.{HasSurfaces, HaveFirstFault, HaveSurfaces, IsLongerOf, IsLongestIn, IsLongestOf, lexicon_file, surface_of, surfaces_of}

abbrev HaveAtMost : ℕ → List Surface → Type 0
HaveAtMost n surfaces = All (λ surface. surface.bytes ≤ n) surfaces

with_more : (surfaces : List Surface) (m n : ℕ) → m ≤ n → HaveAtMost m surfaces → HaveAtMost n surfaces
with_more surfaces m n low all = All-weaker (λ surface. surface.bytes ≤ m) (λ surface. surface.bytes ≤ n) (λ surface below. omega (arith, below, low)) surfaces all

-- no surface has more bytes than the longest
at_most : (surfaces : List Surface) (longest : Surface) → IsLongestIn surfaces (Some longest) → HaveAtMost longest.bytes surfaces
at_most surfaces longest (before, after, are, shorter, others) =
    let AtMost : Surface → Type 0 = λ surface. surface.bytes ≤ longest.bytes in
    let front = All-weaker (λ surface. surface.bytes < longest.bytes) AtMost (λ surface below. omega (arith, below)) before shorter in
    subst (HaveAtMost longest.bytes) (sym are) (All-append AtMost before (longest ∷ after) front (All-cons AtMost longest after (omega arith) others))

-- the longer of the longest surfaces of two lists is the longest of both
pub longest_of_both : (xs ys : List Surface) (first second longer : Option Surface) → IsLongestIn xs first → IsLongestIn ys second → IsLongerOf first second longer
    → IsLongestIn (xs ++ ys) longer
longest_of_both xs ys None second longer none its is =
    subst (λ (found : Option Surface). IsLongestIn (xs ++ ys) found) (sym is) (subst (λ (front : List Surface). IsLongestIn (front ++ ys) second) (sym none) its)
longest_of_both xs ys (Some one) None longer its none is =
    subst (λ (found : Option Surface). IsLongestIn (xs ++ ys) found) (sym is)
    (subst (λ (all : List Surface). IsLongestIn all (Some one)) (sym (ap (λ (following : List Surface). xs ++ following) none ∙ append-nil xs)) its)
longest_of_both xs ys (Some one) (Some two) longer (before, after, are, shorter, others) second (inl is) =
    let AtMost : Surface → Type 0 = λ surface. surface.bytes ≤ one.bytes in
    let following = All-append AtMost after ys others (with_more ys two.bytes one.bytes is.1 (at_most ys two second)) in
    let all = ap (λ (front : List Surface). front ++ ys) are ∙ append_assoc before (one ∷ after) ys in
    subst (λ (found : Option Surface). IsLongestIn (xs ++ ys) found) (sym is.0) (before, after ++ ys, all, shorter, following)
longest_of_both xs ys (Some one) (Some two) longer first (before, after, are, shorter, others) (inr is) =
    let Below : Surface → Type 0 = λ surface. surface.bytes < two.bytes in
    let front = All-weaker (λ surface. surface.bytes ≤ one.bytes) Below (λ surface low. omega (arith, low, is.1)) xs (at_most xs one first) in
    let all = ap (λ (following : List Surface). xs ++ following) are ∙ sym (append_assoc xs before (two ∷ after)) in
    subst (λ (found : Option Surface). IsLongestIn (xs ++ ys) found) (sym is.0) (xs ++ before, after, all, All-append Below xs before front shorter, others)

-- the surfaces of lexicons followed by one more
pub more_surfaces : (number : ℕ) (lexicons : List (List ℕ)) (lexicon : List ℕ) (surfaces its : List Surface) → HaveSurfaces number lexicons surfaces
    → HasSurfaces (number + length lexicons) lexicon its → HaveSurfaces number (lexicons ++ lexicon ∷ []) (surfaces ++ its)
more_surfaces number [] lexicon surfaces its none has =
    let here : number + 0 ≡ number = omega arith in
    (its, [], subst (λ (n : ℕ). HasSurfaces n lexicon its) here has, refl, ap (λ (front : List Surface). front ++ its) none ∙ sym (append-nil its))
more_surfaces number (first ∷ lexicons) lexicon surfaces its have has =
    let there : number + suc (length lexicons) ≡ number + 1 + length lexicons = omega arith in (
      have.0,
      have.1 ++ its,
      have.2,
      more_surfaces (number + 1) lexicons lexicon have.1 its have.3 (subst (λ (n : ℕ). HasSurfaces n lexicon its) there has),
      ap (λ (front : List Surface). front ++ its) have.4 ∙ append_assoc have.0 have.1 its,
    )

-- a single surface is the longest
pub longest_of_one : (one : Surface) → IsLongestIn (one ∷ []) (Some one)
longest_of_one one = ([], [], refl, All-nil (λ surface. surface.bytes < one.bytes), All-nil (λ surface. surface.bytes ≤ one.bytes))

-- the surfaces of records followed by one more
pub surfaces_with : (number : ℕ) (records : List Record) (i : ℕ) (next : Record) → i < length records → next ≡ get_or records i next
    → surfaces_of number (rows_of (take (i + 1) records)) ≡ surfaces_of number (rows_of (take i records)) ++ surface_of number (row_of next) ∷ []
surfaces_with number records i next low is =
    ap (λ (some : List Record). surfaces_of number (rows_of some)) (take_more records i next low ∙ ap (λ (one : Record). take i records ++ one ∷ []) (sym is))
    ∙ ap (surfaces_of number) (map-append row_of (take i records) (next ∷ []))
    ∙ map-append (surface_of number) (rows_of (take i records)) (row_of next ∷ [])

-- the longest surface of a lexicon is that of its records
pub longest_read : (number file skipped : ℕ) (lexicon : List ℕ) (old new : List Record) (rows : List Row) (longest : Option Surface) → old ≡ []
    → IsLexicon file (length old) lexicon (Ok (record { rows = rows; skipped = skipped })) → rows_of new ≡ rows_of old ++ rows
    → IsLongestIn (surfaces_of number (rows_of new)) longest → (surfaces : List Surface) × HasSurfaces number lexicon surfaces × IsLongestIn surfaces longest
longest_read number file skipped lexicon old new rows longest none reads are is =
    let held : length old ≡ 0 = ap length none in
    let lines = subst (λ (n : ℕ). IsLexicon file n lexicon (Ok (record { rows = rows; skipped = skipped }))) held reads in
    let same = are ∙ ap (λ (front : List Record). rows_of front ++ rows) none in
    (surfaces_of number rows, (file, skipped, rows, lines, refl), subst (λ (all : List Row). IsLongestIn (surfaces_of number all) longest) same is)

-- the longest surface of lexicons followed by one more
pub longest_with : (lexicons : List (Bor (List ℕ))) (i : ℕ) (d : Bor (List ℕ)) (first second longer : Option Surface) → i < length lexicons
    → IsLongestOf (bytes_before lexicons i) first → (its : List Surface) × HasSurfaces i (get_or lexicons i d).now its × IsLongestIn its second
    → IsLongerOf first second longer → IsLongestOf (bytes_before lexicons (i + 1)) longer
longest_with lexicons i d first second longer low was found is =
    let front = length-map (take i lexicons) (λ (lexicon : Bor (List ℕ)). lexicon.now) in
    let some = length-take i lexicons in
    let there : i ≡ 0 + length (bytes_before lexicons i) = omega (arith, front, some, low) in
    let has = subst (λ (n : ℕ). HasSurfaces n (get_or lexicons i d).now found.0) there found.1 in
    subst (λ (all : List (List ℕ)). IsLongestOf all longer) (sym (before_more lexicons i d low)) (
      was.0 ++ found.0,
      more_surfaces 0 (bytes_before lexicons i) (get_or lexicons i d).now was.0 found.0 was.1 has,
      longest_of_both was.0 found.0 first second longer was.2 found.2 is,
    )

-- the error of a lexicon after accepted ones is the first error of the lexicons
pub first_fault : (lexicons : List (Bor (List ℕ))) (i file : ℕ) (d : Bor (List ℕ)) (fault : SourceFault) (longest : Option Surface) → i < length lexicons
    → file ≡ lexicon_file i → IsLongestOf (bytes_before lexicons i) longest
    → IsMemoryOr fault (IsLexicon file 0 (get_or lexicons i d).now (Err fault)) → IsMemoryOr fault (HaveFirstFault (lexicons_of lexicons) fault)
first_fault lexicons i file d fault longest low file_is was (inl memory) = inl memory
first_fault lexicons i file d fault longest low file_is was (inr is) =
    let bytes : Bor (List ℕ) → List ℕ = λ lexicon. lexicon.now in
    let front = length-map (take i lexicons) bytes in
    let some = length-take i lexicons in
    let count : i ≡ length (bytes_before lexicons i) = omega (arith, front, some, low) in
    inr (record {
      before = bytes_before lexicons i;
      rejected = (get_or lexicons i d).now;
      following = map bytes (drop (suc i) lexicons);
      parts = ap (map bytes) (split_at lexicons i d low) ∙ map-append bytes (take i lexicons) (get_or lexicons i d ∷ drop (suc i) lexicons);
      accepted = (was.0, was.1);
      is_fault = subst (λ (n : ℕ). IsLexicon n 0 (get_or lexicons i d).now (Err fault)) (file_is ∙ ap lexicon_file count) is;
    })
