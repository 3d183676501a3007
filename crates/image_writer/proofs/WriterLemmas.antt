-- The tokens of more rows are written.
use Rattle.std.proofs.Common.{◌≡◌, ℕ, ◌+◌, ◌<◌, ◌≤◌, List, [], ◌∷◌, ◌++◌, length, take, drop, get_or, Some, sym, ap, ◌∙◌, subst, arith, append_assoc}
use Rattle.std.specs.Prelude.{IsUtf8, bytes_eq, slice_get, sum_by}
use Rattle.std.specs.List.{list_any}
use Rattle.std.proofs.lemmas.List.{get_or_at, get_or_default, length-append, map-append, map_more, take_all, take_at, take-append-drop}
use Rattle.std.proofs.lemmas.Option.{slice_get-get_or}
use Rattle.mj_model.specs.declared.entry.Record.{Record}
use Rattle.image_format.specs.ImageBounds.{each_once, feature_bytes_end}
use Rattle.mj_model.specs.Lexicon.{Row, row_of, rows_of}
use Rattle.image_writer.specs.declared.feature_place.FeaturePlace.{FeaturePlace}
use Rattle.image_writer.specs.declared.tokens.TokenWriter.{TokenWriter}
use Rattle.image_writer.specs.FirstUses.{AreFirstUses, IsFirstUse}
use Rattle.image_writer.specs.Sections.{AreWritten, HoldTokens, HoldsOneMore, HoldsTexts, IsNextUse, IsTooLarge, HasTextAt, features_in, features_of}
use Rattle.image_writer.specs.TokenBytes.{FitsBytes, stored_bytes}
use Rattle.image_writer.proofs.FeatureLemmas.{too_large, still_too_large}
use Rattle.image_writer.proofs.FirstUseLemmas.{first_before, none_before}
use Rattle.image_writer.proofs.TokenLemmas.{hold_more, stored_of}

-- the next entry's first use
pub next_use : (all rows rest : List Row) (row : Row) (firsts : List ℕ) (n : ℕ) → all ≡ (rows ++ row ∷ []) ++ rest → AreFirstUses (features_of all) firsts → n ≡ length (features_of rows)
    → IsNextUse (features_of rows) row.feature (get_or firsts n n)
next_use all rows rest row firsts n is first at =
    let texts = features_of all in
    let front = features_of rows in
    let parts : texts ≡ front ++ row.feature ∷ features_of rest =
    ap features_of is ∙ map-append (λ (r : Row). r.feature) (rows ++ row ∷ []) rest
    ∙ ap (λ (fs : List (List ℕ)). fs ++ features_of rest) (map-append (λ (r : Row). r.feature) rows (row ∷ []))
    ∙ append_assoc front (row.feature ∷ []) (features_of rest) in
    let long : length texts ≡ length front + length (row.feature ∷ features_of rest) = ap length parts ∙ length-append front (row.feature ∷ features_of rest) in
    let some : 0 < length (row.feature ∷ features_of rest) = omega arith in
    let less : n < length texts = omega (arith, at, long, some) in
    let inside : n < length firsts = let l = first.long in omega (arith, l, less) in
    let use_is = subst (λ (f : ℕ). IsFirstUse texts f n) (get_or_default firsts n 0 n inside) (first.each n less) in
    let there : slice_get texts n ≡ Some row.feature =
    slice_get-get_or texts n [] less ∙ ap (λ (f : List ℕ). Some f) (ap (λ (ts : List (List ℕ)). get_or ts n []) parts ∙ get_or_at front row.feature (features_of rest) [] n (sym at)) in
    let before : take n texts ≡ front = ap (take n) parts ∙ take_at front (row.feature ∷ features_of rest) n (sym at) in
    record {
      there = λ low. ap (λ (ts : List (List ℕ)). slice_get ts (get_or firsts n n)) (sym before) ∙ first_before texts row.feature n (get_or firsts n n) use_is there (omega (arith, low, at));
      new = λ past. ap (list_any (bytes_eq row.feature)) (sym before) ∙ none_before texts row.feature n (get_or firsts n n) use_is there (omega (arith, past, at));
    }

-- a token more
pub token_written : (all rows : List Row) (row : Row) (old new : TokenWriter) (place : FeaturePlace) → AreWritten all rows old → HoldsOneMore (features_of rows) row.feature old.features new.features place
    → FitsBytes (stored_of row place.start) → IsUtf8 row.feature → new.tokens.items ≡ old.tokens.items ++ stored_bytes (stored_of row place.start) → new.firsts.items ≡ old.firsts.items
    → AreWritten all (rows ++ row ∷ []) new
token_written all rows row old new place written more fits text bytes firsts =
    record {
      tokens = subst (λ (tokens : List ℕ). HoldTokens (rows ++ row ∷ []) tokens (features_in new.features)) (sym bytes)
          (subst (HoldTokens (rows ++ row ∷ []) (old.tokens.items ++ stored_bytes (stored_of row place.start))) (sym more.kept)
          (hold_more rows row old.tokens.items (features_in old.features) more.more place.start written.tokens fits
          (subst (λ (b : List ℕ). HasTextAt b row.feature place.start) more.kept more.is_stored.is_stored) text));
      features = subst (λ (texts : List (List ℕ)). HoldsTexts texts new.features) (sym (map-append (λ (r : Row). r.feature) rows (row ∷ []))) more.holds;
      firsts = subst (AreFirstUses (features_of all)) (sym firsts) written.firsts;
    }

pub record_too_large : (rows : List Row) (row : Row) → feature_bytes_end ≤ sum_by length (each_once (features_of rows ++ row.feature ∷ [])) → IsTooLarge (rows ++ row ∷ [])
record_too_large rows row large =
    too_large (rows ++ row ∷ []) (subst (λ (texts : List (List ℕ)). feature_bytes_end ≤ sum_by length (each_once texts)) (sym (map-append (λ (r : Row). r.feature) rows (row ∷ []))) large)

-- ---- rows of records

-- a record more
pub records_more : (rows : List Row) (records : List Record) (i : ℕ) (r : Record) → i < length records → r ≡ get_or records i r
    → (rows ++ rows_of (take i records)) ++ row_of r ∷ [] ≡ rows ++ rows_of (take (i + 1) records)
records_more rows records i r less at =
    append_assoc rows (rows_of (take i records)) (row_of r ∷ [])
    ∙ ap (λ (more : List Row). rows ++ more) (sym (map_more row_of records i r less ∙ ap (λ (x : Record). rows_of (take i records) ++ row_of x ∷ []) (sym at)))

pub records_all : (rows : List Row) (records : List Record) (i : ℕ) → length records ≤ i → rows ++ rows_of (take i records) ≡ rows ++ rows_of records
records_all rows records i past = ap (λ (rs : List Record). rows ++ rows_of rs) (take_all i records past)

-- the records up to one, that record, and the remainder
pub records_around : (rows : List Row) (records : List Record) (i : ℕ) (r : Record) (rest : List Row) → i < length records → r ≡ get_or records i r
    → (rows ++ rows_of records) ++ rest ≡ ((rows ++ rows_of (take i records)) ++ row_of r ∷ []) ++ (rows_of (drop (i + 1) records) ++ rest)
records_around rows records i r rest less at =
    let front = rows_of (take (i + 1) records) in
    let following = rows_of (drop (i + 1) records) in
    ap (λ (rs : List Row). (rows ++ rs) ++ rest) (ap rows_of (sym (take-append-drop (i + 1) records)) ∙ map-append row_of (take (i + 1) records) (drop (i + 1) records))
    ∙ ap (λ (rs : List Row). rs ++ rest) (sym (append_assoc rows front following))
    ∙ append_assoc (rows ++ front) following rest
    ∙ ap (λ (rs : List Row). rs ++ (following ++ rest)) (sym (records_more rows records i r less at))

-- those up to a row are too large, so all are
pub prefix_too_large : (all front rest : List Row) → all ≡ front ++ rest → IsTooLarge front → IsTooLarge all
prefix_too_large all front rest is large = subst IsTooLarge (sym is) (still_too_large front rest large)
