-- The first line of a source, and those after it.
use Rattle.std.proofs.Common.{◌≡◌, ℕ, ◌<◌, Bool, false, List, [], ◌∷◌, length, refl, sym, ◌∙◌, ap, arith, inl, inr}
use Rattle.std.specs.Prelude.{map}
use Rattle.std.specs.List.{list_any, position_or_len, after_first, slice_split, onto_first}
use Rattle.std.proofs.lemmas.Bool.{cases_Bool, or_parts}
use Rattle.std.proofs.lemmas.List.Splits.{slice_split-cons_yes, slice_split-cons_no, slice_split_first}
use Rattle.mj_model.specs.Bytes.{is_line_feed}
use Rattle.mj_model.specs.Lines.{source_lines, pieces, without_last_empty, without_return}
use Rattle.lex_source.specs.Splits.{IsSplit}
use Rattle.lex_source.proofs.SplitLemmas.{any_within}

-- a list is split into a piece and the remainder
record IsPieces (parts : List (List ℕ)) : Type 0 where
  first : List ℕ
  more : List (List ℕ)
  is : parts ≡ first ∷ more

onto : (x : ℕ) (parts : List (List ℕ)) → IsPieces (onto_first x parts)
onto x [] = record { first = x ∷ []; more = []; is = refl }
onto x (part ∷ parts) = record { first = x ∷ part; more = parts; is = refl }

split_pieces : (test : ℕ → Bool) (bytes : List ℕ) → IsPieces (slice_split test bytes)
split_pieces test [] = record { first = []; more = []; is = refl }
split_pieces test (c ∷ cs) = elim (cases_Bool (test c)) [
  | inl passes ↦ record { first = []; more = slice_split test cs; is = slice_split-cons_yes test c cs passes }
  | inr fails ↦ let o = onto c (slice_split test cs) in record { first = o.first; more = o.more; is = slice_split-cons_no test c cs fails ∙ o.is }
]

before_more : (piece next : List ℕ) (more : List (List ℕ)) → without_last_empty (piece ∷ next ∷ more) ≡ piece ∷ without_last_empty (next ∷ more)
before_more [] next more = refl
before_more (c ∷ cs) next more = refl

before_pieces : (piece : List ℕ) (parts : List (List ℕ)) → IsPieces parts → without_last_empty (piece ∷ parts) ≡ piece ∷ without_last_empty parts
before_pieces piece parts p =
    ap (λ (ps : List (List ℕ)). without_last_empty (piece ∷ ps)) p.is ∙ before_more piece p.first p.more ∙ sym (ap (λ (ps : List (List ℕ)). piece ∷ without_last_empty ps) p.is)

pub cut_lines : (bytes before following line : List ℕ) → IsSplit is_line_feed bytes before following → line ≡ without_return before → source_lines bytes ≡ line ∷ source_lines following
cut_lines bytes before following line cut is =
    let in' : position_or_len is_line_feed bytes < length bytes = any_within is_line_feed bytes cut.found in
    let e : slice_split is_line_feed bytes ≡ before ∷ slice_split is_line_feed following =
    slice_split_first is_line_feed bytes 0 in' ∙ sym (ap (λ (xs : List ℕ). xs ∷ slice_split is_line_feed (after_first is_line_feed bytes)) cut.before_is)
    ∙ sym (ap (λ (xs : List ℕ). before ∷ slice_split is_line_feed xs) cut.following_is) in
    let p : pieces bytes ≡ before ∷ pieces following = ap without_last_empty e ∙ before_pieces before (slice_split is_line_feed following) (split_pieces is_line_feed following) in
    ap (map without_return) p ∙ ap (λ (l : List ℕ). l ∷ source_lines following) (sym is)

-- without a byte that passes, the bytes are a single part
one_part : (test : ℕ → Bool) (bytes : List ℕ) → list_any test bytes ≡ false → slice_split test bytes ≡ bytes ∷ []
one_part test [] h = refl
one_part test (c ∷ cs) h =
    let p = or_parts (test c) (list_any test cs) h in
    slice_split-cons_no test c cs p.0 ∙ ap (onto_first c) (one_part test cs p.1)

one_piece : (bytes : List ℕ) → 0 < length bytes → without_last_empty (bytes ∷ []) ≡ bytes ∷ []
one_piece [] h = absurd (omega arith)
one_piece (c ∷ cs) h = refl

pub last_line : (bytes line rest : List ℕ) → 0 < length bytes → list_any is_line_feed bytes ≡ false → line ≡ without_return bytes → rest ≡ [] → source_lines bytes ≡ line ∷ source_lines rest
last_line bytes line rest some none is nothing =
    ap (λ (ps : List (List ℕ)). map without_return (without_last_empty ps)) (one_part is_line_feed bytes none) ∙ ap (map without_return) (one_piece bytes some)
    ∙ ap (λ (l : List ℕ). l ∷ []) (sym is) ∙ sym (ap (λ (xs : List ℕ). line ∷ source_lines xs) nothing)
