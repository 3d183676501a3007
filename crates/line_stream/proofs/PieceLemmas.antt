-- Lines of bytes that come in two parts: the complete lines, and the bytes after the last LF.
use Rattle.std.proofs.Common.{◌≡◌, ℕ, Bool, true, false, cond, List, [], ◌∷◌, ◌++◌, refl, sym, ap, ◌∙◌}
use Rattle.std.specs.List.{slice_split, onto_first}
use Rattle.std.proofs.lemmas.List.Splits.{slice_split_none, slice_split_at}
use Rattle.mj_model.specs.Bytes.{is_line_feed}
use Rattle.mj_model.specs.TextLines.{all_but_last, last_piece, complete_lines, unfinished_line}
use Rattle.line_stream.specs.StreamState.{HasNoFeed}

-- ---- the parts of a split

pub record IsCons (xss : List (List ℕ)) : Type 0 where
  pub first : List ℕ
  pub more : List (List ℕ)
  pub is : xss ≡ first ∷ more

onto_cons : (c : ℕ) (xss : List (List ℕ)) → IsCons (onto_first c xss)
onto_cons c [] = record { first = c ∷ []; more = []; is = refl }
onto_cons c (xs ∷ xss) = record { first = c ∷ xs; more = xss; is = refl }

split_step : (b : Bool) (c : ℕ) (xss : List (List ℕ)) → IsCons (cond b ([] ∷ xss) (onto_first c xss))
split_step true c xss = record { first = []; more = xss; is = refl }
split_step false c xss = onto_cons c xss

pub split_cons : (bytes : List ℕ) → IsCons (slice_split is_line_feed bytes)
split_cons [] = record { first = []; more = []; is = refl }
split_cons (c ∷ cs) = split_step (is_line_feed c) c (slice_split is_line_feed cs)

-- ---- lists of parts, after others

pub last_after : (xs : List ℕ) (xss : List (List ℕ)) → IsCons xss → last_piece (xs ∷ xss) ≡ last_piece xss
last_after xs xss c = ap (λ z. last_piece (xs ∷ z)) c.is ∙ sym (ap last_piece c.is)

whole_after : (xs : List ℕ) (xss : List (List ℕ)) → IsCons xss → all_but_last (xs ∷ xss) ≡ xs ∷ all_but_last xss
whole_after xs xss c = ap (λ z. all_but_last (xs ∷ z)) c.is ∙ sym (ap (λ z. xs ∷ all_but_last z) c.is)

append_cons : (xss yss : List (List ℕ)) → IsCons yss → IsCons (xss ++ yss)
append_cons [] yss c = c
append_cons (xs ∷ xss) yss c = record { first = xs; more = xss ++ yss; is = refl }

whole-append : (xss yss : List (List ℕ)) → IsCons yss → all_but_last (xss ++ yss) ≡ xss ++ all_but_last yss
whole-append [] yss c = refl
whole-append (xs ∷ xss) yss c = whole_after xs (xss ++ yss) (append_cons xss yss c) ∙ ap (λ z. xs ∷ z) (whole-append xss yss c)

last-append : (xss yss : List (List ℕ)) → IsCons yss → last_piece (xss ++ yss) ≡ last_piece yss
last-append [] yss c = refl
last-append (xs ∷ xss) yss c = last_after xs (xss ++ yss) (append_cons xss yss c) ∙ last-append xss yss c

-- ---- a split of two parts: the complete lines of the first, and then the split of its unfinished
-- line with the second

glued : (b : Bool) (c : ℕ) (ys : List ℕ) (xss : List (List ℕ)) → IsCons xss → is_line_feed c ≡ b
    → cond b ([] ∷ (all_but_last xss ++ slice_split is_line_feed (last_piece xss ++ ys))) (onto_first c (all_but_last xss ++ slice_split is_line_feed (last_piece xss ++ ys)))
    ≡ all_but_last (cond b ([] ∷ xss) (onto_first c xss)) ++ slice_split is_line_feed (last_piece (cond b ([] ∷ xss) (onto_first c xss)) ++ ys)
glued true c ys xss n e =
    ap (λ z. [] ∷ (all_but_last xss ++ slice_split is_line_feed (z ++ ys))) (sym (last_after [] xss n))
    ∙ ap (λ z. z ++ slice_split is_line_feed (last_piece ([] ∷ xss) ++ ys)) (sym (whole_after [] xss n))
glued false c ys [] n e = absurd (cc)
glued false c ys (xs ∷ []) n e = ap (λ b. cond b ([] ∷ slice_split is_line_feed (xs ++ ys)) (onto_first c (slice_split is_line_feed (xs ++ ys)))) (sym e)
glued false c ys (xs ∷ next ∷ more) n e = refl

pub split-append : (xs ys : List ℕ) → slice_split is_line_feed (xs ++ ys)
    ≡ all_but_last (slice_split is_line_feed xs) ++ slice_split is_line_feed (last_piece (slice_split is_line_feed xs) ++ ys)
split-append [] ys = refl
split-append (c ∷ cs) ys =
    ap (λ z. cond (is_line_feed c) ([] ∷ z) (onto_first c z)) (split-append cs ys)
    ∙ glued (is_line_feed c) c ys (slice_split is_line_feed cs) (split_cons cs) refl

pub complete_lines-append : (xs ys : List ℕ) → complete_lines (xs ++ ys) ≡ complete_lines xs ++ complete_lines (unfinished_line xs ++ ys)
complete_lines-append xs ys = ap all_but_last (split-append xs ys) ∙ whole-append (complete_lines xs) (slice_split is_line_feed (unfinished_line xs ++ ys)) (split_cons (unfinished_line xs ++ ys))

pub unfinished_line-append : (xs ys : List ℕ) → unfinished_line (xs ++ ys) ≡ unfinished_line (unfinished_line xs ++ ys)
unfinished_line-append xs ys = ap last_piece (split-append xs ys) ∙ last-append (complete_lines xs) (slice_split is_line_feed (unfinished_line xs ++ ys)) (split_cons (unfinished_line xs ++ ys))

-- ---- bytes without an LF, and with one

pub complete_lines-none : (xs : List ℕ) → HasNoFeed xs → complete_lines xs ≡ []
complete_lines-none xs h = ap all_but_last (slice_split_none is_line_feed xs h)

pub unfinished_line-none : (xs : List ℕ) → HasNoFeed xs → unfinished_line xs ≡ xs
unfinished_line-none xs h = ap last_piece (slice_split_none is_line_feed xs h)

pub complete_lines-split_at_feed : (xs : List ℕ) (c : ℕ) (ys : List ℕ) → HasNoFeed xs → is_line_feed c ≡ true → complete_lines (xs ++ c ∷ ys) ≡ xs ∷ complete_lines ys
complete_lines-split_at_feed xs c ys h e = ap all_but_last (slice_split_at is_line_feed xs c ys h e) ∙ whole_after xs (slice_split is_line_feed ys) (split_cons ys)

pub unfinished_line-split_at_feed : (xs : List ℕ) (c : ℕ) (ys : List ℕ) → HasNoFeed xs → is_line_feed c ≡ true → unfinished_line (xs ++ c ∷ ys) ≡ unfinished_line ys
unfinished_line-split_at_feed xs c ys h e = ap last_piece (slice_split_at is_line_feed xs c ys h e) ∙ last_after xs (slice_split is_line_feed ys) (split_cons ys)
