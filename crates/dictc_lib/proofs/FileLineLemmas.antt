-- The lines of a file in order.
use Rattle.std.proofs.Common.{◌≡◌, ◌⊎◌, ℕ, ◌+◌, ◌-◌, List, [], ◌∷◌, ◌++◌, length, take, drop, refl, sym, ap, ◌∙◌, subst, arith, inl, inr, append_assoc, add-one}
use Rattle.std.proofs.Math.Seq.{take-append_seam, drop-append_seam, drop-length}
use Rattle.std.proofs.lemmas.List.{length-append, append-nil}
use Rattle.matrix_def.specs.Reading.{HasNoFeed}
use Rattle.matrix_def.proofs.ReadingLemmas.{piece_cut}
use Rattle.mj_model.specs.Bytes.{line_feed}
use Rattle.dictc_lib.specs.FileLines.{AreWholeLines, StartsAtLine, IsUpToFeed}

-- the whole file starts after 0 lines
pub no_line : (bytes : List ℕ) → StartsAtLine 0 bytes bytes
no_line bytes = ([], refl, refl)

-- the bytes after a line feed start one line later
pub line_more : (n : ℕ) (bytes rest line following : List ℕ) → StartsAtLine n bytes rest → rest ≡ line ++ line_feed ∷ following → HasNoFeed line → StartsAtLine (n + 1) bytes following
line_more n bytes rest line following begins parts no_feed =
    let before : List ℕ = begins.0 in
    let more : List ℕ = (before ++ line) ++ line_feed ∷ [] in
    let whole : AreWholeLines (n + 1) more = subst (λ (k : ℕ). AreWholeLines k more) (sym (add-one n)) (before, line, begins.2, no_feed, refl) in (
      more,
      piece_cut bytes before rest line following begins.1 parts,
      whole,
    )

-- the prefix before the rest of a file has the difference of their lengths
pub before_rest : (bytes before rest : List ℕ) → bytes ≡ before ++ rest → take (length bytes - length rest) bytes ≡ before
before_rest bytes before rest parts =
    let long : length bytes ≡ length before + length rest = ap length parts ∙ length-append before rest in
    let count : length bytes - length rest ≡ length before = omega (arith, long) in
    ap (λ (n : ℕ). take n bytes) count ∙ ap (λ (xs : List ℕ). take (length before) xs) parts ∙ take-append_seam before rest

module _ (number : ℕ) (bytes rest line : List ℕ) (begins : StartsAtLine (number - 1) bytes rest) (up : IsUpToFeed rest line) where
  before_is : take (length bytes - length rest) bytes ≡ begins.0
  before_is = before_rest bytes begins.0 rest begins.1

  -- the lines before line `number`
  pub lines_are : AreWholeLines (number - 1) (take (length bytes - length rest) bytes)
  lines_are = subst (λ (xs : List ℕ). AreWholeLines (number - 1) xs) (sym before_is) begins.2

  rest_is : rest ≡ line ++ drop (length line) rest
  rest_is = elim up.1 [
    | inl all ↦ all ∙ sym (append-nil line) ∙ ap (λ (xs : List ℕ). line ++ xs) (sym (ap (λ (xs : List ℕ). drop (length line) xs) all ∙ drop-length line))
    | inr more ↦
        more.1 ∙ ap (λ (xs : List ℕ). line ++ xs) (sym (ap (λ (xs : List ℕ). drop (length line) xs) more.1 ∙ drop-append_seam line (line_feed ∷ more.0)))
  ]

  pub whole_is : bytes ≡ take (length bytes - length rest) bytes ++ line ++ drop (length line) rest
  whole_is =
      begins.1 ∙ ap (λ (xs : List ℕ). begins.0 ++ xs) rest_is ∙ sym (append_assoc begins.0 line (drop (length line) rest))
      ∙ ap (λ (xs : List ℕ). (xs ++ line) ++ drop (length line) rest) (sym before_is)

  pub feed_is : (drop (length line) rest ≡ []) ⊎ ((more : List ℕ) × (drop (length line) rest ≡ line_feed ∷ more))
  feed_is = elim up.1 [
    | inl all ↦ inl (ap (λ (xs : List ℕ). drop (length line) xs) all ∙ drop-length line)
    | inr more ↦ inr (more.0, ap (λ (xs : List ℕ). drop (length line) xs) more.1 ∙ drop-append_seam line (line_feed ∷ more.0))
  ]
