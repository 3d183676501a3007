-- An image composed of well-formed sections is well formed.
use Rattle.std.proofs.Common.{◌≡◌, ℕ, suc, ◌≤◌, List, [], ◌∷◌, ◌++◌, length, sym, ap, ◌∙◌, subst, arith}
use Rattle.std.specs.Prelude.{slice_index_or}
use Rattle.image_format.specs.declared.header.Header.{Header}
use Rattle.image_format.specs.ImageBytes.{header_length, header_of, section, section_end, total_length}
use Rattle.image_format.specs.ImageFaults.{Test, IsIntact, PassAll, header_tests, key_tests, system_tests, token_tests}
use Rattle.image_format.specs.Layouts.{IsReadLayout, key_form}
use Rattle.image_writer.specs.Frames.{IsFramed}

-- section k of some
abbrev pub at : List (List ℕ) → ℕ → List ℕ
at sections k = slice_index_or sections k []

-- a header and its sections, as they are tested
abbrev pub part_tests : Header → List (List ℕ) → List Test
part_tests h s =
    header_tests h
    ++ (system_tests h (at s 0) (at s 1) (at s 2) (at s 3) ++ (key_tests (key_form h.layout) h.groups (at s 4) ++ token_tests h (at s 5) (at s 6) (at s 7)))

abbrev pub eight_of : (ℕ → List ℕ) → List (List ℕ)
eight_of s = s 0 ∷ s 1 ∷ s 2 ∷ s 3 ∷ s 4 ∷ s 5 ∷ s 6 ∷ s 7 ∷ []

module _ (h : Header) (s : List (List ℕ)) (image : List ℕ) (framed : IsFramed h s image) where
  sections_are : eight_of (λ k. section image (suc k)) ≡ eight_of (at s)
  sections_are = λ i.
      framed.sections_are 0 (omega (arith)) i ∷ framed.sections_are 1 (omega (arith)) i ∷ framed.sections_are 2 (omega (arith)) i
      ∷ framed.sections_are 3 (omega (arith)) i ∷ framed.sections_are 4 (omega (arith)) i ∷ framed.sections_are 5 (omega (arith)) i
      ∷ framed.sections_are 6 (omega (arith)) i ∷ framed.sections_are 7 (omega (arith)) i ∷ []

  -- the header and the sections of an image are these
  pub from_parts : (P : Header → List (List ℕ) → Type 0) → P h (eight_of (at s)) → P (header_of image) (eight_of (λ k. section image (suc k)))
  from_parts P p =
      subst (λ (g : Header). P g (eight_of (λ k. section image (suc k)))) (sym framed.header)
      (subst (P h) (sym sections_are) p)

  pub formed_of : IsReadLayout h.layout → PassAll (part_tests h (eight_of (at s))) → IsIntact image
  formed_of layout pass =
      let whole : length image ≡ total_length (header_of image) = framed.whole ∙ ap total_length (sym framed.header) in
      let long : header_length ≤ section_end (header_of image) 8 = omega (arith) in
      let read = subst (λ (g : Header). IsReadLayout g.layout) (sym framed.header) layout in
      let rest = from_parts (λ g ss. PassAll (part_tests g ss)) pass in
      (omega (arith, whole, long), (framed.magic, (read, (omega (arith, whole), (omega (arith, whole), (framed.digest, rest))))))
