-- The length and the SHA-256 of an image.
use Rattle.std.proofs.Common.{◌≡◌, ℕ, ◌+◌, ◌^◌, ◌<◌, ◌≤◌, Bool, true, false, cond, eqb, eqb-true, List, refl, ap, ◌∙◌, arith, subst}
use Rattle.image_format.specs.ImageFaults.{IsDigestAt}
use Rattle.image_format.specs.declared.digest_test.DigestTest.{DigestTest}
use Rattle.image_format.specs.declared.header.Header.{Header}
use Rattle.image_format.specs.ImageBytes.{section_end, total_length}
use Rattle.image_format.specs.Layouts.{bytes_after_sections}

pub too_far : (h : Header) (n : ℕ) → 2 ^ 64 ≤ section_end h 8 → n < 2 ^ 64 → total_length h ≤ n → ⊥
too_far h n far fits within = omega (arith, far, fits, within)

pub end_within : (h : Header) (n : ℕ) → total_length h ≤ n → section_end h 8 ≤ n
end_within h n within = omega (arith, within)

module _ (h : Header) (n end following : ℕ) (at : end ≡ section_end h 8) (much : following ≡ bytes_after_sections h.layout) where
  pub too_short : n < end + following → total_length h ≤ n → ⊥
  too_short few within = omega (arith, at, much, few, within)

  pub enough : end + following ≤ n → total_length h ≤ n
  enough some = omega (arith, at, much, some)

  pub too_long : end + following < n → n ≤ total_length h → ⊥
  too_long many within = omega (arith, at, much, many, within)

  pub no_more : n ≤ end + following → n ≤ total_length h
  no_more few = omega (arith, at, much, few)

  -- if no bytes follow the sections, the layout is not 3
  pub no_digest : following ≤ 0 → h.layout ≡ 3 → ⊥
  no_digest none three =
      let some : following ≡ 32 = much ∙ ap bytes_after_sections three in
      omega (arith, none, some)

by_test : (layout : ℕ) (b : Bool) → eqb layout 3 ≡ b → 0 < cond b 32 0 → layout ≡ 3
by_test layout true test some = eqb-true layout 3 test
by_test layout false test some = absurd (omega (arith, some))

-- if bytes follow the sections, the layout is 3
pub has_digest : (h : Header) (following : ℕ) → following ≡ bytes_after_sections h.layout → 0 < following → h.layout ≡ 3
has_digest h following much some = by_test h.layout (eqb h.layout 3) refl (subst (λ (n : ℕ). 0 < n) much some)

pub digest_at : (digest : DigestTest) (bytes : List ℕ) (end last : ℕ) → end ≡ last → IsDigestAt digest end bytes → IsDigestAt digest last bytes
digest_at digest bytes end last at is = subst (λ (i : ℕ). IsDigestAt digest i bytes) at is
