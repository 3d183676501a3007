use Rattle.std.proofs.Common.{ap, subst, ◌^◌, ◌≤◌, ◌+◌, ◌<◌, inl, inr, refl, sym, ◌∙◌, arith, length, slice_index}
use Rattle.image_format.specs.declared.header.Header.{Header}
use Rattle.image_format.specs.Headers.{AreEnds}
use Rattle.image_format.specs.ImageBytes.{header_of, section_end}
use Rattle.image_format.specs.ImageFaults.{PassesDigest}
use Rattle.image_format.specs.Layouts.{bytes_after_sections}
use Rattle.dict_image.proofs.FrameLemmas.{too_far, too_short, enough, too_long, no_more, no_digest, has_digest, digest_at, end_within}
use Rattle.dict_image.proofs.ValueLemmas.{not_both}
use Rattle.dict_image.proofs.validation.frame.check_ends.Goals as goal
use Rattle.dict_image.proofs.validation.frame.check_ends.Goals.{then-length-end-via-then-length-end, then-length-end-via-else-length-end+then-length-end-2, else-following-gt0-via-then-following-gt0+else-not-passes_digest, else-following-gt0-via-else-following-gt0}

pub returns-in_default : goal.returns-in_default
returns-in_default c =
    let h = header_of c.args.bytes.now in
    let far = subst (λ (x : Header). 2 ^ 64 ≤ section_end x 8) c.requires c.in_default.ensures in
    inl (too_far h (length c.args.bytes.now) far (omega arith), refl)

pub returns-then-length-end : goal.returns-then-length-end
returns-then-length-end c =
    let h = header_of c.args.bytes.now in
    let at = (subst (AreEnds c.in-Some.ends) c.requires c.in-Some.ensures).each 8 (omega arith) in
    let much = c.bytes_after_sections-following.ensures ∙ ap (λ (x : Header). bytes_after_sections x.layout) c.requires in
    let end = slice_index c.in-Some.ends 8 in
    let following = c.bytes_after_sections-following.result in
    let few : length c.args.bytes.now < end + following = elim c.then-length-end.branch [
      | then-length-end-via-then-length-end w ↦ let l = w.if-length-end.true in omega (arith, l)
      | then-length-end-via-else-length-end+then-length-end-2 w ↦ let a = w.if-length-end.false in let l = w.if-length-end-2.true in omega (arith, a, l)
    ] in
    inl (too_short h (length c.args.bytes.now) end following at much few, refl)

pub returns-then-length-end-3 : goal.returns-then-length-end-3
returns-then-length-end-3 c =
    let h = header_of c.args.bytes.now in
    let at = (subst (AreEnds c.in-Some.ends) c.requires c.in-Some.ensures).each 8 (omega arith) in
    let much = c.bytes_after_sections-following.ensures ∙ ap (λ (x : Header). bytes_after_sections x.layout) c.requires in
    let n = length c.args.bytes.now in
    let end = slice_index c.in-Some.ends 8 in
    let following = c.bytes_after_sections-following.result in
    let a = c.if-length-end.false in
    let b = c.if-length-end-2.false in
    let m = c.if-length-end-3.true in
    inr (enough h n end following at much (omega (arith, a, b)), inl (too_long h n end following at much (omega (arith, a, m)), refl))

pub returns-then-not-passes_digest : goal.returns-then-not-passes_digest
returns-then-not-passes_digest c =
    let h = header_of c.args.bytes.now in
    let at = (subst (AreEnds c.in-Some.ends) c.requires c.in-Some.ensures).each 8 (omega arith) in
    let much = c.bytes_after_sections-following.ensures ∙ ap (λ (x : Header). bytes_after_sections x.layout) c.requires in
    let n = length c.args.bytes.now in
    let end = slice_index c.in-Some.ends 8 in
    let following = c.bytes_after_sections-following.result in
    let a = c.if-length-end.false in
    let b = c.if-length-end-2.false in
    let m = c.if-length-end-3.false in
    inr (
      enough h n end following at much (omega (arith, a, b)),
      inr (
        no_more h n end following at much (omega (arith, a, b, m)),
        inl (
          (λ has. let t = c.passes_digest.ensures.1 (digest_at c.args.digest c.args.bytes.now (section_end h 8) end (sym at) (has (has_digest h following much c.if-following-gt0.true))) in not_both c.passes_digest.result t c.if-not-passes_digest.true),
          refl,
        ),
      ),
    )

pub returns : goal.returns
returns c =
    let bytes = c.args.bytes.now in
    let h = header_of bytes in
    let ends = subst (AreEnds c.in-Some.ends) c.requires c.in-Some.ensures in
    let at = ends.each 8 (omega arith) in
    let much = c.bytes_after_sections-following.ensures ∙ ap (λ (x : Header). bytes_after_sections x.layout) c.requires in
    let n = length bytes in
    let end = slice_index c.in-Some.ends 8 in
    let following = c.bytes_after_sections-following.result in
    let a = c.if-length-end.false in
    let b = c.if-length-end-2.false in
    let m = c.if-length-end-3.false in
    let digest : PassesDigest c.args.digest bytes = elim c.else-following-gt0.branch [
      | else-following-gt0-via-then-following-gt0+else-not-passes_digest w ↦ λ _. digest_at c.args.digest bytes end (section_end h 8) at (w.passes_digest.ensures.0 w.if-not-passes_digest.false)
      | else-following-gt0-via-else-following-gt0 w ↦ λ three. absurd (no_digest h n end following at much w.if-following-gt0.false three)
    ] in
    ((enough h n end following at much (omega (arith, a, b)), (no_more h n end following at much (omega (arith, a, b, m)), (digest, tt))), ends, end_within h n (enough h n end following at much (omega (arith, a, b))))
