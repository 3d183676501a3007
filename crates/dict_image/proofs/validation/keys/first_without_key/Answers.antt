use Rattle.std.proofs.Common.{◌≡◌, ℕ, ◌++◌, length, take, drop, arith, below_more, sym, ap, ◌∙◌, subst}
use Rattle.std.proofs.Math.Seq.{take-append_seam}
use Rattle.image_format.specs.ImageFaults.{HasKey}
use Rattle.image_format.specs.ImageSections.{stored_cells}
use Rattle.dict_image.specs.Validation.KeyPrefixes.{AreKeyPrefixes}
use Rattle.dict_image.proofs.validation.keys.first_without_key.Goals as goal

pub loop-group-preserved : goal.loop-group-preserved
loop-group-preserved c =
    let cells = stored_cells c.args.cells.now.bytes.now in
    let prefixes = c.has_key.new.prefixes in
    let kept = c.in_ok-has_key.ensures.prefixes in
    let old = c.loop-group.invariant.prefixes.many in
    let new = kept.many in
    let long = c.loop-group.prefixes.ok.0 in
    let all : c.loop-group.prefixes.len ≡ length prefixes = omega (arith, old, new, long) in
    let following = drop (length prefixes) c.loop-group.prefixes.items in
    let same : take c.loop-group.prefixes.len (prefixes ++ following) ≡ prefixes = ap (λ (n : ℕ). take n (prefixes ++ following)) all ∙ take-append_seam prefixes following in
    record {
      prefixes = subst (AreKeyPrefixes cells) (sym same) kept;
      keys = below_more (HasKey cells) c.loop-group.group c.loop-group.invariant.keys (c.in_ok-has_key.ensures.has.0 c.if-not-branch.false);
    }

pub returns : goal.returns
returns c = λ g below. let past = c.loop-group-test.false in c.loop-group.invariant.keys g (omega (arith, below, past))
