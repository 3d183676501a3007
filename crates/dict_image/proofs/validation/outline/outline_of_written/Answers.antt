use Rattle.std.proofs.Common.{◌≤◌, ◌^◌, arith, ap, subst}
use Rattle.image_format.specs.declared.digest_test.DigestTest.TheVariants.{Verified}
use Rattle.image_format.specs.declared.header.Header.{Header}
use Rattle.image_format.specs.Headers.{AreEnds}
use Rattle.image_format.specs.ImageBytes.{section_end}
use Rattle.image_format.specs.Layouts.{key_form}
use Rattle.dict_image.proofs.OutlineLemmas.{ends_fit, from_accepted}
use Rattle.dict_image.proofs.validation.outline.outline_of_written.Goals as goal

pub unreachable-requires : goal.unreachable-requires
unreachable-requires c =
    ends_fit c.args.bytes.now (from_accepted Verified c.args.bytes.now c.requires.intact) (omega arith) (subst (λ (h : Header). 2 ^ 64 ≤ section_end h 8) c.read_header-header.ensures c.in-None.ensures)

pub returns : goal.returns
returns c = record {
  formed = from_accepted Verified c.args.bytes.now c.requires.intact;
  header_is = c.read_header-header.ensures;
  ends_are = subst (AreEnds c.in-Some.ends) c.read_header-header.ensures c.in-Some.ensures;
  keys_are = ap key_form c.requires.layout;
}
