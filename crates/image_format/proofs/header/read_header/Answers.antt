use Rattle.std.proofs.Common.{ap, ◌∙◌}
use Rattle.image_format.specs.DictKinds.{kind_numbered}
use Rattle.image_format.proofs.header.read_header.Goals as goal

pub returns : goal.returns
returns c = λ i. record {
  layout = c.u32_at.ensures i;
  kind = (c.of_number.ensures ∙ ap kind_numbered c.u32_at-2.ensures) i;
  sizes = record { right = c.u32_at-3.ensures i; left = c.u32_at-4.ensures i };
  categories = c.u32_at-5.ensures i;
  groups = c.u32_at-6.ensures i;
  tokens = c.u32_at-7.ensures i;
  unknown = c.u32_at-8.ensures i;
  lengths = c.section_lengths.ensures i;
}
