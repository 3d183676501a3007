use Rattle.std.proofs.Common.{rules}
use Rattle.image_writer.proofs.FrameLemmas.{frame_of}
use Rattle.image_writer.proofs.frame.write_image.Goals as goal

pub returns : goal.returns
returns c =
    frame_of c.args.header c.args.costs.now c.args.sections.now c.args.features.now c.in_ok-image.image.items c.append_header.new.image.items c.append_costs.new.image.items c.append_sections.new.image.items c.append_texts.new.image.items
    c.digest-digest.result c.extend_from_slice.new.self.items (search rules) c.requires c.append_header.ensures.small c.in_ok-append_header.ensures.short c.in_ok-image.ensures.items
    c.in_ok-append_header.ensures.bytes c.in_ok-append_costs.ensures c.in_ok-append_sections.ensures c.in_ok-append_texts.ensures c.digest-digest.ensures (search rules) c.in_ok-extend_from_slice.ensures.items
