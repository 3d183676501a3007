use Rattle.std.proofs.Common.{◌≡◌, ◌++◌, flat_map, take}
use Rattle.image_writer.proofs.frame.append_sections.Given as goal

abbrev pub invariant-loop-section : goal.invariant-loop-section
invariant-loop-section l = l.image.items ≡ l.fn.image.items ++ flat_map (λ section. section.now) (take l.section-index l.sections)
