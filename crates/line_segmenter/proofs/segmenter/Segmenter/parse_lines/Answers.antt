use Rattle.line_segmenter.proofs.SegmentedTexts.{segmented_if_ok}
use Rattle.line_segmenter.proofs.segmenter.Segmenter.parse_lines.Goals as goal

pub returns-clause-ok : goal.returns-clause-ok
returns-clause-ok c = segmented_if_ok c.args.self.now c.args.text.now c.args.out.now.items c.print_lines.new.out.items c.print_lines.result c.print_lines.ensures.printed
