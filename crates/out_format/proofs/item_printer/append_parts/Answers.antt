use Rattle.std.proofs.Common.{rules, ◌∙◌, sym}
use Rattle.word_lookup.proofs.AppendLemmas.{prefix_kept}
use Rattle.out_format.proofs.PrintedLemmas.{part_more}
use Rattle.out_format.proofs.item_printer.append_parts.Goals as goal

pub returns-in_err-append_one-clause-unchanged : goal.returns-in_err-append_one-clause-unchanged
returns-in_err-append_one-clause-unchanged g c = prefix_kept _ _ _ _ _ (search rules) (c.append_one.ensures.unchanged ∙ c.loop-part.invariant.appended)

pub loop-part-preserved : goal.loop-part-preserved
loop-part-preserved g c =
    part_more (g.S.ItemPrinter.prints c.args.subject.now) c.args.parts.now c.loop-part.part-index c.part-item.result _ _ _ c.loop-part-test.true (sym c.part-item.is) c.loop-part.invariant c.in_ok-append_one.ensures.appended
