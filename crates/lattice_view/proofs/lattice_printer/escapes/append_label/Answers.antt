use Rattle.std.proofs.Common.{rules, ◌∙◌}
use Rattle.word_lookup.proofs.AppendLemmas.{prefix_kept}
use Rattle.lattice_view.proofs.lattice_printer.escapes.append_label.Goals as goal

pub returns-in_err-append_after-clause-unchanged : goal.returns-in_err-append_after-clause-unchanged
returns-in_err-append_after-clause-unchanged c = prefix_kept _ _ _ _ _ (search rules) (c.append_after.ensures.unchanged ∙ c.loop-byte.invariant.1)
