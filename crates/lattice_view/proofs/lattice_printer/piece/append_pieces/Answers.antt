use Rattle.std.proofs.Common.{rules, ◌∙◌}
use Rattle.word_lookup.proofs.AppendLemmas.{prefix_kept}
use Rattle.lattice_view.proofs.lattice_printer.piece.append_pieces.Goals as goal

pub returns-in_err-append_piece-clause-unchanged : goal.returns-in_err-append_piece-clause-unchanged
returns-in_err-append_piece-clause-unchanged c = prefix_kept _ _ _ _ _ (search rules) (c.append_piece.ensures.unchanged ∙ c.loop-piece.invariant)
