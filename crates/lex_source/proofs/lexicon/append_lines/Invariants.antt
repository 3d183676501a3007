use Rattle.mj_model.specs.Lines.{numbered_lines}
use Rattle.lex_source.specs.Steps.{HasRead}
use Rattle.lex_source.proofs.lexicon.append_lines.Given as goal

abbrev pub invariant-loop-number : goal.invariant-loop-number
invariant-loop-number l =
    (goal.iterator-loop-number).can_next l.number-iterator ×
    (goal.iterator-loop-number).is_finite l.number-iterator ×
    HasRead l.fn.out.items l.out.items (numbered_lines l.bytes) l.number-iterator l.skipped
