use Rattle.std.proofs.Common.{◌≡◌}
use Rattle.std.specs.List.{list_all}
use Rattle.mj_model.specs.CharDef.{is_name}
use Rattle.char_def.proofs.line.are_names.Given as goal

abbrev pub invariant-loop-word : goal.invariant-loop-word
invariant-loop-word l = record {
  can : (goal.iterator-loop-word).can_next l.word-iterator;
  finite : (goal.iterator-loop-word).is_finite l.word-iterator;
  left : list_all is_name l.fn.words ≡ list_all is_name l.word-iterator;
}
