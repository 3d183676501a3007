use Rattle.std.proofs.Common.{◌≡◌, ◌≤◌, ◌++◌, [], length}
use Rattle.mj_model.specs.declared.limits.TheConstants.{CATEGORIES_MAX}
use Rattle.mj_model.specs.CharDef.{first_bad_line, source_from}
use Rattle.mj_model.specs.Lines.{numbered_lines}
use Rattle.char_def.specs.CharLines.{mappings_are, numbered_mappings}
use Rattle.char_def.specs.Definitions.{definitions_are}
use Rattle.char_def.proofs.char_lines.read_lines.Given as goal

abbrev pub invariant-loop-number : goal.invariant-loop-number
invariant-loop-number l = record {
  can : (goal.iterator-loop-number).can_next l.number-iterator;
  finite : (goal.iterator-loop-number).is_finite l.number-iterator;
  few : length l.read.definitions.items ≤ CATEGORIES_MAX;
  left : first_bad_line [] (numbered_lines l.bytes) ≡ first_bad_line (definitions_are l.read.definitions.items) l.number-iterator;
  defined : (source_from (numbered_lines l.bytes)).categories ≡ definitions_are l.read.definitions.items ++ (source_from l.number-iterator).categories;
  mapped : numbered_mappings (numbered_lines l.bytes) ≡ mappings_are l.read.mappings.items ++ numbered_mappings l.number-iterator;
}
