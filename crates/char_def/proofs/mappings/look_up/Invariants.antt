use Rattle.std.proofs.Common.{◌≡◌, ◌++◌, map}
use Rattle.char_def.specs.CharLines.{all_range_categories, first_undefined, mappings_are}
use Rattle.char_def.specs.Definitions.{definitions_are}
use Rattle.char_def.specs.Mapped.{range_categories_by}
use Rattle.char_def.proofs.mappings.look_up.Given as goal

abbrev pub invariant-loop-number : goal.invariant-loop-number
invariant-loop-number l = record {
  left : first_undefined (definitions_are l.definitions) (mappings_are l.fn.mappings.items) ≡ first_undefined (definitions_are l.definitions) (mappings_are l.number-iterator.rest.items);
  range_categories : all_range_categories (definitions_are l.definitions) (mappings_are l.fn.mappings.items) ≡ map range_categories_by l.mapped.items ++ all_range_categories (definitions_are l.definitions) (mappings_are l.number-iterator.rest.items);
}
