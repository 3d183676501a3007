use Rattle.std.proofs.Common.{◌≡◌, ◌^◌, ◌∷◌}
use Rattle.std.specs.Prelude.{bit_or, fold}
use Rattle.std.specs.List.{list_all}
use Rattle.mj_model.specs.CharDef.{is_defined, category_bits, category_number}
use Rattle.char_def.specs.Definitions.{definitions_are}
use Rattle.char_def.proofs.mappings.info_of.Given as goal

abbrev pub invariant-loop-name : goal.invariant-loop-name
invariant-loop-name l = record {
  can : (goal.iterator-loop-name).can_next l.name-iterator;
  finite : (goal.iterator-loop-name).is_finite l.name-iterator;
  defined : list_all (is_defined (definitions_are l.fn.definitions)) (l.fn.first ∷ l.fn.others) ≡ list_all (is_defined (definitions_are l.fn.definitions)) l.name-iterator;
  set : category_bits (definitions_are l.fn.definitions) (l.fn.first ∷ l.fn.others) ≡ fold (λ bits name. bit_or bits (2 ^ category_number (definitions_are l.fn.definitions) name)) l.bits l.name-iterator;
}
