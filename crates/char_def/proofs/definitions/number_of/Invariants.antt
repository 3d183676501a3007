use Rattle.std.proofs.Common.{◌≡◌, ℕ, ◌<◌, get_or, false}
use Rattle.mj_model.specs.CharDef.{is_named}
use Rattle.char_def.specs.Definitions.{definition_is}
use Rattle.char_def.specs.declared.definitions.Definition.{Definition}
use Rattle.char_def.proofs.definitions.number_of.Given as goal

abbrev pub invariant-loop-number : goal.invariant-loop-number
invariant-loop-number l = (k : ℕ) (d : Definition) → k < l.number → is_named l.name (definition_is (get_or l.definitions k d)) ≡ false
