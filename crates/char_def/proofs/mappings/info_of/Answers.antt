use Rattle.std.proofs.Common.{◌∙◌}
use Rattle.char_def.specs.Definitions.{definitions_are}
use Rattle.char_def.proofs.NameLemmas.{defined_later, bits_later, one_bit}
use Rattle.char_def.proofs.mappings.info_of.Goals as goal

pub loop-name-preserved : goal.loop-name-preserved
loop-name-preserved c = record {
  can = tt;
  finite = tt;
  defined = c.loop-name.invariant.defined ∙ defined_later (definitions_are c.args.definitions.now) _ _ c.in-Some.name.now c.in-Some.ensures.steps c.in_ok-bits.ensures.defined;
  set = c.loop-name.invariant.set ∙ bits_later (definitions_are c.args.definitions.now) _ _ c.in-Some.name.now c.loop-name.bits c.in_ok-bits.field-0 _ c.in-Some.ensures.steps c.in_ok-bits.ensures.is (one_bit c.args.definitions.now c.in_ok-bits.field-0 c.in_ok-bits.ensures.within c.requires);
}
