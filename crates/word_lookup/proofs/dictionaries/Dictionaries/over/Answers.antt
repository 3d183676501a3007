use Rattle.std.proofs.Common.{ap, map}
use Rattle.image_format.specs.ImageMeaning.{image_tables}
use Rattle.mj_model.specs.declared.category.CharInfo.{CharInfo}
use Rattle.word_lookup.proofs.DictionaryLaws.{system_by}
use Rattle.word_lookup.proofs.UserLemmas.{laid_over}
use Rattle.word_lookup.specs.Overlays.{overlay_of}
use Rattle.word_lookup.proofs.dictionaries.Dictionaries.over.Goals as goal

pub info-requires : goal.info-requires
unfolding overlay_of
info-requires c = system_by _ (laid_over (image_tables c.args.system.now) (map image_tables c.args.users.now) c.requires).is_system

pub invariant_of-result : goal.invariant_of-result
unfolding overlay_of
invariant_of-result c = record {
  fitting = c.requires;
  space_is = record { bits = ap (λ (i : CharInfo). i.bits) c.info.ensures.info; head = ap (λ (i : CharInfo). i.head) c.info.ensures.info };
}
