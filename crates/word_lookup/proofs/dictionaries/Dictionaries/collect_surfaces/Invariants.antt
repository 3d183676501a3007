use Rattle.std.proofs.Common.{◌≤◌}
use Rattle.dict_image.specs.ContextIds.{HaveSameSizes}
use Rattle.word_lookup.specs.declared.context_ids.TheConstants.{COLLECTED_MAX}
use Rattle.word_lookup.proofs.dictionaries.Dictionaries.collect_surfaces.Given as goal

abbrev pub invariant-loop-surface : goal.invariant-loop-surface
invariant-loop-surface l = record { sizes : HaveSameSizes l.fn.ids l.ids; bounded : l.collected ≤ COLLECTED_MAX }
