use Rattle.std.proofs.Common.{◌*◌, ◌≤◌}
use Rattle.dict_image.specs.ContextIds.{HaveSameSizes}
use Rattle.word_lookup.specs.Overlays.{overlay_of}
use Rattle.word_lookup.specs.ScanCaches.{AreScansOver}
use Rattle.word_lookup.specs.declared.context_ids.TheConstants.{COLLECTED_MAX}
use Rattle.word_lookup.proofs.dictionaries.Dictionaries.collect_context_ids.Given as goal

abbrev pub invariant-loop-place : goal.invariant-loop-place
invariant-loop-place l = record {
  sizes : HaveSameSizes l.fn.ids l.ids;
  last : AreScansOver (overlay_of l.self) l.text l.last;
  bounded : l.collected ≤ COLLECTED_MAX * l.place;
}
