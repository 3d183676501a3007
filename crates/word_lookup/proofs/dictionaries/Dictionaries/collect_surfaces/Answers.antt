use Rattle.word_lookup.specs.Overlays.{overlay_of}
use Rattle.mj_model.specs.Surfaces.{IsWhole}
use Rattle.word_lookup.specs.Surfaces.{surface_words}
use Rattle.word_lookup.proofs.WordLemmas.{holds_at}
use Rattle.word_lookup.proofs.dictionaries.Dictionaries.collect_surfaces.Goals as goal

pub collect_first-requires-clause-surface : goal.collect_first-requires-clause-surface
collect_first-requires-clause-surface c = holds_at (IsWhole (surface_words (overlay_of c.args.self.now))) c.args.surfaces.now c.loop-surface.surface-index _ c.requires c.loop-surface-test.true
