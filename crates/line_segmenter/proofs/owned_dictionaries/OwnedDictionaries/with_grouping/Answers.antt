use Rattle.std.proofs.Common.{subst, sym}
use Rattle.line_segmenter.specs.Segmenters.{FitOver}
use Rattle.word_lookup.specs.Overlays.{overlay_of}
use Rattle.line_segmenter.proofs.OverlayLemmas.{overlay_found}
use Rattle.line_segmenter.proofs.owned_dictionaries.OwnedDictionaries.with_grouping.Goals as goal

pub over-requires : goal.over-requires
over-requires c = (subst (FitOver c.self.inside.system) (sym c.deref.ensures.value) c.self.invariant).fitting

pub returns : goal.returns
returns c =
    overlay_found c.args.self.now c.args.grouping (overlay_of c.with_grouping.result) (overlay_of c.over.result) c.self.inside.system c.self.inside.users.items c.deref.result.now
    c.self.view_is c.deref.ensures.value c.over.ensures c.with_grouping.ensures
