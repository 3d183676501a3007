use Rattle.std.proofs.Common.{◌∙◌}
use Rattle.word_lookup.specs.Overlays.{overlay_of}
use Rattle.word_lookup.proofs.SurfaceLemmas.{from_none, none_of}
use Rattle.word_lookup.proofs.dictionaries.Dictionaries.words_at.Goals as goal

pub returns-clause-none : goal.returns-clause-none
returns-clause-none c = λ none.
    let are = from_none (overlay_of c.args.self.now) _ _ _ c.new-surfaces.ensures.items c.in_ok-surfaces_at.ensures.appended in
    c.append_words-appended.ensures.none (c.deref.ensures.value ∙ none_of (overlay_of c.args.self.now) _ _ are none)
