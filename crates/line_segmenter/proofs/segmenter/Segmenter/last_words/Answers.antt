use Rattle.std.proofs.Common.{◌≡◌, ◌∙◌, refl}
use Rattle.word_lookup.specs.Overlays.{overlay_of}
use Rattle.line_segmenter.specs.Segmenters.{overlay_of_state, overlay_in}
use Rattle.line_segmenter.proofs.BorrowedLemmas.{last_is}
use Rattle.line_segmenter.proofs.segmenter.Segmenter.last_words.Goals as goal

pub returns-clause-words : goal.returns-clause-words
returns-clause-words c =
    let o : overlay_of c.with_grouping-dictionaries.result ≡ overlay_of_state c.args.self.now = c.with_grouping-dictionaries.ensures ∙ (λ j. overlay_in (c.deref.ensures j) c.self.inside.grouping)
    ∙ (λ j. overlay_in (c.self.view_is j).images (c.self.view_is j).grouping) in
    last_is c.args.self.now _ _ c.in_ok-text.ensures.segmented.0 c.in_ok-text.ensures.segmented.1 o refl c.deref-2.ensures.value
