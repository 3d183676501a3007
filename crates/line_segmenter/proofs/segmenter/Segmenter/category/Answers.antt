use Rattle.std.proofs.Common.{◌≡◌, ◌∙◌}
use Rattle.word_lookup.specs.Overlays.{overlay_of}
use Rattle.line_segmenter.specs.Segmenters.{overlay_of_state, overlay_in}
use Rattle.line_segmenter.proofs.WordLemmas.{category_is, word_begins, word_there}
use Rattle.line_segmenter.proofs.segmenter.Segmenter.category.Goals as goal

pub category_at-requires : goal.category_at-requires
category_at-requires c =
    let d = c.with_grouping-dictionaries.result in
    let o : overlay_of d ≡ overlay_of_state c.args.self.now = c.with_grouping-dictionaries.ensures ∙ (λ j. overlay_in (c.deref-2.ensures j) c.self.inside.grouping)
    ∙ (λ j. overlay_in (c.self.view_is j).images (c.self.view_is j).grouping) in
    let segment = c.in_ok-text.ensures.segmented.1 in
    word_begins d (overlay_of_state c.args.self.now) c.in_ok-text.text.now c.in_ok-text.path.now.words.items c.args.i c.in-Some.word.now segment.is_utf8 segment.short o segment.best (word_there c.deref.result.now c.in_ok-text.path.now.words.items c.args.i c.in-Some.word.now c.deref.ensures.value c.in-Some.ensures.lookup.3.0 c.in-Some.ensures.lookup.1)

pub returns-clause-category : goal.returns-clause-category
returns-clause-category c =
    let o : overlay_of c.with_grouping-dictionaries.result ≡ overlay_of_state c.args.self.now = c.with_grouping-dictionaries.ensures ∙ (λ j. overlay_in (c.deref-2.ensures j) c.self.inside.grouping)
    ∙ (λ j. overlay_in (c.self.view_is j).images (c.self.view_is j).grouping) in
    category_is c.args.self.now c.args.i c.category_at.result _ c.in-Some.word.now _ c.in_ok-text.ensures.segmented.0 c.in_ok-text.ensures.segmented.1
    (word_there c.deref.result.now c.in_ok-text.path.now.words.items c.args.i c.in-Some.word.now c.deref.ensures.value c.in-Some.ensures.lookup.3.0 c.in-Some.ensures.lookup.1) o c.category_at.ensures
