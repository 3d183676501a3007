use Rattle.std.proofs.Common.{◌≡◌, ◌∙◌, refl}
use Rattle.word_lookup.specs.Overlays.{overlay_of}
use Rattle.line_segmenter.specs.Segmenters.{overlay_of_state, overlay_in}
use Rattle.line_segmenter.proofs.BorrowedLemmas.{best_of, lattice_is}
use Rattle.line_segmenter.proofs.segmenter.Segmenter.lattice.Goals as goal

pub marked_lattice-requires : goal.marked_lattice-requires
marked_lattice-requires c =
    let o : overlay_of c.with_grouping-dictionaries.result ≡ overlay_of_state c.args.self.now = c.with_grouping-dictionaries.ensures ∙ (λ j. overlay_in (c.deref.ensures j) c.self.inside.grouping)
    ∙ (λ j. overlay_in (c.self.view_is j).images (c.self.view_is j).grouping) in
    let segment = c.in_ok-text.ensures.segmented.1 in
    let text = c.in_ok-text.text.now in
    record {
      short = segment.short;
      best = best_of (overlay_of_state c.args.self.now) (overlay_of c.with_grouping-dictionaries.result) text text c.deref-2.result.now c.in_ok-text.path.now.words.items segment.best o refl c.deref-2.ensures.value;
    }

pub returns-clause-lattice : goal.returns-clause-lattice
returns-clause-lattice c =
    let o : overlay_of c.with_grouping-dictionaries.result ≡ overlay_of_state c.args.self.now = c.with_grouping-dictionaries.ensures ∙ (λ j. overlay_in (c.deref.ensures j) c.self.inside.grouping)
    ∙ (λ j. overlay_in (c.self.view_is j).images (c.self.view_is j).grouping) in
    lattice_is c.args.self.now _ c.in_ok-lattice.lattice _ _ c.in_ok-text.ensures.segmented.0 c.in_ok-text.ensures.segmented.1 o c.deref-2.ensures.value c.in_ok-lattice.ensures
