use Rattle.std.proofs.Common.{rules, ◌∙◌}
use Rattle.word_lookup.specs.Overlays.{overlay_of}
use Rattle.mj_model.specs.Surfaces.{IsWhole}
use Rattle.word_lookup.specs.Surfaces.{surface_words}
use Rattle.word_lookup.proofs.AppendLemmas.{prefix_kept}
use Rattle.word_lookup.proofs.WordLemmas.{holds_at, one_surface_more}
use Rattle.word_lookup.proofs.dictionaries.Dictionaries.append_words.Goals as goal

pub append_words_of-requires : goal.append_words_of-requires
append_words_of-requires c = holds_at (IsWhole (surface_words (overlay_of c.args.self.now))) c.args.surfaces.now c.loop-surface.surface-index _ c.requires c.loop-surface-test.true

pub returns-in_err-append_words_of-clause-unchanged : goal.returns-in_err-append_words_of-clause-unchanged
returns-in_err-append_words_of-clause-unchanged c = prefix_kept _ _ _ _ _ (search rules) (c.append_words_of.ensures.unchanged ∙ c.loop-surface.invariant)

pub loop-surface-preserved : goal.loop-surface-preserved
loop-surface-preserved c =
    one_surface_more (surface_words (overlay_of c.args.self.now)) _ _ _ c.args.surfaces.now c.loop-surface.surface-index _ c.loop-surface.invariant c.loop-surface-test.true c.in_ok-append_words_of.ensures.appended
