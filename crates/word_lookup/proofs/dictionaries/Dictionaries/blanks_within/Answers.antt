use Rattle.std.proofs.Common.{drop, refl, sym, ◌∙◌}
use Rattle.word_lookup.specs.Overlays.{overlay_of}
use Rattle.word_lookup.proofs.BlankScanLemmas.{blanks_inside, no_blanks}
use Rattle.word_lookup.proofs.dictionaries.Dictionaries.blanks_within.Goals as goal

pub returns-then-starts_with_blank-clause-after_blanks : goal.returns-then-starts_with_blank-clause-after_blanks
returns-then-starts_with_blank-clause-after_blanks c =
    blanks_inside (overlay_of c.args.self.now) c.args.text.now (drop c.args.place c.args.text.now) c.args.run c.args.place c.requires.run c.requires.place c.requires.from c.requires.to
    refl (sym (c.starts_with_blank.ensures _ c.requires.first) ∙ c.if-starts_with_blank.true)

pub returns-else-starts_with_blank-clause-after_blanks : goal.returns-else-starts_with_blank-clause-after_blanks
returns-else-starts_with_blank-clause-after_blanks c =
    no_blanks (overlay_of c.args.self.now) c.args.text.now (drop c.args.place c.args.text.now) c.args.place refl (sym (c.starts_with_blank.ensures _ c.requires.first) ∙ c.if-starts_with_blank.false)
