use Rattle.std.proofs.Common.{drop, refl, sym, ◌∙◌}
use Rattle.word_lookup.specs.Overlays.{overlay_of}
use Rattle.word_lookup.proofs.BlankScanLemmas.{no_blanks}
use Rattle.word_lookup.proofs.dictionaries.Dictionaries.blanks_with_hint.Goals as goal

pub returns-else-starts_with_blank : goal.returns-else-starts_with_blank
returns-else-starts_with_blank c =
    let rest = drop c.args.place c.args.text.now in
    no_blanks (overlay_of c.args.self.now) c.args.text.now rest c.args.place refl (sym (c.starts_with_blank.ensures rest c.requires.first) ∙ c.if-starts_with_blank.false)
