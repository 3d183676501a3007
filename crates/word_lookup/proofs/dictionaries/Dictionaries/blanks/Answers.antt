use Rattle.std.proofs.Common.{ap, sym, ◌∙◌}
use Rattle.std.specs.Prelude.{chars}
use Rattle.word_lookup.specs.Overlays.{overlay_of}
use Rattle.word_lookup.proofs.BlankScanLemmas.{no_blanks_left}
use Rattle.word_lookup.proofs.FirstLemmas.{none_found}
use Rattle.word_lookup.proofs.dictionaries.Dictionaries.blanks.Goals as goal

pub returns-in-None : goal.returns-in-None
returns-in-None c =
    no_blanks_left (overlay_of c.args.self.now) c.args.text.now c.args.place (ap chars (sym c.suffix.ensures) ∙ none_found _ _ (sym c.in-None.is ∙ c.first_with_hint.ensures))
