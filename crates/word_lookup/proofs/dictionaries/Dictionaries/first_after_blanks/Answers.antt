use Rattle.std.proofs.Common.{arith, ap, sym, ◌∙◌}
use Rattle.std.specs.Prelude.{chars}
use Rattle.word_lookup.specs.Overlays.{overlay_of}
use Rattle.word_lookup.proofs.FirstLemmas.{found_or}
use Rattle.word_lookup.proofs.PlaceLemmas.{ends_there}
use Rattle.word_lookup.proofs.dictionaries.Dictionaries.first_after_blanks.Goals as goal

pub returns : goal.returns
returns c =
    let at = c.args.at in
    found_or (overlay_of c.args.self.now).system.info (chars at.rest.now) c.first_with_hint.result c.args.first c.unwrap_or.result c.first_with_hint.ensures c.unwrap_or.ensures
    (λ none. let ends = ends_there at.text.now at.start at.there (ap chars (sym at.rest_is) ∙ none) in omega (arith, ends, c.requires.within))
