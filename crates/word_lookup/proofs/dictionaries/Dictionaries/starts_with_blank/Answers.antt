use Rattle.std.proofs.Common.{◌∙◌}
use Rattle.word_lookup.specs.Overlays.{overlay_of}
use Rattle.word_lookup.proofs.BlankScanLemmas.{begins_by_found}
use Rattle.word_lookup.proofs.DictionaryLaws.{space_of}
use Rattle.word_lookup.proofs.dictionaries.Dictionaries.starts_with_blank.Goals as goal

pub returns : goal.returns
returns c = λ text is. c.shares.ensures ∙ begins_by_found (overlay_of c.args.self.now) text c.args.self.now.space c.args.first is (space_of c.args.self.now)
