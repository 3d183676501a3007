use Rattle.std.proofs.Common.{ap}
use Rattle.word_lookup.specs.Overlays.{overlay_of}
use Rattle.word_lookup.specs.Surfaces.{tokens_of}
use Rattle.word_lookup.proofs.TableLemmas.{all_fit, listed_within}
use Rattle.word_lookup.proofs.dictionaries.Dictionaries.listed.Goals as goal

pub numbered-requires : goal.numbered-requires
numbered-requires c = listed_within c.args.self.now c.args.list c.in-Lexicon.number c.in-Lexicon.is c.requires

pub returns-in-Categories-clause-tokens : goal.returns-in-Categories-clause-tokens
unfolding overlay_of
returns-in-Categories-clause-tokens c = ap (tokens_of (overlay_of c.args.self.now)) c.in-Categories.is

pub returns-in-Categories-clause-fits : goal.returns-in-Categories-clause-fits
returns-in-Categories-clause-fits c = (all_fit c.args.self.now).0
