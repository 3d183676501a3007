use Rattle.lex_source.proofs.EntryLemmas.{sorted_rows}
use Rattle.lex_source.proofs.source_lexicon.SourceLexicon.sorted.Goals as goal

pub invariant_of-result : goal.invariant_of-result
invariant_of-result c = sorted_rows c.self.inside.sizes _ _ c.in_ok-in_order.ensures c.self.invariant
