use Rattle.viterbi.proofs.BoundaryLemmas.{either, never_both}
use Rattle.viterbi.proofs.rivals.laws.same_boundaries_or_other_words.Goals as goal

pub returns-clause-either : goal.returns-clause-either
returns-clause-either c = either

pub returns-clause-never_both : goal.returns-clause-never_both
returns-clause-never_both c = never_both
