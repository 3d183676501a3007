use Rattle.viterbi.proofs.PredecessorLemmas.{new_where_none}
use Rattle.viterbi.proofs.Least.{kept_is_least, least_added}
use Rattle.viterbi.proofs.search.predecessor.PredecessorCacheFindPredecessor.predecessor.Goals as goal

pub returns-in-Some-clause-predecessor : goal.returns-in-Some-clause-predecessor
returns-in-Some-clause-predecessor g c =
    kept_is_least (g.S.WordSource.searched_text c.args.source.now).connection c.args.ends.now c.args.self.now c.args.left c.in-Some.predecessor c.requires.cached ((c.get.ensures c.in-Some.predecessor).0 c.in-Some.is)

pub add-requires : goal.add-requires
add-requires g c = new_where_none c.args.self.now c.args.left c.get.result c.get.ensures c.in-None.is

pub returns-in_ok-add-in-None-clause-cached : goal.returns-in_ok-add-in-None-clause-cached
returns-in_ok-add-in-None-clause-cached g c = least_added (g.S.WordSource.searched_text c.args.source.now).connection c.args.ends.now c.args.self.now c.add.new.self c.args.left c.best_predecessor-predecessor.result c.requires.cached c.best_predecessor-predecessor.ensures c.in_ok-add-in-None.ensures
