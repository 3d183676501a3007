use Rattle.std.proofs.Common.{◌∙◌, ap, sym}
use Rattle.viterbi.specs.Search.BestNodes.{words_of_numbers}
use Rattle.viterbi.specs.Search.Nodes.{node_words}
use Rattle.viterbi.proofs.BacktraceNumbers.{next_of_numbers}
use Rattle.viterbi.proofs.search.best_words.BestWordsWordStream.next_word.Goals as goal

pub returns : goal.returns
returns g c =
    let words = node_words (g.S.WordSource.searched_text c.self.inside.source.now).surface_words c.self.inside.by_surface.now in
    sym c.self.view_is ∙ ap (words_of_numbers words) c.in_ok-node.ensures.cases.0
    ∙ next_of_numbers words c.in_ok-node.before.now c.in_ok-node.node.now c.node_word-word.result c.node_word-word.ensures
