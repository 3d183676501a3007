use Rattle.std.proofs.Common.{arith, ◌+◌, List, Some, length, subst, sym, ap, ◌≡◌, ℕ, slice_get}
use Rattle.mj_model.specs.declared.word.Word.{Word}
use Rattle.viterbi.specs.Search.Pruning.{AreForwardCosts}
use Rattle.viterbi.proofs.PrunedWords.{costs_more, predecessor_is_small, no_costs}
use Rattle.viterbi.proofs.Pushed.{Contains_from_get}
use Rattle.viterbi.proofs.search.pruning.list_words.Goals as goal

pub loop-i-init : goal.loop-i-init
loop-i-init g c =
    let t = g.S.WordSource.searched_text c.args.source.now in
    let ws = t.surface_words c.args.surface.now in
    record {
      predecessors = c.requires.predecessors;
      words = subst (AreForwardCosts t.connection c.args.ends.now ws 0) (sym c.clear.ensures.items) (no_costs t.connection c.args.ends.now ws);
    }

pub word-word-requires : goal.word-word-requires
word-word-requires g c =
    let all = ap length c.words_of-its_words.ensures in
    let count = c.requires.surface.count_is in
    omega (arith, all, count, c.loop-i.auto.i-end, c.loop-i-test.true)

pub predecessor-requires-clause-pairs : goal.predecessor-requires-clause-pairs
predecessor-requires-clause-pairs g c =
    let t = g.S.WordSource.searched_text c.args.source.now in
    let ws = t.surface_words c.args.surface.now in
    let at = subst (λ (xs : List Word). slice_get xs c.loop-i.i ≡ Some c.word-word.result) c.words_of-its_words.ensures c.word-word.ensures in
    c.requires.words.pairs c.word-word.result (Contains_from_get ws c.loop-i.i c.word-word.result at)

pub predecessor-requires-clause-cached : goal.predecessor-requires-clause-cached
predecessor-requires-clause-cached g c = c.loop-i.invariant.predecessors

pub word_end-requires : goal.word_end-requires
word_end-requires g c =
    let t = g.S.WordSource.searched_text c.args.source.now in
    predecessor_is_small t.connection c.args.ends.now c.word-word.result.left c.in_ok-found.found c.requires.words.forward_costs c.requires.words.connections c.in_ok-found.ensures.predecessor

pub loop-i-preserved : goal.loop-i-preserved
loop-i-preserved g c =
    let t = g.S.WordSource.searched_text c.args.source.now in
    let ws = t.surface_words c.args.surface.now in
    let at = subst (λ (xs : List Word). slice_get xs c.loop-i.i ≡ Some c.word-word.result) c.words_of-its_words.ensures c.word-word.ensures in
    record {
      predecessors = c.in_ok-found.ensures.cached;
      words = subst (AreForwardCosts t.connection c.args.ends.now ws (c.loop-i.i + 1)) (sym c.in_ok-push.ensures.items)
          (costs_more t.connection c.args.ends.now ws c.loop-i.i c.loop-i.words.items c.word-word.result c.in_ok-found.found c.word_end.result c.loop-i.invariant.words at c.in_ok-found.ensures.predecessor c.word_end.ensures);
    }

pub returns-clause-predecessors : goal.returns-clause-predecessors
returns-clause-predecessors g c = c.loop-i.invariant.predecessors

pub returns-clause-words : goal.returns-clause-words
returns-clause-words g c =
    let t = g.S.WordSource.searched_text c.args.source.now in
    let all : c.loop-i.i ≡ c.args.surface.now.count = omega (arith, c.loop-i.auto.i-end, c.loop-i-test.false) in
    subst (λ (n : ℕ). AreForwardCosts t.connection c.args.ends.now (t.surface_words c.args.surface.now) n c.loop-i.words.items) all c.loop-i.invariant.words
