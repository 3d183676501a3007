use Rattle.std.proofs.Common.{arith, ◌*◌, ◌≤◌, List, [], ◌∷◌, inl, length, subst, sym}
use Rattle.viterbi.specs.declared.search.node.EndNode.{EndNode}
use Rattle.viterbi.specs.Search.Pruning.{AreAlone, HaveNumbersBelow, few_words}
use Rattle.mj_model.specs.Lists.{GrowsBy}
use Rattle.viterbi.proofs.PrunedWords.{kept_alone, kept_mostly, kept_whole, numbers_below}
use Rattle.viterbi.proofs.search.pruning.Pruning.add_pruned.Goals as goal

pub returns-then-surface-le-MANY_WORDS-clause-appended : goal.returns-then-surface-le-MANY_WORDS-clause-appended
returns-then-surface-le-MANY_WORDS-clause-appended g c =
    let t = g.S.WordSource.searched_text c.args.source.now in
    let s = c.args.surface.now in
    let count = c.requires.surface.count_is in
    let few : length (t.surface_words s) ≤ few_words = omega (arith, count, c.if-surface-le-MANY_WORDS.true) in
    (s ∷ [], kept_whole t c.args.ends.now s c.requires.surface (inl few), c.in_ok-push.ensures.items)

pub returns-then-surface-len-clause-appended : goal.returns-then-surface-len-clause-appended
returns-then-surface-len-clause-appended g c =
    let t = g.S.WordSource.searched_text c.args.source.now in
    let s = c.args.surface.now in
    let words = c.list_words.new.words.items in
    let left = c.prune_ends.new.ends.items in
    let most : s.count ≤ 4 * length left = omega (arith, c.if-surface-len.true, c.len.ensures, c.prune_ends.new.ends.ok.0) in (
      s ∷ [],
      kept_whole t c.args.ends.now s c.requires.surface
          (kept_mostly t c.args.ends.now s words left c.requires.surface c.in_ok-list_words.ensures.words c.in_ok-prune_ends.ensures.left c.in_ok-prune_ends.ensures.pruned most),
      c.in_ok-push-2.ensures.items,
    )

pub add_single_word_surfaces-requires-clause-numbers : goal.add_single_word_surfaces-requires-clause-numbers
add_single_word_surfaces-requires-clause-numbers g c =
    let t = g.S.WordSource.searched_text c.args.source.now in
    let s = c.args.surface.now in
    subst (HaveNumbersBelow s.count) (sym c.deref.ensures.value)
    (numbers_below t.connection c.args.ends.now (t.surface_words s) s.count c.list_words.new.words.items c.prune_ends.new.ends.items c.in_ok-list_words.ensures.words c.in_ok-prune_ends.ensures.left)

pub returns-clause-appended : goal.returns-clause-appended
returns-clause-appended g c =
    let t = g.S.WordSource.searched_text c.args.source.now in
    let s = c.args.surface.now in
    let f = t.surface_words in
    let old = c.args.self.now.kept.items in
    let new = c.add_single_word_surfaces.new.kept.items in
    let grown = subst (λ (es : List EndNode). GrowsBy (AreAlone f s es (length es)) old new) c.deref.ensures.value c.in_ok-add_single_word_surfaces.ensures in (
      grown.0,
      kept_alone t c.args.ends.now s c.list_words.new.words.items c.prune_ends.new.ends.items grown.0 c.requires.surface c.in_ok-list_words.ensures.words c.in_ok-prune_ends.ensures.left c.in_ok-prune_ends.ensures.pruned grown.1,
      grown.2,
    )
