use Rattle.std.proofs.Common.{arith, ◌≡◌, ℕ, ◌+◌, ◌-◌, ◌++◌, List, get_or, length, take, drop, Some, subst, sym, ap, ◌∙◌, slice_get, vec_len}
use Rattle.mj_model.specs.declared.word.Word.{Word}
use Rattle.viterbi.specs.Search.StartPositions.{AreKeptFrom}
use Rattle.viterbi.proofs.KeptWords.{copied_kept, kept_pairs, kept_small, kept_forward_costs, many_kept, one_more_kept}
use Rattle.viterbi.specs.Search.SearchedText.{with_words}
use Rattle.viterbi.proofs.WordNumbers.{count_at, no_surface, whole_at}
use Rattle.viterbi.proofs.search.start_position.StartPosition.add_words.Goals as goal

pub overflow_sub-from : goal.overflow_sub-from
overflow_sub-from g c =
    let t = g.S.WordSource.searched_text c.args.source.now in
    let number = c.args.number in
    let count = count_at c.args.self.now.surfaces.now number no_surface c.requires.number in
    let added = subst (λ (n : ℕ). AreKeptFrom t c.args.self.now number n c.args.by_surface.now c.args.backpointers.now.items) count c.requires.added in
    let enough = many_kept t c.args.self.now number c.requires.number c.args.by_surface.now c.requires.last c.requires.follows (c.matches_next.ensures c.if-matches_next.true) c.args.backpointers.now.items added in
    let size = c.len.ensures ∙ c.args.backpointers.now.ok.0 in
    omega (arith, enough, size)

pub extend_from_within-requires-clause-start_le_end : goal.extend_from_within-requires-clause-start_le_end
extend_from_within-requires-clause-start_le_end g c = let size = c.len.ensures in omega (arith, size)

pub returns-then-matches_next-clause-added : goal.returns-then-matches_next-clause-added
returns-then-matches_next-clause-added g c =
    let t = g.S.WordSource.searched_text c.args.source.now in
    let number = c.args.number in
    let by_surface = c.args.by_surface.now in
    let backpointers = c.args.backpointers.now.items in
    let its = (get_or c.args.self.now.surfaces.now number no_surface).count in
    let count = count_at c.args.self.now.surfaces.now number no_surface c.requires.number in
    let added = subst (λ (n : ℕ). AreKeptFrom t c.args.self.now number n by_surface backpointers) count c.requires.added in
    let alike = c.matches_next.ensures c.if-matches_next.true in
    let enough = many_kept t c.args.self.now number c.requires.number by_surface c.requires.last c.requires.follows alike backpointers added in
    let size = c.len.ensures ∙ c.args.backpointers.now.ok.0 in
    let whole : vec_len c.args.backpointers.now - (c.len.result - its) ≡ its = omega (arith, enough, size, c.len.ensures) in
    let copies = ap (λ (n : ℕ). backpointers ++ take n (drop (c.len.result - its) backpointers)) whole ∙ ap (λ (n : ℕ). backpointers ++ take its (drop (n - its) backpointers)) size in
    subst (AreKeptFrom t c.args.self.now number 0 by_surface) (sym (c.in_ok-extend_from_within.ensures.items ∙ copies))
    (copied_kept t c.args.self.now number c.requires.number by_surface c.requires.last c.requires.follows alike backpointers added)

pub loop-i-init : goal.loop-i-init
loop-i-init g c =
    let count = count_at c.args.self.now.surfaces.now c.args.number no_surface c.requires.number in
    record {
      within = omega (arith, count);
      added = subst (λ (n : ℕ). AreKeptFrom (g.S.WordSource.searched_text c.args.source.now) c.args.self.now c.args.number n c.args.by_surface.now c.args.backpointers.now.items) count c.requires.added;
      predecessors = c.requires.predecessors;
    }

pub word-word-requires : goal.word-word-requires
word-word-requires g c =
    let t = g.S.WordSource.searched_text c.args.source.now in
    let surfaces = c.args.self.now.surfaces.now in
    let count = count_at surfaces c.args.number no_surface c.requires.number in
    let whole = (whole_at (with_words t c.requires.added.kept) c.args.self.now.start surfaces c.requires.added.place.surfaces c.args.number no_surface c.requires.number).count_is in
    let all = ap length c.words_of-words.ensures in
    let low = c.loop-i.invariant.within in
    let some = c.loop-i-test.true in
    omega (arith, count, whole, all, low, some)

pub predecessor-requires-clause-some : goal.predecessor-requires-clause-some
predecessor-requires-clause-some g c = c.requires.added.place.some

pub predecessor-requires-clause-forward_costs : goal.predecessor-requires-clause-forward_costs
predecessor-requires-clause-forward_costs g c =
    let t = g.S.WordSource.searched_text c.args.source.now in
    let i = c.loop-i.i - 1 in
    let backpointers = c.loop-i.backpointers.items in
    let some = c.loop-i-test.true in
    let same : c.loop-i.i ≡ i + 1 = omega (arith, some) in
    let its = subst (λ (ws : List Word). slice_get ws i ≡ Some c.word-word.result) c.words_of-words.ensures c.word-word.ensures in
    let added = subst (λ (n : ℕ). AreKeptFrom t c.args.self.now c.args.number n c.args.by_surface.now backpointers) same c.loop-i.invariant.added in
    kept_forward_costs t c.args.self.now c.args.number c.requires.number c.args.by_surface.now backpointers i c.word-word.result its added

pub predecessor-requires-clause-pairs : goal.predecessor-requires-clause-pairs
predecessor-requires-clause-pairs g c =
    let t = g.S.WordSource.searched_text c.args.source.now in
    let i = c.loop-i.i - 1 in
    let backpointers = c.loop-i.backpointers.items in
    let some = c.loop-i-test.true in
    let same : c.loop-i.i ≡ i + 1 = omega (arith, some) in
    let its = subst (λ (ws : List Word). slice_get ws i ≡ Some c.word-word.result) c.words_of-words.ensures c.word-word.ensures in
    let added = subst (λ (n : ℕ). AreKeptFrom t c.args.self.now c.args.number n c.args.by_surface.now backpointers) same c.loop-i.invariant.added in
    kept_pairs t c.args.self.now c.args.number c.requires.number c.args.by_surface.now backpointers i c.word-word.result its added

pub after-requires : goal.after-requires
after-requires g c =
    let t = g.S.WordSource.searched_text c.args.source.now in
    let i = c.loop-i.i - 1 in
    let backpointers = c.loop-i.backpointers.items in
    let some = c.loop-i-test.true in
    let same : c.loop-i.i ≡ i + 1 = omega (arith, some) in
    let its = subst (λ (ws : List Word). slice_get ws i ≡ Some c.word-word.result) c.words_of-words.ensures c.word-word.ensures in
    let added = subst (λ (n : ℕ). AreKeptFrom t c.args.self.now c.args.number n c.args.by_surface.now backpointers) same c.loop-i.invariant.added in
    kept_small t c.args.self.now c.args.number c.requires.number c.args.by_surface.now backpointers i c.word-word.result its added c.in_ok-found.found c.in_ok-found.ensures.predecessor

pub loop-i-preserved : goal.loop-i-preserved
loop-i-preserved g c =
    let t = g.S.WordSource.searched_text c.args.source.now in
    let i = c.loop-i.i - 1 in
    let backpointers = c.loop-i.backpointers.items in
    let some = c.loop-i-test.true in
    let same : c.loop-i.i ≡ i + 1 = omega (arith, some) in
    let its = subst (λ (ws : List Word). slice_get ws i ≡ Some c.word-word.result) c.words_of-words.ensures c.word-word.ensures in
    let added = subst (λ (n : ℕ). AreKeptFrom t c.args.self.now c.args.number n c.args.by_surface.now backpointers) same c.loop-i.invariant.added in
    let within = c.loop-i.invariant.within in
    record {
      within = omega (arith, within);
      added = subst (AreKeptFrom t c.args.self.now c.args.number i c.args.by_surface.now) (sym c.in_ok-push.ensures.items)
          (one_more_kept t c.args.self.now c.args.number c.requires.number c.args.by_surface.now backpointers i c.word-word.result its added c.requires.last c.after.result c.in_ok-found.found c.after.ensures.node c.after.ensures.right c.in_ok-found.ensures.predecessor);
      predecessors = c.in_ok-found.ensures.cached;
    }
