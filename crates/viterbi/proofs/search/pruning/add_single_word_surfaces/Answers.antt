use Rattle.std.proofs.Common.{rules, arith, ◌<◌, ◌++◌, ◌∷◌, [], List, length, get_or, subst, sym, ap, ◌∙◌, ◌≡◌, Fits, w32, ℕ}
use Rattle.std.proofs.lemmas.List.{append-nil, append_assoc}
use Rattle.std.proofs.lemmas.Option.{slice_get-get_or}
use Rattle.mj_model.specs.Lists.{GrowsBy}
use Rattle.mj_model.specs.declared.paths.surface.Surface.{Surface}
use Rattle.viterbi.specs.Search.Pruning.{AreAlone}
use Rattle.viterbi.proofs.PrunedWords.{alone_more}
use Rattle.viterbi.proofs.PruningLemmas.{no_end}
use Rattle.viterbi.proofs.search.pruning.add_single_word_surfaces.Goals as goal

pub overflow_cast-number : goal.overflow_cast-number
overflow_cast-number g c =
    let words = c.args.words.now in
    let rank = c.loop-rank.rank in
    let fits : Fits w32 c.args.surface.count = search rules in
    let within : rank < length words = omega (arith, c.loop-rank.auto.rank-end, c.loop-rank-test.true) in
    let low = c.requires.numbers rank (get_or words rank no_end) (slice_get-get_or words rank no_end within) in
    omega (arith, low, fits)

pub single_word_surface-requires-clause-within : goal.single_word_surface-requires-clause-within
single_word_surface-requires-clause-within g c =
    let words = c.args.words.now in
    let rank = c.loop-rank.rank in
    let within : rank < length words = omega (arith, c.loop-rank.auto.rank-end, c.loop-rank-test.true) in
    c.requires.numbers rank (get_or words rank no_end) (slice_get-get_or words rank no_end within)

pub loop-rank-init : goal.loop-rank-init
loop-rank-init g c = ([], record { long = omega arith; each = λ r one at. absurd (cc) }, sym (append-nil c.args.kept.now.items))

pub loop-rank-preserved : goal.loop-rank-preserved
loop-rank-preserved g c =
    let f = (g.S.WordSource.searched_text c.args.source.now).surface_words in
    let words = c.args.words.now in
    let rank = c.loop-rank.rank in
    let within : rank < length words = omega (arith, c.loop-rank.auto.rank-end, c.loop-rank-test.true) in
    let grown = c.loop-rank.invariant in
    let one = c.single_word_surface.result in (
      grown.0 ++ one ∷ [],
      alone_more f c.args.surface words rank grown.0 one (get_or words rank no_end) grown.1 (slice_get-get_or words rank no_end within) c.single_word_surface.ensures,
      c.in_ok-push.ensures.items ∙ ap (λ (xs : List Surface). xs ++ one ∷ []) grown.2 ∙ append_assoc c.args.kept.now.items grown.0 (one ∷ []),
    )

pub returns : goal.returns
returns g c =
    let f = (g.S.WordSource.searched_text c.args.source.now).surface_words in
    let words = c.args.words.now in
    let all : c.loop-rank.rank ≡ length words = omega (arith, c.loop-rank.auto.rank-end, c.loop-rank-test.false) in
    subst (λ (n : ℕ). GrowsBy (AreAlone f c.args.surface words n) c.args.kept.now.items c.loop-rank.kept.items) all c.loop-rank.invariant
