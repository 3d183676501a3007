use Rattle.std.proofs.Common.{◌≡◌, ◌+◌, ◌∙◌, ℕ, List, Option, None, drop, length, get_or, refl, sym, ap, subst, arith}
use Rattle.std.proofs.lemmas.List.{take_at}
use Rattle.std.proofs.lemmas.Option.{slice_get-get_or}
use Rattle.viterbi.specs.Rivals.AllRivals.{AreBetter}
use Rattle.viterbi.specs.declared.rivals.rival.Rival.{Rival}
use Rattle.viterbi.proofs.AllRivalsLemmas.{AreBestTo, best_all, best_more, best_none, first_of_all}
use Rattle.viterbi.proofs.RivalsStateLemmas.{no_node}
use Rattle.viterbi.proofs.rivals.all_rivals.best_rivals.Goals as goal

pub loop-number-init : goal.loop-number-init
loop-number-init c =
    let path = c.args.path.now in
    let bests = c.resize.new.self in
    let ok = bests.ok in
    let by = c.in_ok-resize.ensures.by_index in
    best_none c.args.nodes.now path bests.items (omega (arith, c.in_ok-resize.ensures.len, ok.0))
    (λ k less. by.1 k None refl (omega (arith, c.new-bests.ensures.len)) (omega (arith, less)))

pub first_word_from-first-requires : goal.first_word_from-first-requires
first_word_from-first-requires c = c.loop-number.invariant.within

pub update_best_rivals-requires-clause-long : goal.update_best_rivals-requires-clause-long
update_best_rivals-requires-clause-long c = ap length c.deref_mut.ensures.value ∙ c.loop-number.invariant.long

pub update_best_rivals-requires-clause-first : goal.update_best_rivals-requires-clause-first
update_best_rivals-requires-clause-first c =
    let nodes = c.args.nodes.now in
    let i = c.loop-number.number in
    first_of_all nodes c.args.path.now c.requires.nodes i c.loop-number.first c.first_word_from-first.result (get_or nodes i no_node) c.loop-number.bests.items (slice_get-get_or nodes i no_node c.loop-number-test.true) c.first_word_from-first.ensures c.loop-number.invariant

pub loop-number-preserved : goal.loop-number-preserved
loop-number-preserved c =
    let nodes = c.args.nodes.now in
    let path = c.args.path.now in
    let i = c.loop-number.number in
    let n = get_or nodes i no_node in
    let found = c.first_word_from-first.result in
    let new = c.update_best_rivals.new.bests in
    let old = c.loop-number.bests.items in
    let ok = c.loop-number.bests.ok in
    let better : AreBetter path old i n new = subst (λ (os : List (Option Rival)). AreBetter path os i n new) c.deref_mut.ensures.value c.update_best_rivals.ensures in
    let size : length new ≡ c.loop-number.bests.len = better.long ∙ sym ok.0 in
    let more = best_more nodes path c.requires.nodes i c.loop-number.first found n old (slice_get-get_or nodes i no_node c.loop-number-test.true) c.first_word_from-first.ensures c.loop-number.invariant new better in
    subst (AreBestTo nodes path (i + 1) found) (sym (take_at new (drop (length new) old) c.loop-number.bests.len size)) more

pub returns : goal.returns
returns c = λ words conn len lattice.
    let nodes = c.args.nodes.now in
    let path = c.args.path.now in
    let all : c.loop-number.number ≡ length nodes = omega (arith, c.loop-number.auto.number-end, c.loop-number-test.false) in
    best_all nodes path words conn len lattice c.loop-number.first c.loop-number.bests.items (subst (λ (n : ℕ). AreBestTo nodes path n c.loop-number.first c.loop-number.bests.items) all c.loop-number.invariant)
