use Rattle.std.proofs.Common.{◌≡◌, ℕ, length, get_or, refl, subst, arith}
use Rattle.std.proofs.lemmas.Option.{slice_get-get_or}
use Rattle.viterbi.proofs.RivalsStateLemmas.{no_node}
use Rattle.viterbi.proofs.PlaceLemmas.{AreIndexedTo, indexed_all, indexed_more, indexed_none}
use Rattle.viterbi.proofs.rivals.places.firsts_of.Goals as goal

pub loop-number-init : goal.loop-number-init
loop-number-init c = indexed_none c.args.nodes.now c.new-firsts.result.items c.new-firsts.ensures.items

pub overflow_add-nodes : goal.overflow_add-nodes
overflow_add-nodes c =
    let nodes = c.args.nodes.now in
    let i = c.loop-number.number in
    let low = (c.requires.low i (get_or nodes i no_node) (slice_get-get_or nodes i no_node c.loop-number-test.true)).0 in
    omega (arith, low)

pub loop-number-preserved : goal.loop-number-preserved
loop-number-preserved c =
    let nodes = c.args.nodes.now in
    let i = c.loop-number.number in
    let n = get_or nodes i no_node in
    let here = slice_get-get_or nodes i no_node c.loop-number-test.true in
    let firsts = c.loop-number.firsts in
    let old_ok = firsts.ok in
    let new_ok = c.resize.new.self.ok in
    let by = c.in_ok-resize.ensures.by_index in
    let reach = c.loop-number.invariant.low i n (omega arith) here in
    indexed_more nodes c.requires.nodes i n here firsts.items c.loop-number.invariant c.resize.new.self.items (omega (arith, c.in_ok-resize.ensures.len, new_ok.0))
    (λ k less. by.0 k 0 (omega (arith, less, reach)) (omega (arith, less, old_ok.0)))
    (λ k past less. by.1 k 0 refl (omega (arith, past, old_ok.0)) less)

pub returns : goal.returns
returns c =
    let nodes = c.args.nodes.now in
    let all : c.loop-number.number ≡ length nodes = omega (arith, c.loop-number.auto.number-end, c.loop-number-test.false) in
    indexed_all nodes c.loop-number.firsts.items (subst (λ (n : ℕ). AreIndexedTo nodes n c.loop-number.firsts.items) all c.loop-number.invariant)
