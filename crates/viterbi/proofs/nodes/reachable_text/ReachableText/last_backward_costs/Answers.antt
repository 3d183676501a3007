use Rattle.std.proofs.Common.{◌≡◌, ◌<◌, ◌∙◌, List, Option, length, refl, subst, ap, arith}
use Rattle.std.proofs.lemmas.List.{length_push}
use Rattle.mj_model.specs.declared.word.Word.{Word}
use Rattle.std.proofs.lemmas.Option.{slice_get_read}
use Rattle.viterbi.specs.declared.nodes.cost.ChainCost.{ChainCost}
use Rattle.viterbi.specs.Nodes.Least.{IsLeastOf, number_of}
use Rattle.viterbi.specs.Nodes.BackwardCosts.{CostsToEosBelow, IsLastEnd}
use Rattle.viterbi.proofs.SourceLemmas.{eos_follows}
use Rattle.viterbi.proofs.StepLemmas.{ended, ended_all, holds_pushed}
use Rattle.viterbi.proofs.nodes.reachable_text.ReachableText.last_backward_costs.Goals as goal

pub eos_cost-requires : goal.eos_cost-requires
eos_cost-requires g c =
    let t = g.S.WordSource.searched_text c.args.self.now.source.now in
    let r = c.args.self.now.reached.now in
    let i = c.loop-i.i in
    let ok = r.words.ok in
    let less : i < length r.words.items = omega (arith, c.loop-i-test.true, c.len-i-end.ensures, ok.0) in
    eos_follows t r c.requires.source c.requires.reached i c.index.result.now (slice_get_read r.words.items (length r.words.items) i c.index.result.now refl less c.index.ensures)

pub loop-i-preserved : goal.loop-i-preserved
loop-i-preserved g c =
    let t = g.S.WordSource.searched_text c.args.self.now.source.now in
    let r = c.args.self.now.reached.now in
    let i = c.loop-i.i in
    let ok = r.words.ok in
    let less : i < length r.words.items = omega (arith, c.loop-i-test.true, c.len-i-end.ensures, ok.0) in
    let w = c.index.result.now in
    let at = slice_get_read r.words.items (length r.words.items) i w refl less c.index.ensures in
    let long = c.loop-i.invariant.long in
    record {
      long = ap length c.in_ok-push.ensures.items ∙ (let more = length_push c.loop-i.backward_costs.items c.eos_cost.result in omega (arith, more, long));
      each = holds_pushed (λ (v : Word) (o : Option ChainCost). IsLeastOf (CostsToEosBelow t.words t.connection r.words.items 0 v) (number_of o)) r.words.items c.loop-i.backward_costs.items c.push.new.self.items c.eos_cost.result i w
          long at c.in_ok-push.ensures.items (ended t r c.requires.source c.requires.reached c.last_end_position-last.result i w c.eos_cost.result (subst (λ (ws : List Word). IsLastEnd ws c.last_end_position-last.result) c.deref.ensures.value c.last_end_position-last.ensures) at c.eos_cost.ensures) c.loop-i.invariant.each;
    }

pub returns : goal.returns
returns g c =
    let t = g.S.WordSource.searched_text c.args.self.now.source.now in
    let r = c.args.self.now.reached.now in
    let ok = r.words.ok in
    let long = c.loop-i.invariant.long in
    let all : length c.loop-i.backward_costs.items ≡ length r.words.items = omega (arith, long, c.loop-i.auto.i-end, c.loop-i-test.false, c.len-i-end.ensures, ok.0) in
    ended_all t r c.requires.source c.requires.reached c.loop-i.backward_costs.items all c.loop-i.invariant.each
