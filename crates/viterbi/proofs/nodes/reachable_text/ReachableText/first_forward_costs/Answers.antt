use Rattle.std.proofs.Common.{◌≡◌, ◌<◌, ◌∙◌, Option, length, refl, ap, arith}
use Rattle.std.proofs.lemmas.List.{length_push}
use Rattle.mj_model.specs.declared.word.Word.{Word}
use Rattle.std.proofs.lemmas.Option.{slice_get_read}
use Rattle.viterbi.specs.declared.nodes.cost.ChainCost.{ChainCost}
use Rattle.viterbi.specs.Nodes.Least.{IsLeastOf, number_of}
use Rattle.viterbi.specs.Nodes.ForwardCosts.{CostsUpToBelow}
use Rattle.viterbi.proofs.SourceLemmas.{follows_bos}
use Rattle.viterbi.proofs.StepLemmas.{started, started_all, holds_pushed}
use Rattle.viterbi.proofs.nodes.reachable_text.ReachableText.first_forward_costs.Goals as goal

pub first_forward_cost-requires : goal.first_forward_cost-requires
first_forward_cost-requires g c =
    let t = g.S.WordSource.searched_text c.args.self.now.source.now in
    let r = c.args.self.now.reached.now in
    let i = c.loop-i.i in
    let ok = r.words.ok in
    let less : i < length r.words.items = omega (arith, c.loop-i-test.true, c.len-i-end.ensures, ok.0) in
    follows_bos t r c.requires.source c.requires.reached i c.index.result.now (slice_get_read r.words.items (length r.words.items) i c.index.result.now refl less c.index.ensures)

pub loop-i-preserved : goal.loop-i-preserved
loop-i-preserved g c =
    let t = g.S.WordSource.searched_text c.args.self.now.source.now in
    let r = c.args.self.now.reached.now in
    let i = c.loop-i.i in
    let ok = r.words.ok in
    let less : i < length r.words.items = omega (arith, c.loop-i-test.true, c.len-i-end.ensures, ok.0) in
    let w = c.index.result.now in
    let at = slice_get_read r.words.items (length r.words.items) i w refl less c.index.ensures in
    let long = c.loop-i.invariant.long in
    record {
      long = ap length c.in_ok-push.ensures.items ∙ (let more = length_push c.loop-i.forward_costs.items c.first_forward_cost.result in omega (arith, more, long));
      each = holds_pushed (λ (v : Word) (o : Option ChainCost). IsLeastOf (CostsUpToBelow t.words t.connection r.words.items 0 v) (number_of o)) r.words.items c.loop-i.forward_costs.items c.push.new.self.items c.first_forward_cost.result i w
          long at c.in_ok-push.ensures.items (started t r c.requires.source c.requires.reached i w c.first_forward_cost.result at c.first_forward_cost.ensures) c.loop-i.invariant.each;
    }

pub returns : goal.returns
returns g c =
    let t = g.S.WordSource.searched_text c.args.self.now.source.now in
    let r = c.args.self.now.reached.now in
    let ok = r.words.ok in
    let long = c.loop-i.invariant.long in
    let all : length c.loop-i.forward_costs.items ≡ length r.words.items = omega (arith, long, c.loop-i.auto.i-end, c.loop-i-test.false, c.len-i-end.ensures, ok.0) in
    started_all t r c.requires.source c.requires.reached c.loop-i.forward_costs.items all c.loop-i.invariant.each
