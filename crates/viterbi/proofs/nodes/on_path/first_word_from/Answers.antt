use Rattle.std.proofs.Common.{arith}
use Rattle.viterbi.proofs.OnPathLemmas.{before_more, first_past, first_there}
use Rattle.viterbi.proofs.nodes.on_path.first_word_from.Goals as goal

pub loop-number-init : goal.loop-number-init
loop-number-init c = record {
  low = omega arith;
  within = c.requires;
  before = λ k w low less at. absurd (omega (arith, low, less));
}

pub loop-number-preserved : goal.loop-number-preserved
loop-number-preserved c =
    let low = c.loop-number.invariant.low in
    let less = c.loop-number-test.true in
    record {
      low = omega (arith, low);
      within = omega (arith, less);
      before = before_more c.args.path.now c.args.from c.args.place c.loop-number.number less c.if-place-path.false c.loop-number.invariant.before;
    }

pub returns : goal.returns
returns c =
    first_past c.args.path.now c.args.from c.args.place c.loop-number.number c.loop-number.invariant.low c.loop-number.invariant.within c.loop-number-test.false c.loop-number.invariant.before

pub returns-then-place-path : goal.returns-then-place-path
returns-then-place-path c =
    first_there c.args.path.now c.args.from c.args.place c.loop-number.number c.loop-number.invariant.low c.loop-number-test.true c.if-place-path.true c.loop-number.invariant.before
