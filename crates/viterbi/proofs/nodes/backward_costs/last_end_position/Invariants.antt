use Rattle.std.proofs.Common.{take}
use Rattle.viterbi.specs.Nodes.BackwardCosts.{IsLastEnd}
use Rattle.viterbi.proofs.nodes.backward_costs.last_end_position.Given as goal

abbrev pub invariant-loop-word : goal.invariant-loop-word
invariant-loop-word l = IsLastEnd (take l.word-index l.words) l.last
